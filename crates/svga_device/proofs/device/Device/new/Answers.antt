use Rattle.std.proofs.Common.{◌≡◌, ◌-◌, false, sym, ap, subst, ◌∙◌}
use Rattle.std.specs.FinMap as map
use Rattle.std.specs.FinMap.{get-empty}
use Rattle.svga_cmd.specs.Pages.{key_cmp, page_at}
use Rattle.svga_cmd.specs.declared.page.PageKey.{PageKey}
use Rattle.svga_decode.specs.DecoderStates.{DecoderState, IsLive, begun_words}
use Rattle.svga_machine.specs.MachineSet.{MachineSet}
use Rattle.svga_model.specs.Sentences.{IsCommandBegun}
use Rattle.svga_model.specs.States.{opening_kept}
use Rattle.svga_ring.proofs.Pages.Noted.{held_unnoted}
use Rattle.svga_ring.specs.Noting.{holds}
use Rattle.svga_ring.specs.Views.{DeviceView}
use Rattle.svga_device.proofs.NotedLaws.{no_page}
use Rattle.svga_device.proofs.ReadingLaws.{nothing_begun}
use Rattle.svga_device.proofs.ServingLaws.{no_pages}
use Rattle.svga_device.proofs.TellingShown.{nothing_yet}
use Rattle.svga_head.specs.Plugs.{plug_states}
use Rattle.svga_device.proofs.device.Device.new.Goals as goal

pub invariant_of-result : goal.invariant_of-result
invariant_of-result g c =
    let limits = c.requires.unused.1 in
    let view = c.requires.unused.2 in
    let fence = c.opening_fence.ensures ∙ ap (λ (e : DeviceView). e.terms.first - 1) view in
    let none : (key : PageKey) → holds c.args.end.view.noted key ≡ false =
    λ key. ap (λ (e : DeviceView). holds e.noted key) view ∙ held_unnoted map.empty key (get-empty key_cmp key) in (
      record {
        kept = ap (λ (e : DeviceView). e.kept) view ∙ sym (λ i. record (opening_kept (limits i) 1) { fence = fence i })
            ∙ sym (ap (λ (m : MachineSet). m.kept) c.in-Ok.ensures.machine);
        limits = ap (λ (e : DeviceView). e.terms.limits) view ∙ sym (ap (λ (e : DeviceView). e.kept.limits) view);
        noted = ap (λ (e : DeviceView). e.noted) view;
        pages = no_pages c.args.end.pages (λ key. no_page (page_at c.args.end.pages key) (sym (c.facts.ensures.held key) ∙ none key));
      },
      record {
        live = subst (λ (d : DecoderState). IsLive d.last) (sym c.in-Ok.ensures.decoder) tt;
        words = ap (λ (d : DecoderState). begun_words d) c.in-Ok.ensures.decoder ∙ sym (ap (λ (e : DeviceView). e.read) view);
        begun = subst (λ (e : DeviceView). IsCommandBegun e.read) (sym view) nothing_begun;
      },
      c.in-Ok.ensures.held,
      (
        plug_states g.B.Head.state c.args.heads,
        nothing_yet c.args.end.view.kept.screens (plug_states g.B.Head.state c.args.heads) (ap (λ (e : DeviceView). e.kept.screens) view),
      ),
    )

pub returns-in-Ok-clause-shows : goal.returns-in-Ok-clause-shows
returns-in-Ok-clause-shows g c =
    nothing_yet c.args.end.view.kept.screens (plug_states g.B.Head.state c.args.heads)
    (ap (λ (e : DeviceView). e.kept.screens) c.requires.unused.2)
