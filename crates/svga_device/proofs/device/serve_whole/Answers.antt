use Rattle.std.proofs.Common.{sym, ap, subst, ◌∙◌}
use Rattle.svga_link.specs.Ends.{DeviceSeen}
use Rattle.svga_model.proofs.ValidStateLaws.{step_limits}
use Rattle.svga_model.specs.Acts.{Do}
use Rattle.svga_cmd.specs.Lent.{command_of}
use Rattle.svga_cmd.specs.Spelling.{Spells}
use Rattle.svga_head.specs.Plugs.{plug_states}
use Rattle.svga_head.specs.Showing.{AllShow}
use Rattle.svga_model.specs.Pictures.{pictures_of}
use Rattle.svga_model.specs.States.{Kept, State}
use Rattle.svga_device.specs.Telling.{SomeShow}
use Rattle.svga_device.specs.Serving.{IsRun}
use Rattle.svga_device.proofs.device.serve_whole.Goals as goal

pub returns-clause-resting : goal.returns-clause-resting
returns-clause-resting g c =
    let t = c.serve-effect.ensures in
    let r = c.requires.resting in
    let view = ap (λ (d : DeviceSeen). d.view) t.taken in
    let before : State = record { kept = c.args.machine.now.kept; memory = t.ran.pages } in
    let limits = ap (λ (s : State). s.kept.limits) t.ran.stepped ∙ step_limits before (Do (command_of c.in-Some.command)) in
    record {
      kept = ap (λ e. e.kept) view;
      limits = ap (λ e. e.terms.limits) view ∙ r.limits ∙ ap (λ k. k.limits) r.kept ∙ sym limits ∙ sym (ap (λ e. e.kept.limits) view);
      noted = ap (λ e. e.noted) view;
      pages = ap (λ (d : DeviceSeen). d.pages) t.taken ∙ r.pages;
    }

pub serve-effect-requires-clause-showing : goal.serve-effect-requires-clause-showing
serve-effect-requires-clause-showing g c =
    subst (λ (k : Kept). SomeShow (pictures_of k.screens) (plug_states g.B.Head.state c.args.heads.now)) c.requires.resting.kept c.requires.showing

pub returns-clause-served : goal.returns-clause-served
returns-clause-served g c =
    let t = c.serve-effect.ensures in
    let command = command_of c.in-Some.command in (
      c.serve-effect.result,
      record {
        command = command;
        spells = subst (Spells command) c.requires.whole.words c.in-Some.ensures.command;
        kept = c.serve-effect.new.machine.kept;
        ran = subst (λ k. IsRun k command c.serve-effect.result c.serve-effect.new.machine.kept) (sym c.requires.resting.kept) t.ran;
        taken = ap (λ (d : DeviceSeen). d.view) t.taken;
      },
      t.quiet,
    )

pub returns-clause-shows : goal.returns-clause-shows
returns-clause-shows g c = λ first shows.
    let t = c.serve-effect.ensures in
    let now = ap (λ (d : DeviceSeen). d.view.kept) t.taken in
    subst (λ (k : Kept). AllShow (pictures_of k.screens) first (plug_states g.B.Head.state c.serve-effect.new.heads)) (sym now)
    (t.shows first (subst (λ (k : Kept). AllShow (pictures_of k.screens) first (plug_states g.B.Head.state c.args.heads.now)) c.requires.resting.kept shows))
