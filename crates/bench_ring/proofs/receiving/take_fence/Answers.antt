use Rattle.std.proofs.Common.{ap, refl, sym, subst, ◌∙◌, ◌≡◌, false}
use Rattle.std.specs.FinMap as map
use Rattle.svga_cmd.specs.Pages.{key_cmp}
use Rattle.svga_cmd.specs.declared.command.Command.TheVariants.{Fence}
use Rattle.svga_link.specs.Ends.{DeviceSeen}
use Rattle.svga_link.specs.Holding.{with_fence}
use Rattle.svga_ring.proofs.Pages.Noted.{held_unnoted}
use Rattle.svga_ring.specs.Conditions.{IsServed}
use Rattle.svga_ring.specs.Noting.{NotedPages, holds, known_state}
use Rattle.bench_ring.proofs.PassedCommands.{fence_alone}
use Rattle.bench_ring.proofs.receiving.take_fence.Goals as goal

pub finds-requires-clause-spelled : goal.finds-requires-clause-spelled
finds-requires-clause-spelled g c = (Fence c.args.number, record { well_formed = tt; words = c.fence.ensures })

pub store_stop-requires : goal.store_stop-requires
store_stop-requires g c =
    let n = c.args.number in
    let e = c.finds.new.device.view in
    let there : IsServed (with_fence e) (Fence n) = record {
      read_whole = record { well_formed = tt; words = c.if-not-finds.ensures.read refl ∙ c.fence.ensures };
      none_held = λ key. subst (λ (m : NotedPages). holds m key ≡ false) (sym c.finds.ensures.noted) (c.requires.none_held key);
      given = λ key touched. absurd (fence_alone (known_state (with_fence e)) n key touched);
      all_given = λ key touched. absurd (fence_alone (known_state (with_fence e)) n key touched);
      fence = λ value is. refl;
    } in
    (Fence n, subst (λ (d : DeviceSeen). IsServed d.view (Fence n)) (sym c.store_fence.ensures) there)

pub returns : goal.returns
returns g c = λ found.
    let n = c.args.number in
    let read = ap (λ d. d.view.read) c.store_fence.ensures ∙ c.if-not-finds.ensures.read refl ∙ c.fence.ensures in
    let left = c.store_stop.ensures (Fence n) (record { well_formed = tt; words = read }) in record {
      none_read = ap (λ d. d.view.read) left;
      none_held = λ key. ap (λ d. holds d.view.noted key) left ∙ held_unnoted map.empty key (map.get-empty key_cmp key);
    }
