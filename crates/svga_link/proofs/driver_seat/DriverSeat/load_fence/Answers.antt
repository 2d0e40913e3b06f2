use Rattle.std.proofs.Common.{arith, ap, sym, refl, subst, ◌∙◌}
use Rattle.svga_ring.specs.Core.{LoadFence}
use Rattle.svga_ring.specs.RingPieces.{next_offset}
use Rattle.svga_link.proofs.DriverSteps.{driver_kept, driver_loads}
use Rattle.svga_link.proofs.DriverRequests.{fence_told}
use Rattle.svga_link.proofs.Offsets.{table_stays}
use Rattle.svga_link.specs.Lending.{FenceTold}
use Rattle.svga_link.specs.Seats.{SeenDriverSeat}
use Rattle.svga_link.proofs.driver_seat.DriverSeat.load_fence.Goals as goal

pub load-requires : goal.load-requires
load-requires c =
    let b = c.self.invariant.0 in (
      b.one_table ∙ ap (λ b. b.shared.table_id) (sym c.deref.ensures),
      omega (arith, b.words, ap (λ b. b.shared.table_id.words) (sym c.deref.ensures)),
      driver_loads _ _ _ _ LoadFence _ c.self.invariant.1.role tt tt refl (λ n. refl),
    )

pub invariant_of-self : goal.invariant_of-self
invariant_of-self c =
    let i = c.self.invariant.1 in
    let t = c.load.ensures.2.1 in (
      table_stays _ _ _ _ _ c.self.invariant.0 c.load.ensures.0,
      driver_kept _ _ _ _ LoadFence _ _ _ _ i t (λ core. refl) (λ core. refl) (λ core. refl) (λ core. refl)
          (i.next_is ∙ sym (ap next_offset (fence_told _ _ _ _ t).view)),
    )

pub returns-clause-told : goal.returns-clause-told
returns-clause-told c =
    subst (λ (s : SeenDriverSeat). FenceTold s.view c.load.new.seat.me.0.of_driver c.load.result) c.self.view_is
    (fence_told _ _ _ _ c.load.ensures.2.1)
