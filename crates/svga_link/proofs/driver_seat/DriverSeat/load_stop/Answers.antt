use Rattle.std.proofs.Common.{arith, ap, sym, refl, ◌∙◌}
use Rattle.svga_ring.specs.Core.{LoadStop}
use Rattle.svga_link.proofs.DriverSteps.{driver_kept, driver_loads}
use Rattle.svga_link.proofs.DriverTold.{stop_next}
use Rattle.svga_link.proofs.Offsets.{table_stays}
use Rattle.svga_link.proofs.driver_seat.DriverSeat.load_stop.Goals as goal

pub load-requires : goal.load-requires
load-requires c =
    let b = c.self.invariant.0 in (
      b.one_table ∙ ap (λ b. b.shared.table_id) (sym c.deref.ensures),
      omega (arith, b.words, ap (λ b. b.shared.table_id.words) (sym c.deref.ensures)),
      driver_loads _ _ _ _ LoadStop _ c.self.invariant.1.role tt tt refl (λ n. refl),
    )

pub invariant_of-self : goal.invariant_of-self
invariant_of-self c =
    let t = c.load.ensures.2.1 in (
      table_stays _ _ _ _ _ c.self.invariant.0 c.load.ensures.0,
      driver_kept _ _ _ _ LoadStop _ _ _ _ c.self.invariant.1 t (λ core. refl) (λ core. refl) (λ core. refl) (λ core. refl) (c.self.invariant.1.next_is ∙ stop_next _ _ _ _ t),
    )
