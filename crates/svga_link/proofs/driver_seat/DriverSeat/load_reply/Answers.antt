use Rattle.std.proofs.Common.{arith, ap, sym, refl, ◌∙◌}
use Rattle.svga_ring.specs.Core.{LoadReply}
use Rattle.svga_ring.specs.RingPieces.{next_offset}
use Rattle.svga_link.proofs.DriverSteps.{driver_kept, driver_loads}
use Rattle.svga_link.proofs.DriverRequests.{reply_is, reply_low}
use Rattle.svga_link.proofs.Offsets.{table_stays}
use Rattle.svga_link.proofs.driver_seat.DriverSeat.load_reply.Goals as goal

pub load-requires : goal.load-requires
load-requires c =
    let b = c.self.invariant.0 in (
      b.one_table ∙ ap (λ b. b.shared.table_id) (sym c.deref.ensures),
      omega (arith, b.words, ap (λ b. b.shared.table_id.words) (sym c.deref.ensures)),
      driver_loads _ _ _ _ LoadReply _ c.self.invariant.1.role tt tt refl (λ n. refl),
    )

pub overflow_cast-result : goal.overflow_cast-result
overflow_cast-result c = let low = reply_low _ _ _ _ c.load.ensures.2.1 in omega (arith, low)

pub invariant_of-self : goal.invariant_of-self
invariant_of-self c =
    let i = c.self.invariant.1 in
    let t = c.load.ensures.2.1 in
    let view = reply_is _ _ _ _ t in (
      table_stays _ _ _ _ _ c.self.invariant.0 c.load.ensures.0,
      driver_kept _ _ _ _ LoadReply _ _ _ _ i t (λ core. refl) (λ core. refl) (λ core. refl) (λ core. refl)
          (i.next_is ∙ sym (ap next_offset view)),
    )
