use Rattle.std.proofs.Common.{arith, ap, ◌+◌, sym, refl, subst, ◌∙◌}
use Rattle.svga_ring.specs.Conditions.{MayStoreCell}
use Rattle.svga_ring.specs.Core.{StoreCell, put_count}
use Rattle.svga_ring.specs.Layouts.{word_address, word_cell}
use Rattle.svga_link.proofs.DriverSteps.{driver_kept, driver_stores, driver_view}
use Rattle.svga_link.proofs.DriverTold.{next_after_put}
use Rattle.svga_link.proofs.Offsets.{offset_of, table_stays}
use Rattle.svga_link.specs.Told.{with_pending}
use Rattle.svga_link.proofs.driver_seat.DriverSeat.store_cell.Goals as goal

pub store-requires : goal.store-requires
store-requires c =
    let b = c.self.invariant.0 in
    let i = c.self.invariant.1 in
    let d = c.self.inside.seat.me.0.of_driver in
    let at = offset_of c.self.inside.session c.self.inside.next (put_count d) (i.next_is ∙ ap (λ l. word_address l (put_count d)) i.layout) in
    let may = subst MayStoreCell (sym (ap (λ s. s.view) c.self.view_is)) c.requires in (
      b.one_table ∙ ap (λ b. b.shared.table_id) (sym c.deref.ensures),
      omega (arith, b.words, at.below, c.self.inside.session.within.ring_end.most, ap (λ b. b.shared.table_id.words) (sym c.deref.ensures)),
      driver_stores _ _ _ _ (StoreCell c.args.word) _ _ i.role (may, c.ranges.word.fits) tt (at.cell ∙ ap (λ l. word_cell l (put_count d)) (sym i.layout)) (λ n. refl),
    )

pub invariant_of-self : goal.invariant_of-self
invariant_of-self c =
    let i = c.self.invariant.1 in
    let d = c.self.inside.seat.me.0.of_driver in
    let t = c.store.ensures.2.2 in
    let view = driver_view _ _ _ (StoreCell c.args.word) _ (λ d. with_pending d c.args.word) t (λ core. refl) in
    let behind = c.word_behind-self-inside.ensures (put_count d) (i.next_is ∙ ap (λ l. word_address l (put_count d)) i.layout) in (
      table_stays _ _ _ _ _ c.self.invariant.0 c.store.ensures.0,
      driver_kept _ _ _ _ (StoreCell c.args.word) _ _ _ _ i t (λ core. refl) (λ core. refl) (λ core. refl) (λ core. refl)
          (behind ∙ ap (λ l. word_address l (put_count d + 1)) (sym i.layout) ∙ next_after_put d _ c.args.word view),
    )
