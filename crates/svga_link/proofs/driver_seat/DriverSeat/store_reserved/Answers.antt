use Rattle.std.proofs.Common.{arith, [], ◌≡◌, ap, sym, refl, subst, ◌∙◌}
use Rattle.svga_cmd.specs.declared.session.Way.TheVariants.{Reserve}
use Rattle.svga_ring.specs.Core.{StoreReserved}
use Rattle.svga_ring.specs.RingPieces.{next_offset}
use Rattle.svga_ring.specs.Views.{DriverView}
use Rattle.svga_link.proofs.DriverSteps.{driver_kept, driver_stores, driver_view}
use Rattle.svga_link.proofs.Offsets.{table_stays}
use Rattle.svga_link.specs.Told.{with_reserved}
use Rattle.svga_link.proofs.driver_seat.DriverSeat.store_reserved.Goals as goal

pub store-requires : goal.store-requires
store-requires c =
    let b = c.self.invariant.0 in
    let may = subst (λ (d : DriverView). (d.terms.way ≡ Reserve) × (d.pending ≡ []))
    (sym (ap (λ s. s.view) c.self.view_is)) (c.requires.way, c.requires.none_pending) in (
      b.one_table ∙ ap (λ b. b.shared.table_id) (sym c.deref.ensures),
      omega (arith, b.words, ap (λ b. b.shared.table_id.words) (sym c.deref.ensures)),
      driver_stores _ _ _ _ (StoreReserved c.args.bytes) _ _ c.self.invariant.1.role may tt refl (λ n. refl),
    )

pub invariant_of-self : goal.invariant_of-self
invariant_of-self c =
    let i = c.self.invariant.1 in
    let t = c.store.ensures.2.2 in
    let view = driver_view _ _ _ (StoreReserved c.args.bytes) _ (λ d. with_reserved d c.args.bytes) t (λ core. refl) in (
      table_stays _ _ _ _ _ c.self.invariant.0 c.store.ensures.0,
      driver_kept _ _ _ _ (StoreReserved c.args.bytes) _ _ _ _ i t (λ core. refl) (λ core. refl) (λ core. refl) (λ core. refl)
          (i.next_is ∙ sym (ap next_offset view)),
    )
