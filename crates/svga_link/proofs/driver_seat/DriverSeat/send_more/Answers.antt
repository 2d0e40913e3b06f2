use Rattle.std.proofs.Common.{◌≡◌, length, arith, ◌++◌, ap, sym, refl, subst, ◌∙◌}
use Rattle.svga_ring.specs.Conditions.{IsFrontOf, unsent}
use Rattle.svga_ring.specs.Core.{SendMore}
use Rattle.svga_ring.specs.Views.{DriverView}
use Rattle.svga_link.proofs.DriverSteps.{driver_kept, driver_stores, driver_view}
use Rattle.svga_link.proofs.DriverTold.{next_after_more, unsent_next}
use Rattle.svga_link.proofs.Offsets.{table_stays}
use Rattle.svga_link.specs.Told.{sending_more}
use Rattle.svga_link.proofs.StoreCounts.{few_stores}
use Rattle.svga_link.proofs.driver_seat.DriverSeat.send_more.Goals as goal

pub store-requires : goal.store-requires
store-requires c =
    let b = c.self.invariant.0 in
    let i = c.self.invariant.1 in
    let may = subst (λ (d : DriverView). IsFrontOf d.pending (unsent d) × (length d.pending ≡ 1))
    (sym (ap (λ s. s.view) c.self.view_is)) (c.requires.front, c.requires.one) in (
      b.one_table ∙ ap (λ b. b.shared.table_id) (sym c.deref.ensures),
      omega (arith, b.words, ap (λ b. b.shared.table_id.words) (sym c.deref.ensures)),
      driver_stores _ _ _ _ SendMore _ _ i.role may tt refl (λ n. i.next_is),
    )

pub invariant_of-self : goal.invariant_of-self
invariant_of-self c =
    let i = c.self.invariant.1 in
    let t = c.store.ensures.2.2 in
    let view = driver_view _ _ _ SendMore _ sending_more t (λ core. refl) in (
      table_stays _ _ _ _ _ c.self.invariant.0 c.store.ensures.0,
      driver_kept _ _ _ _ SendMore _ _ _ _ i t (λ core. refl) (λ core. refl) (λ core. refl) (λ core. refl) (i.next_is ∙ next_after_more _ _ view),
    )

pub returns-clause-unsent : goal.returns-clause-unsent
returns-clause-unsent c = λ more are.
    let same = ap (λ s. s.view) c.self.view_is in
    unsent_next _ _ _ _ more c.store.ensures.2.2 (ap unsent same ∙ are ∙ ap (λ (d : DriverView). d.pending ++ more) (sym same))

pub overflow_add-self : goal.overflow_add-self
overflow_add-self c = let few = few_stores _ c.self.invariant.1.possible in omega (arith, few, c.self.inside.counted)
