use Rattle.std.proofs.Common.{arith, ◌++◌, ap, sym, refl, subst, ◌∙◌}
use Rattle.svga_ring.specs.Conditions.{MayCommit}
use Rattle.svga_ring.specs.Core.{Commit}
use Rattle.svga_ring.specs.Views.{DriverView}
use Rattle.svga_link.proofs.DriverSteps.{driver_commits, driver_kept, driver_view}
use Rattle.svga_link.proofs.DriverTold.{next_after_sending, seat_sending, sent_seat, unsent_first}
use Rattle.svga_link.proofs.Offsets.{table_stays}
use Rattle.svga_link.specs.Told.{sending}
use Rattle.svga_link.proofs.StoreCounts.{few_stores}
use Rattle.svga_link.proofs.driver_seat.DriverSeat.send_named.Goals as goal

pub store-requires : goal.store-requires
store-requires g c =
    let b = c.self.invariant.0 in
    let i = c.self.invariant.1 in
    let command = c.requires.0 in
    let may = subst (λ d. MayCommit d command) (sym (ap (λ s. s.view) c.self.view_is)) c.requires.1 in (
      b.one_table ∙ ap (λ b. b.shared.table_id) (sym c.deref.ensures),
      omega (arith, b.words, ap (λ b. b.shared.table_id.words) (sym c.deref.ensures)),
      driver_commits _ _ _ _ _ _ command _ i.role may c.requires.2 refl i.next_is,
    )

pub invariant_of-self : goal.invariant_of-self
invariant_of-self g c =
    let i = c.self.invariant.1 in
    let own = c.store.ensures.2.0 in
    let t = c.store.ensures.2.2.2 in
    let view = driver_view _ _ _ (Commit own) _ (λ d. sending d own) t (λ core. refl) in (
      table_stays _ _ _ _ _ c.self.invariant.0 c.store.ensures.0,
      driver_kept _ _ _ _ (Commit own) _ _ _ _ i t (λ core. refl) (λ core. refl) (λ core. refl) (λ core. refl)
          (i.next_is ∙ next_after_sending _ _ own view),
    )

pub returns-clause-sent : goal.returns-clause-sent
returns-clause-sent g c = λ command spells.
    let t = c.store.ensures.2 in
    sent_seat _ _ _ _ t.0 command _ t.1 spells t.2.2 _ _ c.store.ensures.0 ∙ ap (seat_sending command) c.self.view_is

pub returns-clause-unsent : goal.returns-clause-unsent
returns-clause-unsent g c = λ more are.
    let t = c.store.ensures.2 in
    unsent_first _ _ _ _ t.0 _ more t.1 t.2.2 (are ∙ ap (λ (d : DriverView). d.pending ++ more) (sym (ap (λ s. s.view) c.self.view_is)))

pub overflow_add-self : goal.overflow_add-self
overflow_add-self g c = let few = few_stores _ c.self.invariant.1.possible in omega (arith, few, c.self.inside.counted)
