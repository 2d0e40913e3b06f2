use Rattle.std.proofs.Common.{arith, ap, sym, refl, subst, true, List, ℕ, Some, [], ◌∷◌, ◌≡◌, ◌∙◌}
use Rattle.std.specs.FinSet as set
use Rattle.svga_cmd.specs.Pages.{IsKey}
use Rattle.svga_ring.proofs.Pages.Locations.{slot_there}
use Rattle.atomic_table.specs.Table.{rest}
use Rattle.svga_ring.specs.Locations.{Slot}
use Rattle.svga_link.specs.contracts.driver_seat.DriverSeat.{the_view}
use Rattle.svga_ring.specs.Core.{Give}
use Rattle.svga_ring.specs.RingPieces.{next_offset}
use Rattle.svga_ring.specs.SharedTable.{page_word, slot_number}
use Rattle.svga_ring.specs.Views.{DriverView, Terms}
use Rattle.svga_link.proofs.DriverPages.{gives_page, seat_giving}
use Rattle.svga_link.proofs.DriverSteps.{driver_kept, driver_view, seat_left}
use Rattle.svga_link.proofs.Offsets.{table_stays}
use Rattle.svga_link.specs.DriverPlays.{IsWordOf}
use Rattle.svga_link.specs.Lending.{giving}
use Rattle.svga_link.specs.Seats.{SeenDriverSeat}
use Rattle.svga_link.proofs.driver_seat.DriverSeat.give_page.Goals as goal

pub store-requires : goal.store-requires
store-requires c =
    let b = c.self.invariant.0 in
    let i = c.self.invariant.1 in
    let me = c.self.inside.seat.me in
    let same = sym (ap (λ s. s.view) c.self.view_is) in
    let is_key = subst (λ (d : DriverView). IsKey d.terms.limits c.args.key) same c.requires.key in
    let on : IsWordOf c.page_word-word.result me c.args.key =
    (is_key, c.page_word-word.ensures ∙ ap (λ (t : Terms). page_word t.limits c.args.key) (sym i.terms)) in
    let out = subst (λ (d : DriverView). set.contains d.out c.args.key ≡ true) same c.requires.out in
    let bytes = c.requires.page.0 in
    let brought = subst (λ (s : SeenDriverSeat). s.carried ≡ (slot_number s.view.terms.limits c.args.key, Some bytes) ∷ [])
    (sym c.self.view_is) c.requires.page.2 in
    let own = subst (λ (t : Terms). IsKey t.limits c.args.key) i.terms is_key in
    let low = slot_there c.self.inside.session.limits c.args.key own in (
      b.one_table ∙ ap (λ b. b.shared.table_id) (sym c.deref.ensures),
      omega (arith, b.words, low, c.page_word-word.ensures, ap (λ b. b.shared.table_id.words) (sym c.deref.ensures)),
      gives_page _ _ _ _ c.args.key bytes _ i.role on out c.requires.page.1 ([], brought),
    )

pub invariant_of-self : goal.invariant_of-self
invariant_of-self c =
    let i = c.self.invariant.1 in
    let me = c.self.inside.seat.me in
    let same = sym (ap (λ s. s.view) c.self.view_is) in
    let is_key = subst (λ (d : DriverView). IsKey d.terms.limits c.args.key) same c.requires.key in
    let on : IsWordOf c.page_word-word.result me c.args.key =
    (is_key, c.page_word-word.ensures ∙ ap (λ (t : Terms). page_word t.limits c.args.key) (sym i.terms)) in
    let bytes = c.requires.page.0 in
    let brought = subst (λ (s : SeenDriverSeat). s.carried ≡ (slot_number s.view.terms.limits c.args.key, Some bytes) ∷ [])
    (sym c.self.view_is) c.requires.page.2 in
    let t = (c.store.ensures.2 c.args.key bytes on ([], brought)).2 in
    let view = driver_view _ _ _ (Give c.args.key bytes) _ (λ d. giving d c.args.key bytes) t (λ core. refl) in (
      table_stays _ _ _ _ _ c.self.invariant.0 c.store.ensures.0,
      driver_kept _ _ _ _ (Give c.args.key bytes) _ _ _ _ i t (λ core. refl) (λ core. refl) (λ core. refl) (λ core. refl)
          (i.next_is ∙ sym (ap next_offset view)),
    )

pub invariant_of-self-inside : goal.invariant_of-self-inside
invariant_of-self-inside c =
    let me = c.self.inside.seat.me in
    let same = sym (ap (λ s. s.view) c.self.view_is) in
    let is_key = subst (λ (d : DriverView). IsKey d.terms.limits c.args.key) same c.requires.key in
    let on : IsWordOf c.page_word-word.result me c.args.key =
    (is_key, c.page_word-word.ensures ∙ ap (λ (t : Terms). page_word t.limits c.args.key) (sym c.self.invariant.1.terms)) in
    let bytes = c.requires.page.0 in
    let brought = subst (λ (s : SeenDriverSeat). s.carried ≡ (slot_number s.view.terms.limits c.args.key, Some bytes) ∷ [])
    (sym c.self.view_is) c.requires.page.2 in
    let view = driver_view _ _ _ (Give c.args.key bytes) _ (λ d. giving d c.args.key bytes)
    (c.store.ensures.2 c.args.key bytes on ([], brought)).2 (λ core. refl) in
    (c.self.inside.counted ∙ sym (ap (λ d. d.next_stores) view), tt)

pub returns : goal.returns
returns c = λ bytes brought.
    let i = c.self.invariant.1 in
    let me = c.self.inside.seat.me in
    let same = sym (ap (λ s. s.view) c.self.view_is) in
    let is_key = subst (λ (d : DriverView). IsKey d.terms.limits c.args.key) same c.requires.key in
    let on : IsWordOf c.page_word-word.result me c.args.key =
    (is_key, c.page_word-word.ensures ∙ ap (λ (t : Terms). page_word t.limits c.args.key) (sym i.terms)) in
    let here = subst (λ (s : SeenDriverSeat). s.carried ≡ (slot_number s.view.terms.limits c.args.key, Some bytes) ∷ [])
    (sym c.self.view_is) brought in
    let t = (c.store.ensures.2 c.args.key bytes on ([], here)).2 in
    seat_left _ _ _ (Give c.args.key bytes) _ (λ d. giving d c.args.key bytes) t (λ core. refl) _ _ c.store.ensures.0
    ∙ ap (λ (l : List (ℕ × Slot)). record (seat_giving c.args.key bytes (the_view c.self.inside)) { carried = rest l }) here
    ∙ ap (seat_giving c.args.key bytes) c.self.view_is
