use Rattle.std.proofs.Common.{arith, ap, sym, refl, subst, false, ◌≡◌, ◌∙◌}
use Rattle.std.specs.FinSet as set
use Rattle.svga_cmd.specs.Pages.{IsKey}
use Rattle.svga_ring.proofs.Pages.Locations.{slot_there}
use Rattle.svga_ring.specs.Conditions.{NoSlotOut}
use Rattle.svga_ring.specs.Core.{SlotOut}
use Rattle.svga_ring.specs.RingPieces.{next_offset}
use Rattle.svga_ring.specs.SharedTable.{page_word}
use Rattle.svga_ring.specs.Views.{DriverView, Terms}
use Rattle.svga_link.proofs.DriverPages.{stores_on_page}
use Rattle.svga_link.proofs.DriverSteps.{driver_kept, driver_view}
use Rattle.svga_link.proofs.Offsets.{table_stays}
use Rattle.svga_link.specs.DriverPlays.{IsWordOf}
use Rattle.svga_link.specs.Lending.{with_slot_out}
use Rattle.svga_link.proofs.driver_seat.DriverSeat.take_slot_out.Goals as goal

pub store-requires : goal.store-requires
store-requires c =
    let b = c.self.invariant.0 in
    let i = c.self.invariant.1 in
    let me = c.self.inside.seat.me in
    let same = sym (ap (λ s. s.view) c.self.view_is) in
    let is_key = subst (λ (d : DriverView). IsKey d.terms.limits c.args.key) same c.requires.key in
    let on : IsWordOf c.page_word-word.result me c.args.key =
    (is_key, c.page_word-word.ensures ∙ ap (λ (t : Terms). page_word t.limits c.args.key) (sym i.terms)) in
    let mine = subst (λ (d : DriverView). set.contains d.lent c.args.key ≡ false) same c.requires.mine in
    let none = subst NoSlotOut same c.requires.none_out in
    let own = subst (λ (t : Terms). IsKey t.limits c.args.key) i.terms is_key in
    let low = slot_there c.self.inside.session.limits c.args.key own in (
      b.one_table ∙ ap (λ b. b.shared.table_id) (sym c.deref.ensures),
      omega (arith, b.words, low, c.page_word-word.ensures, ap (λ b. b.shared.table_id.words) (sym c.deref.ensures)),
      stores_on_page _ _ _ _ SlotOut c.args.key _ 3 i.role on (is_key, mine, none) tt on.1 (λ n. refl),
    )

pub invariant_of-self : goal.invariant_of-self
invariant_of-self c =
    let i = c.self.invariant.1 in
    let me = c.self.inside.seat.me in
    let same = sym (ap (λ s. s.view) c.self.view_is) in
    let is_key = subst (λ (d : DriverView). IsKey d.terms.limits c.args.key) same c.requires.key in
    let on : IsWordOf c.page_word-word.result me c.args.key =
    (is_key, c.page_word-word.ensures ∙ ap (λ (t : Terms). page_word t.limits c.args.key) (sym i.terms)) in
    let t = (c.store.ensures.2 c.args.key on).2 in
    let view = driver_view _ _ _ (SlotOut c.args.key) _ (λ d. with_slot_out d c.args.key) t (λ core. refl) in (
      table_stays _ _ _ _ _ c.self.invariant.0 c.store.ensures.0,
      driver_kept _ _ _ _ (SlotOut c.args.key) _ _ _ _ i t (λ core. refl) (λ core. refl) (λ core. refl) (λ core. refl)
          (i.next_is ∙ sym (ap next_offset view)),
    )
