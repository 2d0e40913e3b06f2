use Rattle.std.proofs.Common.{[], ◌∷◌, Some, ap, sym, ◌∙◌}
use Rattle.std.specs.FinSet as set
use Rattle.svga_ring.proofs.Pages.Locations.{in_here}
use Rattle.svga_ring.specs.SharedTable.{slot_number}
use Rattle.svga_ring.specs.TableSteps.{page_left}
use Rattle.svga_link.proofs.DriverPages.{seat_home, taken_again}
use Rattle.svga_link.specs.Seats.{SeenDriverSeat}
use Rattle.svga_link.proofs.driver_pages.take.Goals as goal

pub exchange-page-requires : goal.exchange-page-requires
exchange-page-requires c =
    let key = c.args.key in
    let d = c.args.seat.now.view in (
      Some (page_left d key),
      ap (λ (s : SeenDriverSeat). s.carried) c.take_page.ensures
          ∙ ap (λ l. (slot_number d.terms.limits key, Some (page_left d key)) ∷ l) c.requires.none_carried
          ∙ ap (λ (s : SeenDriverSeat). (slot_number s.view.terms.limits key, Some (page_left d key)) ∷ []) (sym c.take_page.ensures),
    )

pub bring_slot_home-requires-clause-out : goal.bring_slot_home-requires-clause-out
bring_slot_home-requires-clause-out c =
    ap (λ (s : SeenDriverSeat). set.contains s.view.out c.args.key) c.exchange-page.ensures.left
    ∙ ap (λ (s : SeenDriverSeat). set.contains s.view.out c.args.key) c.take_page.ensures
    ∙ in_here c.args.seat.now.view.out c.args.key

pub returns-clause-left : goal.returns-clause-left
returns-clause-left c =
    let key = c.args.key in
    c.bring_slot_home.ensures
    ∙ ap (seat_home key) c.exchange-page.ensures.left
    ∙ ap (seat_home key) c.take_page.ensures
    ∙ (λ i. record c.args.seat.now {
      view = taken_again c.args.seat.now.view key c.requires.none_out i;
      carried = sym c.requires.none_carried i;
    })
