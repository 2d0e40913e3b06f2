use Rattle.std.proofs.Common.{[], ◌∷◌, Some, ap, sym, ◌∙◌}
use Rattle.std.specs.FinSet as set
use Rattle.svga_ring.proofs.Pages.Locations.{in_here}
use Rattle.svga_ring.specs.SharedTable.{slot_number}
use Rattle.svga_link.proofs.DriverPages.{lent_again, seat_giving}
use Rattle.svga_link.specs.Seats.{SeenDriverSeat}
use Rattle.svga_link.proofs.driver_pages.lend.Goals as goal

pub give_page-requires-clause-out : goal.give_page-requires-clause-out
give_page-requires-clause-out c =
    ap (λ (s : SeenDriverSeat). set.contains s.view.out c.args.key) (c.exchange.ensures.left)
    ∙ ap (λ (s : SeenDriverSeat). set.contains s.view.out c.args.key) c.take_slot_out.ensures
    ∙ in_here c.args.seat.now.view.out c.args.key

pub returns : goal.returns
returns c =
    let key = c.args.key in
    let page = c.args.page in
    let brought = ap (λ (s : SeenDriverSeat). s.carried) c.exchange.ensures.left
    ∙ ap (λ (s : SeenDriverSeat). (slot_number s.view.terms.limits key, Some page) ∷ []) (sym c.exchange.ensures.left) in
    c.give_page.ensures page brought
    ∙ ap (seat_giving key page) c.exchange.ensures.left
    ∙ ap (seat_giving key page) c.take_slot_out.ensures
    ∙ (λ i. record c.args.seat.now {
      view = lent_again c.args.seat.now.view key page c.requires.none_out i;
      carried = sym c.requires.none_carried i;
    })
