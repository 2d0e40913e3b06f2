use Rattle.std.proofs.Common.{[], ap, sym, subst, ◌∙◌}
use Rattle.svga_cmd.specs.Pages.{Memory}
use Rattle.svga_model.specs.Closings.{Closed}
use Rattle.svga_ring.specs.Views.{DriverView}
use Rattle.svga_link.proofs.ClosingLeft.{all_of, closed_is, own_of, pages_of}
use Rattle.svga_link.specs.Closing.{AreClosingPages, HasOwnPages, closing}
use Rattle.svga_link.specs.Ends.{pages_in}
use Rattle.svga_link.proofs.closing.close.Goals as goal

pub gather-requires-clause-own : goal.gather-requires-clause-own
gather-requires-clause-own c =
    let ends = c.into_parts-driver_seat.ensures in
    let view = sym (ap (λ s. s.view) c.into_parts-board.ensures.view) ∙ ends.seat.1 in
    own_of c.into_parts-board.result.1.me.0 c.into_seat-other.result.me.0 c.join.new.seat.me.0 c.last_fence-fence.new.seat.me.0
    c.last_fence-fence.new.seat.me.0 (ap (λ m. m.0) c.join.ensures.told) (ap (λ m. m.0) c.last_fence-fence.ensures.left)
    c.into_parts-driver_seat.result.1.items []
    (subst (λ (d : DriverView). HasOwnPages d c.into_parts-driver_seat.result.1.items) (sym view) ends.row)

pub new-requires : goal.new-requires
new-requires c =
    let ends = c.into_parts-driver_seat.ensures in
    let view = sym (ap (λ s. s.view) c.into_parts-board.ensures.view) ∙ ends.seat.1 in
    all_of c.into_parts-board.result.1.me.0 c.into_seat-other.result.me.0 c.join.new.seat.me.0 c.last_fence-fence.new.seat.me.0
    c.gather.new.seat.me.0 (ap (λ m. m.0) c.join.ensures.told) (ap (λ m. m.0) c.last_fence-fence.ensures.left)
    c.into_parts-driver_seat.result.1.items c.gather.new.row.items
    (subst (λ (d : DriverView). HasOwnPages d c.into_parts-driver_seat.result.1.items) (sym view) ends.row)
    c.into_parts-board.result.2 c.into_parts-board.ensures.seat.1.terms c.gather.ensures

pub returns-clause-left : goal.returns-clause-left
returns-clause-left c =
    let ends = c.into_parts-driver_seat.ensures in
    let parts = c.into_parts-board.ensures in
    let seat = parts.seat.1 in
    let last = c.last_fence-fence.ensures in
    let view = sym (ap (λ s. s.view) parts.view) ∙ ends.seat.1 in
    let pages : Memory = pages_in c.into_parts-board.result.2.limits c.gather.new.row.items in
    let is = closed_is c.into_parts-board.result.1.me.0 c.into_seat-other.result.me.0 c.join.new.seat.me.0 c.last_fence-fence.new.seat.me.0
    c.gather.new.seat.me.0 (ap (λ m. m.0) c.join.ensures.told) (ap (λ m. m.0) last.left) c.into_parts-driver_seat.result.1.items c.gather.new.row.items
    (subst (λ (d : DriverView). HasOwnPages d c.into_parts-driver_seat.result.1.items) (sym view) ends.row)
    c.into_parts-board.result.2 seat.terms c.gather.ensures _ _ _ seat.layout
    (ap (λ (d : DriverView). d.stopped) view ∙ c.requires.stopped) seat.next_is last.none_pending last.fence
    (parts.stores ∙ ap (λ s. s.view.next_stores) parts.view) last.taken last.kept in
    c.new.ensures ∙ is ∙ ap (λ (d : DriverView). closing d pages) view
    ∙ ap (closing c.args.driver.view) (sym (ap (λ (r : Closed). r.pages) c.new.ensures))

pub returns-clause-pages : goal.returns-clause-pages
returns-clause-pages c =
    let ends = c.into_parts-driver_seat.ensures in
    let view = sym (ap (λ s. s.view) c.into_parts-board.ensures.view) ∙ ends.seat.1 in
    let row = c.into_parts-driver_seat.result.1.items in
    let pages : Memory = pages_in c.into_parts-board.result.2.limits c.gather.new.row.items in
    let are = pages_of c.into_parts-board.result.1.me.0 c.into_seat-other.result.me.0 c.join.new.seat.me.0 c.last_fence-fence.new.seat.me.0
    c.gather.new.seat.me.0 (ap (λ m. m.0) c.join.ensures.told) (ap (λ m. m.0) c.last_fence-fence.ensures.left)
    c.into_parts-driver_seat.result.1.items c.gather.new.row.items
    (subst (λ (d : DriverView). HasOwnPages d row) (sym view) ends.row)
    c.into_parts-board.result.2 c.into_parts-board.ensures.seat.1.terms c.gather.ensures in
    let here = subst (λ (d : DriverView). AreClosingPages d (pages_in d.terms.limits row) pages) view are in
    let own = subst (λ (m : Memory). AreClosingPages c.args.driver.view m pages) (sym ends.pages) here in
    subst (λ (m : Memory). AreClosingPages c.args.driver.view c.args.driver.pages m)
    (sym (ap (λ (r : Closed). r.pages) c.new.ensures)) own
