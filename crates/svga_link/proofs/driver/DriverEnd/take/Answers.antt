use Rattle.std.proofs.Common.{slice_set, ap, sym, subst, ◌∙◌}
use Rattle.svga_ring.specs.TableSteps.{page_left}
use Rattle.svga_link.proofs.PagesKept.{driver_end_taken, end_taken, taken_seen}
use Rattle.svga_link.specs.Ends.{DriverSeen, IsDriverEnd}
use Rattle.svga_link.specs.Lending.{MayTakeBack}
use Rattle.svga_link.proofs.driver.DriverEnd.take.Goals as goal

pub invariant_of-self : goal.invariant_of-self
invariant_of-self c =
    let e = c.self.inside in
    let may = subst (λ (d : DriverSeen). MayTakeBack d.view c.args.key) (sym c.self.view_is) c.requires in
    subst (λ row. IsDriverEnd c.take.new.seat.view c.take.new.seat.carried e.reserved e.in_place e.buffer.items e.filled row)
    (λ i. slice_set e.row.items (sym c.slot-slot.ensures i) (sym c.take.ensures.page i))
    (driver_end_taken _ _ _ _ _ _ _ _ e.row.items c.args.key (page_left e.seat.view c.args.key) c.self.invariant may.key_is
    (ap (λ s. s.view) c.take.ensures.left) (ap (λ s. s.carried) c.take.ensures.left))

pub returns : goal.returns
returns c =
    let e = c.self.inside in
    let may = subst (λ (d : DriverSeen). MayTakeBack d.view c.args.key) (sym c.self.view_is) c.requires in
    taken_seen e.seat c.take.new.seat e.reserved e.buffer.items e.filled e.row.items c.args.key c.slot-slot.result c.take.result
    c.take.ensures.left c.slot-slot.ensures c.take.ensures.page may.key_is c.self.invariant.row_is
    ∙ ap (end_taken c.args.key) c.self.view_is
