use Rattle.std.proofs.Common.{IsSome, slice_set, arith, ap, sym, subst, ◌∙◌}
use Rattle.svga_cmd.specs.Pages.{HasPage}
use Rattle.svga_ring.proofs.Pages.Locations.{slot_there}
use Rattle.svga_link.proofs.PageRows.{found_there, keys_there}
use Rattle.svga_link.proofs.PagesKept.{driver_end_lent, end_lent, is_mine, lent_seen}
use Rattle.svga_link.specs.Ends.{DriverSeen, IsDriverEnd, pages_in}
use Rattle.svga_link.proofs.driver.DriverEnd.lend.Goals as goal

pub index_mut-requires : goal.index_mut-requires
index_mut-requires c =
    let e = c.self.inside in
    let l = e.seat.view.terms.limits in
    let has : HasPage (pages_in l e.row.items) c.args.key =
    subst (λ (d : DriverSeen). HasPage d.pages c.args.key) (sym c.self.view_is) c.requires in
    let is_key = keys_there l e.row.items c.args.key c.self.invariant.row_is has in
    let low = slot_there l c.args.key is_key in omega (arith, c.slot-slot.ensures, low, c.self.invariant.row_is, e.row.ok.0)

pub unwrap-page-requires : goal.unwrap-page-requires
unwrap-page-requires c =
    let e = c.self.inside in
    let l = e.seat.view.terms.limits in
    let has : HasPage (pages_in l e.row.items) c.args.key =
    subst (λ (d : DriverSeen). HasPage d.pages c.args.key) (sym c.self.view_is) c.requires in
    let is_key = keys_there l e.row.items c.args.key c.self.invariant.row_is has in
    let there = found_there l e.row.items c.args.key c.slot-slot.result c.index_mut.result.now c.self.invariant.row_is
    c.slot-slot.ensures c.index_mut.ensures.value is_key in
    subst IsSome (there ∙ sym c.take.ensures.value) has

pub lend-requires-clause-key : goal.lend-requires-clause-key
lend-requires-clause-key c =
    let e = c.self.inside in
    let l = e.seat.view.terms.limits in
    let has : HasPage (pages_in l e.row.items) c.args.key =
    subst (λ (d : DriverSeen). HasPage d.pages c.args.key) (sym c.self.view_is) c.requires in
    let is_key = keys_there l e.row.items c.args.key c.self.invariant.row_is has in
    is_key

pub lend-requires-clause-mine : goal.lend-requires-clause-mine
lend-requires-clause-mine c =
    let e = c.self.inside in
    let l = e.seat.view.terms.limits in
    let has : HasPage (pages_in l e.row.items) c.args.key =
    subst (λ (d : DriverSeen). HasPage d.pages c.args.key) (sym c.self.view_is) c.requires in
    let is_key = keys_there l e.row.items c.args.key c.self.invariant.row_is has in
    is_mine _ _ _ _ _ _ _ c.args.key c.self.invariant has

pub invariant_of-self : goal.invariant_of-self
invariant_of-self c =
    let e = c.self.inside in
    let l = e.seat.view.terms.limits in
    let has : HasPage (pages_in l e.row.items) c.args.key =
    subst (λ (d : DriverSeen). HasPage d.pages c.args.key) (sym c.self.view_is) c.requires in
    let is_key = keys_there l e.row.items c.args.key c.self.invariant.row_is has in
    subst (λ row. IsDriverEnd c.lend.new.seat.view c.lend.new.seat.carried e.reserved e.in_place e.buffer.items e.filled row)
    (λ i. slice_set e.row.items (sym c.slot-slot.ensures i) (sym c.take.ensures.after i))
    (driver_end_lent _ _ _ _ _ _ _ _ e.row.items c.args.key c.unwrap-page.result c.self.invariant is_key
    (ap (λ s. s.view) c.lend.ensures) (ap (λ s. s.carried) c.lend.ensures))

pub returns : goal.returns
returns c =
    let e = c.self.inside in
    let l = e.seat.view.terms.limits in
    let has : HasPage (pages_in l e.row.items) c.args.key =
    subst (λ (d : DriverSeen). HasPage d.pages c.args.key) (sym c.self.view_is) c.requires in
    let is_key = keys_there l e.row.items c.args.key c.self.invariant.row_is has in
    let there = found_there l e.row.items c.args.key c.slot-slot.result c.index_mut.result.now c.self.invariant.row_is
    c.slot-slot.ensures c.index_mut.ensures.value is_key in
    lent_seen e.seat c.lend.new.seat e.reserved e.buffer.items e.filled e.row.items c.args.key c.slot-slot.result
    _ c.unwrap-page.result c.lend.ensures c.slot-slot.ensures c.take.ensures.after
    (there ∙ sym c.take.ensures.value ∙ c.unwrap-page.ensures) is_key c.self.invariant.row_is
    ∙ ap (end_lent c.args.key) c.self.view_is
