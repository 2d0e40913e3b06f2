use Rattle.std.proofs.Common.{ap, sym, subst, ◌∙◌, IsTrue, rules}
use Rattle.svga_cmd.specs.Pages.{page_at}
use Rattle.svga_link.proofs.PageRows.{found_there, keys_there}
use Rattle.svga_link.proofs.PagesKept.{none_there_is}
use Rattle.svga_link.specs.Ends.{DriverSeen, pages_in}
use Rattle.svga_link.proofs.driver.DriverEnd.page.Goals as goal

pub returns-then-is_key : goal.returns-then-is_key
returns-then-is_key c =
    let e = c.self.inside in
    let l = e.seat.view.terms.limits in
    let is_key = c.is_key.ensures.0 c.if-is_key.true in
    c.as_ref.ensures.value
    ∙ sym (found_there l e.row.items c.args.key c.slot.result c.index.result.now c.self.invariant.row_is c.slot.ensures
    c.index.ensures is_key)
    ∙ ap (λ (d : DriverSeen). page_at d.pages c.args.key) c.self.view_is

pub returns-else-is_key : goal.returns-else-is_key
returns-else-is_key c =
    let e = c.self.inside in
    let l = e.seat.view.terms.limits in
    none_there_is (page_at (pages_in l e.row.items) c.args.key) (λ has.
    let is_key = keys_there l e.row.items c.args.key c.self.invariant.row_is has in
    let no = subst IsTrue c.if-is_key.false (c.is_key.ensures.1 is_key) in search (rules, no))
    ∙ ap (λ (d : DriverSeen). page_at d.pages c.args.key) c.self.view_is
