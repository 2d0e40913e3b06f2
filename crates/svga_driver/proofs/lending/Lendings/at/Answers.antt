use Rattle.std.proofs.Common.{sym, ap, ◌∙◌}
use Rattle.std.specs.FinMap as map
use Rattle.svga_driver.proofs.LendingLaws.{lent_at, lent_off, touched_at, touched_off}
use Rattle.svga_driver.proofs.Rows.{row_is}
use Rattle.svga_driver.specs.LendingSet.{LendingSet}
use Rattle.svga_driver.proofs.lending.Lendings.at.Goals as goal

pub returns-then-is_page-clause-lent : goal.returns-then-is_page-clause-lent
returns-then-is_page-clause-lent c =
    let is = row_is c.self.inside.limits c.args.key (sym c.is_page.ensures ∙ c.if-is_page.true) in
    sym (lent_at c.self.inside.limits c.self.inside.row.items c.args.key is c.self.invariant.1 c.slot.result
    c.slot.ensures c.index.result.now c.index.ensures)
    ∙ ap (λ (s : LendingSet). map.get s.lent c.args.key) c.self.view_is

pub returns-then-is_page-clause-touched : goal.returns-then-is_page-clause-touched
returns-then-is_page-clause-touched c =
    let is = row_is c.self.inside.limits c.args.key (sym c.is_page.ensures ∙ c.if-is_page.true) in
    ap (λ (s : LendingSet). map.get s.touched c.args.key) (sym c.self.view_is)
    ∙ touched_at c.self.inside.limits c.self.inside.row.items c.args.key is c.self.invariant.1 c.slot.result
    c.slot.ensures c.index.result.now c.index.ensures

pub returns-else-is_page-clause-lent : goal.returns-else-is_page-clause-lent
returns-else-is_page-clause-lent c =
    sym (lent_off c.self.inside.limits c.self.inside.row.items c.args.key c.self.invariant.1
    (sym c.is_page.ensures ∙ c.if-is_page.false))
    ∙ ap (λ (s : LendingSet). map.get s.lent c.args.key) c.self.view_is

pub returns-else-is_page-clause-touched : goal.returns-else-is_page-clause-touched
returns-else-is_page-clause-touched c =
    ap (λ (s : LendingSet). map.get s.touched c.args.key) (sym c.self.view_is)
    ∙ touched_off c.self.inside.limits c.self.inside.row.items c.args.key c.self.invariant.1
    (sym c.is_page.ensures ∙ c.if-is_page.false)
