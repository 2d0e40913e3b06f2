use Rattle.std.proofs.Common.{arith, IsSome, sym, ap, subst, ◌∙◌}
use Rattle.std.specs.FinMap as map
use Rattle.svga_driver.proofs.LendingLaws.{set_touched}
use Rattle.svga_driver.proofs.Rows.{row_keys, row_within}
use Rattle.svga_driver.specs.LendingSet.{LendingSet, with_touched}
use Rattle.svga_driver.proofs.lending.Lendings.touch.Goals as goal

pub slot-i-requires : goal.slot-i-requires
slot-i-requires c =
    row_keys c.self.inside.limits c.self.inside.row.items c.args.key c.self.invariant.1
    (subst (λ (s : LendingSet). IsSome (map.get s.lent c.args.key)) (sym c.self.view_is) c.requires)

pub returns : goal.returns
returns c =
    let is = row_keys c.self.inside.limits c.self.inside.row.items c.args.key c.self.invariant.1
    (subst (λ (s : LendingSet). IsSome (map.get s.lent c.args.key)) (sym c.self.view_is) c.requires) in
    set_touched c.self.inside.limits c.self.inside.row.items c.args.key is c.self.invariant.1 c.slot-i.result
    c.slot-i.ensures c.args.command c.args.fences
    ∙ ap (λ s. with_touched s c.args.key c.args.command c.args.fences) c.self.view_is

pub index_mut-requires : goal.index_mut-requires
index_mut-requires c =
    let is = row_keys c.self.inside.limits c.self.inside.row.items c.args.key c.self.invariant.1
    (subst (λ (s : LendingSet). IsSome (map.get s.lent c.args.key)) (sym c.self.view_is) c.requires) in
    let low = row_within c.self.inside.limits c.self.inside.row.items c.args.key is c.self.invariant.1 in
    omega (arith, low, c.slot-i.ensures)
