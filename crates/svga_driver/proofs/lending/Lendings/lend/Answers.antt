use Rattle.std.proofs.Common.{sym, ap, subst, ◌∙◌}
use Rattle.svga_cmd.specs.Pages.{IsKey}
use Rattle.svga_driver.proofs.LendingLaws.{set_lent}
use Rattle.svga_driver.specs.LendingSet.{LendingSet, with_lent}
use Rattle.svga_driver.proofs.lending.Lendings.lend.Goals as goal

pub returns : goal.returns
returns c =
    let is = subst (λ (s : LendingSet). IsKey s.limits c.args.key) (sym c.self.view_is) c.requires in
    set_lent c.self.inside.limits c.self.inside.row.items c.args.key is c.self.invariant.1 c.slot-i.result
    c.slot-i.ensures
    ∙ ap (λ s. with_lent s c.args.key) c.self.view_is
