use Rattle.std.proofs.Common.{ap, ◌∙◌}
use Rattle.svga_driver.proofs.LendingLaws.{none_lent, set_of}
use Rattle.svga_driver.proofs.lending.Lendings.new.Goals as goal

pub returns : goal.returns
returns c = ap (set_of c.args.limits) c.in_ok-row.ensures ∙ none_lent c.args.limits _
