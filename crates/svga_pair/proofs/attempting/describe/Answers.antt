use Rattle.std.proofs.Common.{sym, subst}
use Rattle.svga_model.specs.ClientActs.{DescribeRegion}
use Rattle.svga_pair.proofs.DescribeLaws.{describe_done, describe_not}
use Rattle.svga_pair.specs.Going.{HasTried}
use Rattle.svga_pair.proofs.attempting.describe.Goals as goal

pub returns-in-Ok : goal.returns-in-Ok
returns-in-Ok c =
    describe_done c.args.driver.now c.args.id c.args.first _ c.describe.new.self c.in-Ok.ensures

pub returns-in-Err : goal.returns-in-Err
returns-in-Err c =
    subst (λ a. HasTried c.args.driver.now (DescribeRegion c.args.id c.args.first) a c.describe.new.self)
    (sym c.fault_answer.ensures)
    (describe_not c.args.driver.now c.args.id c.args.first c.in-Err.fault c.describe.new.self c.in-Err.ensures)
