use Rattle.std.proofs.Common.{sym, subst}
use Rattle.svga_model.specs.ClientActs.{CommitFence}
use Rattle.svga_pair.proofs.DriverLaws.{fence_not}
use Rattle.svga_pair.specs.Going.{HasTried}
use Rattle.svga_pair.proofs.attempting.fence.Goals as goal

pub returns-in-Err : goal.returns-in-Err
returns-in-Err c =
    subst (λ a. HasTried c.args.driver.now CommitFence a c.fence.new.self) (sym c.fault_answer.ensures)
    (fence_not c.args.driver.now c.in-Err.fault c.fence.new.self c.in-Err.ensures)
