use Rattle.svga_driver.proofs.LoadLaws.{driver_settled}
use Rattle.svga_driver.proofs.driver.Driver.close.Goals as goal

pub invariant_of-driver : goal.invariant_of-driver
invariant_of-driver c =
    let t = c.settle_request.ensures in
    driver_settled c.driver.invariant _ _ c.settle_request.result t.end t.asked t.answer
