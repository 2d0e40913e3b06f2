use Rattle.svga_driver.proofs.LoadLaws.{driver_settled}
use Rattle.svga_driver.proofs.driver.Driver.settle.Goals as goal

pub invariant_of-self : goal.invariant_of-self
invariant_of-self c =
    let t = c.settle_request.ensures in
    driver_settled c.self.invariant _ _ c.settle_request.result t.end t.asked t.answer
