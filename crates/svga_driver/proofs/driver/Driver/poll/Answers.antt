use Rattle.svga_driver.proofs.LoadLaws.{driver_polled}
use Rattle.svga_driver.proofs.driver.Driver.poll.Goals as goal

pub invariant_of-self : goal.invariant_of-self
invariant_of-self c =
    let t = c.see_fences-self-inside.ensures in
    driver_polled c.self.invariant _ t.told.0 t.told.1 t.end _ t.seen
