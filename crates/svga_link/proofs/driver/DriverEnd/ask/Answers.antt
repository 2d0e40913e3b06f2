use Rattle.std.proofs.Common.{ap}
use Rattle.svga_link.proofs.PagesKept.{driver_end_asked}
use Rattle.svga_link.proofs.driver.DriverEnd.ask.Goals as goal

pub invariant_of-self : goal.invariant_of-self
invariant_of-self c =
    driver_end_asked _ _ _ _ _ _ _ _ c.args.id c.args.descriptor _ c.self.invariant
    (ap (λ s. s.view) c.store_request.ensures.left) (ap (λ s. s.carried) c.store_request.ensures.left)
