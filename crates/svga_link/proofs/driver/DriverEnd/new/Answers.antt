use Rattle.svga_link.proofs.Opening.{driver_end_opens}
use Rattle.svga_link.proofs.driver.DriverEnd.new.Goals as goal

pub invariant_of-result : goal.invariant_of-result
invariant_of-result c =
    driver_end_opens c.requires.opening.0 _ _ _ _ c.requires.opening.1 c.requires.carried c.requires.buffer c.requires.row
