use Rattle.svga_driver.proofs.TouchLaws.{IsTouching}
use Rattle.svga_region.specs.RegionSet.{places_in}
use Rattle.svga_driver.proofs.touching.touch_all.Given as goal

abbrev pub invariant-loop-k : goal.invariant-loop-k
invariant-loop-k l = IsTouching (places_in l.regions l.id) l.command l.fences l.initial.lendings l.lendings l.k
