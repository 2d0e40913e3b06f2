use Rattle.std.specs.FinSet.{FinSet}
use Rattle.svga_cmd.specs.Pages.{key_cmp}
use Rattle.svga_driver.proofs.TouchLaws.{IsPast}
use Rattle.svga_driver.specs.LendingSet.{AreLent}
use Rattle.svga_region.specs.RegionSet.{places_in}
use Rattle.svga_driver.proofs.touching.first_out.Given as goal

abbrev pub invariant-loop-k : goal.invariant-loop-k
invariant-loop-k l = (lent : FinSet key_cmp) → AreLent lent l.lendings → IsPast lent (places_in l.regions l.id) l.k
