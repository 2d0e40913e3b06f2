use Rattle.std.proofs.Common.{◌≡◌, length}
use Rattle.svga_region.proofs.tests.guest.Given as goal

abbrev pub invariant-loop-k : goal.invariant-loop-k
invariant-loop-k l = length l.pages.items ≡ l.k
