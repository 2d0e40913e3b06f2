use Rattle.std.proofs.Common.{◌-◌}
use Rattle.svga_capture.proofs.OpeningPages.{AreUnfilled}
use Rattle.svga_capture.proofs.opening.open_pages.Given as goal

abbrev pub invariant-loop-j : goal.invariant-loop-j
invariant-loop-j l = AreUnfilled l.bytes l.j (l.j-end - l.j) l.pages
