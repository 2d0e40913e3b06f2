use Rattle.std.proofs.Common.{◌-◌}
use Rattle.svga_capture.proofs.OpeningRegions.{AreOpened}
use Rattle.svga_capture.proofs.opening.open_regions.Given as goal

abbrev pub invariant-loop : goal.invariant-loop
invariant-loop l = AreOpened l.bytes (l.end - l.counter) l.at l.fn.regions l.regions
