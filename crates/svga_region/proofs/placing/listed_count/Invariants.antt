use Rattle.std.proofs.Common.{◌≡◌, ◌*◌, ◌≤◌, length, take}
use Rattle.svga_region.specs.Kept.{kept_pages}
use Rattle.svga_region.proofs.placing.listed_count.Given as goal

abbrev pub invariant-loop-run : goal.invariant-loop-run
invariant-loop-run l = record {
  count : l.count ≡ length (kept_pages (take l.run-index l.runs));
  bound : l.count ≤ 16384 * l.run-index;
}
