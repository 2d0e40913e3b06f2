use Rattle.std.proofs.Common.{◌≡◌, ℕ, ◌+◌, ◌<◌, ◌≤◌, ◌++◌, take, true, All}
use Rattle.svga_model.specs.Walks.{descriptor_in, is_good_run}
use Rattle.svga_region.specs.Kept.{IsShortRun, kept_pages, table_pages}
use Rattle.svga_region.proofs.table.take_runs.Given as goal

abbrev pub invariant-loop-pair : goal.invariant-loop-pair
invariant-loop-pair l = record {
  fits : l.count + l.pair ≤ 4096;
  good : (k : ℕ) → k < l.pair → is_good_run l.guest (descriptor_in l.bytes k) ≡ true;
  pages : kept_pages (take (l.count + l.pair) l.runs) ≡ kept_pages (take l.count l.initial.runs) ++ table_pages l.bytes l.pair;
  short : All IsShortRun l.runs;
}
