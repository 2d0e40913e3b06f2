use Rattle.std.proofs.Common.{◌≡◌, ◌*◌, ◌≤◌, length, take, slice_set}
use Rattle.svga_model.specs.Regions.{guest_places, remapped}
use Rattle.svga_region.specs.Kept.{kept_pages}
use Rattle.svga_rows.specs.Rows.{list_at}
use Rattle.svga_region.proofs.placing.put_runs.Given as goal

abbrev pub invariant-loop-run : goal.invariant-loop-run
invariant-loop-run l = record {
  lists : l.lists.lists ≡ slice_set l.initial.lists.lists l.slot (remapped (list_at l.initial.lists l.slot) 0 (guest_places (kept_pages (take l.run-index l.runs))));
  room : l.lists.room ≡ l.initial.lists.room;
  place : l.at ≡ length (kept_pages (take l.run-index l.runs));
  bound : l.at ≤ 16384 * l.run-index;
}
