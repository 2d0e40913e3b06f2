use Rattle.std.proofs.Common.{◌≡◌, slice_set}
use Rattle.std.specs.List.{range_with_len}
use Rattle.svga_model.specs.Regions.{guest_places, remapped}
use Rattle.svga_rows.specs.Rows.{list_at}
use Rattle.svga_region.proofs.placing.put_run.Given as goal

abbrev pub invariant-loop-k : goal.invariant-loop-k
invariant-loop-k l = record {
  lists : l.lists.lists ≡ slice_set l.initial.lists.lists l.slot (remapped (list_at l.initial.lists l.slot) l.at (guest_places (range_with_len l.run.page l.k)));
  room : l.lists.room ≡ l.initial.lists.room;
}
