use Rattle.std.proofs.Common.{◌≡◌, take, slice_set}
use Rattle.svga_cmd.specs.Lent.{entries_of}
use Rattle.svga_model.specs.Regions.{guest_places, range_pages, remapped}
use Rattle.svga_rows.specs.Rows.{list_at}
use Rattle.svga_region.proofs.placing.put_entries.Given as goal

abbrev pub invariant-loop-k : goal.invariant-loop-k
invariant-loop-k l = record {
  lists : l.lists.lists ≡ slice_set l.initial.lists.lists l.slot (remapped (list_at l.initial.lists l.slot) l.offset (guest_places (take l.k (range_pages (entries_of l.entries) l.pages))));
  room : l.lists.room ≡ l.initial.lists.room;
}
