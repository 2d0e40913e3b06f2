use Rattle.std.proofs.Common.{◌≡◌, ◌-◌, ◌≤◌, ◌++◌, drop, length, map as map_list}
use Rattle.std.specs.List.{range_with_len}
use Rattle.svga_model.specs.Memories.{region_byte}
use Rattle.svga_model.specs.Regions.{region_places}
use Rattle.svga_transfer.proofs.bytes.read_bytes.Given as goal

abbrev pub invariant-loop-done : goal.invariant-loop-done
invariant-loop-done g l = record {
  within : l.done ≤ length l.initial.bytes;
  read : l.bytes
      ≡ map_list
      (region_byte (g.P.PageStore.pages l.store) (region_places l.regions.frame l.regions.regions l.region))
      (range_with_len l.from l.done)
      ++ drop l.done l.initial.bytes;
}

abbrev pub decreases-loop-done : goal.decreases-loop-done
decreases-loop-done g l = length l.initial.bytes - l.done
