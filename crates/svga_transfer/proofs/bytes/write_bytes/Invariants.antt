use Rattle.std.proofs.Common.{◌≡◌, ◌-◌, ◌≤◌, length, take}
use Rattle.svga_model.specs.Memories.{writes_from, written}
use Rattle.svga_model.specs.Regions.{region_places}
use Rattle.svga_transfer.proofs.bytes.write_bytes.Given as goal

abbrev pub invariant-loop-done : goal.invariant-loop-done
invariant-loop-done g l = record {
  within : l.done ≤ length l.bytes;
  pages : g.P.PageStore.pages l.store
      ≡ written (region_places l.regions.frame l.regions.regions l.region) (g.P.PageStore.pages l.initial.store)
      (writes_from l.from (take l.done l.bytes));
  rest : g.P.PageStore.rest l.store ≡ g.P.PageStore.rest l.initial.store;
}

abbrev pub decreases-loop-done : goal.decreases-loop-done
decreases-loop-done g l = length l.bytes - l.done
