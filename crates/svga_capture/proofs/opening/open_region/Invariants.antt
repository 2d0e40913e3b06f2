use Rattle.std.proofs.Common.{◌≡◌}
use Rattle.std.specs.FinMap as map
use Rattle.svga_model.specs.CaptureFields.{record_at}
use Rattle.svga_capture.proofs.OpeningPlaces.{so_far}
use Rattle.svga_capture.proofs.opening.open_region.Given as goal

abbrev pub invariant-loop-k : goal.invariant-loop-k
invariant-loop-k l =
    l.regions ≡ record l.fn.regions {
      regions = map.insert l.fn.regions.regions (record_at l.bytes l.at).id (so_far l.bytes (record_at l.bytes l.at) l.k);
    }
