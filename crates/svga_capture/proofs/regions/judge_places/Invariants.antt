-- What is wrong with all of them is what is wrong with those that are left.
use Rattle.std.proofs.Common.{◌≡◌, ◌+◌, ◌*◌, ◌-◌, ◌≤◌, length, map as map_list}
use Rattle.std.specs.List.{range_with_len}
use Rattle.svga_model.specs.CaptureFields.{place_field}
use Rattle.svga_model.specs.CaptureFields.{first_flaw}
use Rattle.svga_capture.proofs.regions.judge_places.Given as goal

abbrev pub invariant-loop-k : goal.invariant-loop-k
invariant-loop-k l =
    (first_flaw l.bytes (map_list (place_field l.bytes (l.region.at + 8)) (range_with_len 0 l.region.count))
    ≡ first_flaw l.bytes (map_list (place_field l.bytes (l.region.at + 8)) (range_with_len l.k (l.region.count - l.k))))
    × (l.region.at + 8 + 4 * l.k ≤ length l.bytes)
