use Rattle.std.proofs.Common.{arith, ◌<◌, ℕ, slice_index}
use Rattle.std.proofs.lemmas.Simd.{Each1-get_or}
use Rattle.svga_pixel.proofs.LanesOf.{eight_lanes, same_eight}
use Rattle.svga_pixel.proofs.Widening.{lane_555}
use Rattle.svga_pixel.proofs.lanes.colours_of_555.Goals as goal
use mir.Syntax.{w16}
use mir.Val.{Fits}

pub returns : goal.returns
returns c =
    let words = c.args.words in
    let many = c.fits-words.0 in
    let small : (i : ℕ) → i < 8 → slice_index words i < 65536 = λ i few. (Each1-get_or (Fits w16) words i 0 (omega arith) c.fits-words.1).fits in
    rw (eight_lanes words many) (same_eight _ _ _ _ _ _ _ _ _ _ _ _ _ _ _ _ (lane_555 (slice_index words 0) (small 0 (omega arith))) (lane_555 (slice_index words 1) (small 1 (omega arith))) (lane_555 (slice_index words 2) (small 2 (omega arith))) (lane_555 (slice_index words 3) (small 3 (omega arith))) (lane_555 (slice_index words 4) (small 4 (omega arith))) (lane_555 (slice_index words 5) (small 5 (omega arith))) (lane_555 (slice_index words 6) (small 6 (omega arith))) (lane_555 (slice_index words 7) (small 7 (omega arith))))
