-- What is known of the ring of a capture.
use Rattle.std.specs.Prelude.{◌≡◌, ◌%◌, ◌<◌, ◌≤◌}
use Rattle.svga_cmd.specs.declared.constants.TheConstants.{MAX_CAPTURE_END}
use Rattle.svga_cmd.specs.declared.capture_layout.TheConstants.{RING_WORDS_SIZE}
use Rattle.svga_capture.specs.declared.ring.Ring.{Ring}

-- Its four numbers are of whole dwords; it begins behind them, and both ends of the words that
-- wait lie in it.
pub record IsRing (r : Ring) : Type 0 where
  pub min_whole : r.min % 4 ≡ 0
  pub max_whole : r.max % 4 ≡ 0
  pub next_whole : r.next % 4 ≡ 0
  pub stop_whole : r.stop % 4 ≡ 0
  pub behind : RING_WORDS_SIZE ≤ r.min
  pub some : r.min < r.max
  pub most : r.max ≤ MAX_CAPTURE_END
  pub next_least : r.min ≤ r.next
  pub next_most : r.next < r.max
  pub stop_least : r.min ≤ r.stop
  pub stop_most : r.stop < r.max
