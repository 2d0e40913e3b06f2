-- What the fields of a capture say, as the code keeps it.
use Rattle.std.specs.Prelude.{◌≡◌, ℕ, ◌+◌, ◌≤◌, List, None, length}
use Rattle.svga_cmd.specs.Limits.{AreLimits}
use Rattle.svga_cmd.specs.declared.constants.TheConstants.{MAX_INPUT_BYTES}
use Rattle.svga_model.specs.CaptureFields.{limits_in, min_in, next_in, page_count, pages_at, region_count, ring_end, stop_in}
use Rattle.svga_model.specs.Captures.{fence_in, flaw_in}
use Rattle.svga_capture.specs.Rings.{IsRing}
use Rattle.svga_cmd.specs.declared.capture_layout.TheConstants.{FIFO_AT}
use Rattle.svga_capture.specs.declared.fields.Fields.{Fields}
use Rattle.svga_capture.specs.declared.header.Header.{Header}
use Rattle.svga_capture.specs.declared.ring.Ring.{Ring}

abbrev pub header_in : List ℕ → Header
header_in bytes = record {
  max = ring_end bytes;
  limits = limits_in bytes;
  regions = region_count bytes;
  pages = page_count bytes;
}

abbrev pub ring_in : List ℕ → Ring
ring_in bytes = record {
  min = min_in bytes;
  max = ring_end bytes;
  next = next_in bytes;
  stop = stop_in bytes;
}

abbrev pub fields_in : List ℕ → Fields
fields_in bytes = record {
  ring = ring_in bytes;
  fence = fence_in bytes;
  limits = limits_in bytes;
  regions = record { at = FIFO_AT + ring_end bytes; count = region_count bytes };
  pages = record { at = pages_at bytes; count = page_count bytes };
}

-- Nothing is wrong with the bytes, their fields say this, and what was judged of these is known.
pub record AreFields (bytes : List ℕ) (f : Fields) : Type 0 where
  pub few : length bytes ≤ MAX_INPUT_BYTES
  pub good : flaw_in bytes ≡ None
  pub said : f ≡ fields_in bytes
  pub limits : AreLimits f.limits
  pub ring : IsRing f.ring
  pub there : FIFO_AT + f.ring.max ≤ length bytes
