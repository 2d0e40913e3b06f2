-- Bytes of pages and of regions in a memory, and how they are written. A page that the memory lacks reads as
-- zeros, and what is written to it is lost.
use Rattle.std.specs.Prelude.{ℕ, ◌+◌, List, [], ◌∷◌, slice_index, slice_set, is_some, if◌then◌else◌, Option, Some, None, unwrap_or}
use Rattle.std.specs.FinMap as map
use Rattle.svga_cmd.specs.Pages.{Memory, page_at}
use Rattle.svga_cmd.specs.declared.page.PageKey.{PageKey}
use Rattle.svga_model.specs.RegionBytes.{byte_location}
use Rattle.svga_model.specs.Regions.{Places}

-- the bytes of a page
abbrev pub page_bytes : Memory → PageKey → List ℕ
page_bytes m key = unwrap_or (page_at m key) []

-- the byte at a location
abbrev pub located_byte : Memory → Option (PageKey × ℕ) → ℕ
located_byte m None = 0
located_byte m (Some at) = slice_index (page_bytes m at.0) at.1

-- byte i of the region with these places
unfoldable pub region_byte : Memory → Places → ℕ → ℕ
region_byte m places i = located_byte m (byte_location places i)

-- the memory with other bytes of a page, the same where it lacks the page
unfoldable pub with_page : Memory → PageKey → List ℕ → Memory
with_page m key bytes = if is_some (page_at m key) then map.insert m key bytes else m

-- the memory with another byte at a location
abbrev pub with_byte : Memory → Option (PageKey × ℕ) → ℕ → Memory
with_byte m None byte = m
with_byte m (Some at) byte = with_page m at.0 (slice_set (page_bytes m at.0) at.1 byte)

-- a byte that is written to a region
pub record ByteWrite : Type 0 where
  pub at : ℕ
  pub byte : ℕ

-- bytes that are written one behind another from byte i on
abbrev pub writes_from : ℕ → List ℕ → List ByteWrite
writes_from i [] = []
writes_from i (byte ∷ bytes) = record { at = i; byte = byte } ∷ writes_from (i + 1) bytes

-- the memory after writes to the region with these places, one after another
abbrev pub written : Places → Memory → List ByteWrite → Memory
written places m [] = m
written places m (w ∷ ws) = written places (with_byte m (byte_location places w.at) w.byte) ws
