-- Rings, places in them, and words counted round them.
use Rattle.std.specs.Prelude.{◌≡◌, ℕ, ◌+◌, ◌-◌, ◌%◌, ◌<◌, ◌≤◌, nat_lt, nat_le, if◌then◌else◌}
use Rattle.svga_cmd.specs.declared.constants.TheConstants.{MAX_CAPTURE_END}
use Rattle.svga_model.specs.Addresses.{address, dwords_between}
use Rattle.svga_ring.specs.declared.plans.Geometry.{Geometry}

-- an offset, or a count of bytes, of whole dwords
abbrev pub IsWhole : ℕ → Type 0
IsWhole bytes = bytes % 4 ≡ 0

-- a ring of at least one dword that ends no later than the longest capture's
pub record IsRing (g : Geometry) : Type 0 where
  pub min_whole : IsWhole g.min
  pub max_whole : IsWhole g.max
  pub some : g.min < g.max
  pub most : g.max ≤ MAX_CAPTURE_END

-- the offset of a dword of the ring
pub record IsOffset (g : Geometry) (offset : ℕ) : Type 0 where
  pub whole : IsWhole offset
  pub least : g.min ≤ offset
  pub below : offset < g.max

-- the ring's bytes
abbrev pub size_of : Geometry → ℕ
size_of g = g.max - g.min

-- the ring's dwords
abbrev pub dwords_of : Geometry → ℕ
dwords_of g = dwords_between g.min g.max

-- the offset of word n of all that are ever sent
abbrev pub address_in : Geometry → ℕ → ℕ
address_in g n = address g.min (dwords_of g) n

-- So many words were sent and so many taken: next and stop are the addresses behind them, and one dword at
-- least is free.
pub record AreCounts (g : Geometry) (next stop sent taken : ℕ) : Type 0 where
  pub next_is : next ≡ address_in g sent
  pub stop_is : stop ≡ address_in g taken
  pub behind : taken ≤ sent
  pub room : sent < taken + dwords_of g

-- The free bytes: from next to the end and from the start to stop, or from next to stop. All of them where
-- both are one offset.
abbrev pub free_bytes : Geometry → ℕ → ℕ → ℕ
free_bytes g next stop = if nat_le stop next then (g.max - next) + (stop - g.min) else stop - next

-- the offset behind so many bytes: where that reaches the end, it is a ring's size lower
abbrev pub offset_behind : Geometry → ℕ → ℕ → ℕ
offset_behind g next bytes = if nat_lt (next + bytes) g.max then next + bytes else next + bytes - size_of g
