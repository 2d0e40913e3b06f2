-- What each plan says: of its bytes, and of the words that are counted round the ring.
use Rattle.std.specs.Prelude.{◌≡◌, ℕ, ◌+◌, ◌-◌, ◌*◌, ◌/◌, ◌<◌, ◌≤◌}
use Rattle.svga_ring.specs.Rings.{address_in, dwords_of, free_bytes, size_of}
use Rattle.svga_ring.specs.declared.plans.Geometry.{Geometry}
use Rattle.svga_ring.specs.declared.plans.Planned.{Planned}
use Rattle.svga_ring.specs.declared.plans.Planned.TheVariants.{InPlace, Bounce, NoRoom, TooLarge}

-- the plan for so many bytes; no two cases stand together
abbrev pub IsPlan : Geometry → ℕ → ℕ → ℕ → Planned → Type 0
IsPlan g next stop bytes InPlace = (bytes < free_bytes g next stop) × (next + bytes ≤ g.max)
IsPlan g next stop bytes (Bounce first) = (bytes < free_bytes g next stop) × (g.max < next + bytes)
    × (first ≡ g.max - next)
IsPlan g next stop bytes (NoRoom free) = (bytes < size_of g) × (free_bytes g next stop ≤ bytes)
    × (free ≡ free_bytes g next stop)
IsPlan g next stop bytes TooLarge = size_of g ≤ bytes

-- so many bytes from an offset on are the places of the words from number n on, one behind another
abbrev pub IsPieceOf : Geometry → ℕ → ℕ → ℕ → Type 0
IsPieceOf g offset bytes n = (i : ℕ) → i < bytes / 4 → address_in g (n + i) ≡ offset + 4 * i

-- with so many bytes more, what is sent and not taken leaves a dword free
abbrev pub LeavesRoom : Geometry → ℕ → ℕ → ℕ → Type 0
LeavesRoom g bytes sent taken = sent + bytes / 4 < taken + dwords_of g

-- what a plan means for the next words
abbrev pub HasPieces : Geometry → ℕ → ℕ → ℕ → ℕ → Planned → Type 0
HasPieces g next bytes sent taken InPlace = LeavesRoom g bytes sent taken × IsPieceOf g next bytes sent
HasPieces g next bytes sent taken (Bounce first) = LeavesRoom g bytes sent taken
    × IsPieceOf g next first sent × IsPieceOf g g.min (bytes - first) (sent + first / 4)
HasPieces g next bytes sent taken (NoRoom free) = taken + dwords_of g ≤ sent + bytes / 4
HasPieces g next bytes sent taken TooLarge = dwords_of g ≤ bytes / 4
