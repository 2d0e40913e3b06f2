-- Plans and offsets of the ring in the words of the core: what they say of the words that a driver sends
-- next.
use Rattle.std.specs.Prelude.{◌≡◌, ℕ, ◌+◌, ◌-◌, ◌*◌, ◌/◌, ◌<◌, ◌≤◌}
use Rattle.svga_ring.specs.Core.{put_count}
use Rattle.svga_ring.specs.Layouts.{Layout, ring_dwords, ring_start, word_address, word_cell}
use Rattle.svga_ring.specs.Views.{DriverView}
use Rattle.svga_ring.specs.declared.plans.Geometry.{Geometry}
use Rattle.svga_ring.specs.declared.plans.Planned.{Planned}
use Rattle.svga_ring.specs.declared.plans.Planned.TheVariants.{InPlace, Bounce, NoRoom, TooLarge}

-- the ring of a layout
abbrev pub geometry_of : Layout → Geometry
geometry_of lay = record { min = ring_start; max = lay.max }

-- where the driver writes next, and the first word that it doesn't know to be taken
abbrev pub next_offset : DriverView → ℕ
next_offset d = word_address d.layout (put_count d)

abbrev pub stop_offset : DriverView → ℕ
stop_offset d = word_address d.layout d.stop

-- so many bytes from an offset on are the words from number n on, each with its cell
abbrev pub AreWords : Layout → ℕ → ℕ → ℕ → Type 0
AreWords lay offset bytes n = (i : ℕ) → i < bytes / 4
    → (word_address lay (n + i) ≡ offset + 4 * i) × (word_cell lay (n + i) ≡ (offset + 4 * i) / 4)

-- so many bytes may be put into the ring, word by word: when the turn of each comes, a dword stays free
-- behind it
abbrev pub Fit : DriverView → ℕ → Type 0
Fit d bytes = (i : ℕ) → i < bytes / 4 → (put_count d + i) + 1 < d.stop + ring_dwords d.layout

-- what a plan for so many bytes means to the driver
abbrev pub MeansPlan : DriverView → ℕ → Planned → Type 0
MeansPlan d bytes InPlace = Fit d bytes × AreWords d.layout (next_offset d) bytes (put_count d)
MeansPlan d bytes (Bounce first) = Fit d bytes × AreWords d.layout (next_offset d) first (put_count d)
    × AreWords d.layout ring_start (bytes - first) (put_count d + first / 4)
MeansPlan d bytes (NoRoom free) = (d.stop + ring_dwords d.layout ≤ put_count d + bytes / 4)
    × (free ≡ 4 * (ring_dwords d.layout - (put_count d - d.stop)))
MeansPlan d bytes TooLarge = ring_dwords d.layout ≤ bytes / 4
