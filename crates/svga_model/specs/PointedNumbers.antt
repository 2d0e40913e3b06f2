-- Page numbers that a remap by VIA_GMR reads from a region.
use Rattle.std.specs.Prelude.{ℕ, zero, suc, ◌+◌, ◌*◌, List, [], map as map_list, Bool, not, ◌&&◌, if◌then◌else◌, Option, Some, None}
use Rattle.std.specs.List.{range_with_len, list_any}
use Rattle.svga_cmd.specs.Pages.{Memory}
use Rattle.svga_cmd.specs.declared.fault.Fault.{Fault}
use Rattle.svga_cmd.specs.declared.gmrfb.GuestPtr.{GuestPtr}
use Rattle.svga_cmd.specs.declared.remap.RemapData.{RemapData}
use Rattle.svga_cmd.specs.declared.remap.RemapData.TheVariants.{Ppn32, Ppn64, SinglePpn32, SinglePpn64, ViaGmr32, ViaGmr64}
use Rattle.svga_model.specs.Memories.{region_byte}
use Rattle.svga_model.specs.RegionBytes.{is_beyond, is_unmapped, region_tests}
use Rattle.svga_model.specs.Regions.{Places, Regions, joined_words, places_of, region_places}
use Rattle.svga_model.specs.Walks.{word_at}

-- where the numbers stand, and how many words each has
pub record Pointed : Type 0 where
  pub region : ℕ
  pub offset : ℕ
  pub words : ℕ

abbrev pub pointed_by : ℕ → GuestPtr → Pointed
pointed_by words pointer = record { region = pointer.region; offset = pointer.offset; words = words }

-- entries that are read by VIA_GMR
abbrev pub pointed : RemapData → Option Pointed
pointed (Ppn32 list) = None
pointed (Ppn64 list) = None
pointed (SinglePpn32 page) = None
pointed (SinglePpn64 low high) = None
pointed (ViaGmr32 pointer) = Some (pointed_by 1 pointer)
pointed (ViaGmr64 pointer) = Some (pointed_by 2 pointer)

-- the bytes that are needed for so many numbers
abbrev pub needed_bytes : Pointed → ℕ → List ℕ
needed_bytes at pages = range_with_len at.offset (4 * at.words * pages)

-- a needed byte lies on an unmapped place
abbrev pub needs_unmapped : Pointed → ℕ → Places → Bool
needs_unmapped at pages places = list_any (is_unmapped places) (needed_bytes at pages)

-- a needed byte lies at or past the region's end
abbrev pub needs_beyond : Pointed → ℕ → Places → Bool
needs_beyond at pages places = list_any (is_beyond places) (needed_bytes at pages)

-- when so many numbers can't be read there
abbrev pub pointer_tests : ℕ → Regions → Pointed → ℕ → List (Bool × Fault)
pointer_tests frame regions at pages =
    region_tests frame regions at.region (needs_unmapped at pages) (needs_beyond at pages)

-- the number of so many words from byte i on, the low word first
abbrev pub number_at : (ℕ → ℕ) → ℕ → ℕ → ℕ
number_at bytes zero i = 0
number_at bytes (suc n) i = joined_words (word_at bytes i) (number_at bytes n (i + 4))

-- so many numbers that stand there, from these bytes of the region
abbrev pub numbers_in : (ℕ → ℕ) → Pointed → ℕ → List ℕ
numbers_in bytes at pages =
    map_list (λ k. number_at bytes at.words (at.offset + 4 * at.words * k)) (range_with_len 0 pages)

-- the same in a memory
abbrev pub numbers_at : ℕ → Regions → Memory → Pointed → ℕ → List ℕ
numbers_at frame regions m at pages =
    numbers_in (region_byte m (region_places frame regions at.region)) at pages

-- those that are judged: none where the region isn't defined or a needed byte lies on no mapped place
abbrev pub judged_in : Memory → Option Places → Pointed → ℕ → List ℕ
judged_in m None at pages = []
judged_in m (Some places) at pages =
    if not (needs_unmapped at pages places) && not (needs_beyond at pages places) then
    numbers_in (region_byte m places) at pages else []

abbrev pub numbers_judged : ℕ → Regions → Memory → Pointed → ℕ → List ℕ
numbers_judged frame regions m at pages = judged_in m (places_of frame regions at.region) at pages
