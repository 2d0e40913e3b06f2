-- Where a region's bytes lie: 4,096 of them on each place's page, one place behind the other.
use Rattle.std.specs.Prelude.{ℕ, ◌*◌, ◌/◌, ◌%◌, List, [], ◌∷◌, length, slice_index_or, Bool, false, nat_lt, nat_le, ◌==◌, ◌&&◌, not, is_none, Option, Some, None, option_map, option_and_then}
use Rattle.svga_cmd.specs.declared.constants.TheConstants.{MAX_REGION_ID, PAGE_SIZE, SVGA_GMR_FRAMEBUFFER}
use Rattle.svga_cmd.specs.declared.fault.Fault.{Fault}
use Rattle.svga_cmd.specs.declared.fault.Fault.TheVariants as fault
use Rattle.svga_cmd.specs.declared.page.PageKey.{PageKey}
use Rattle.svga_model.specs.Regions.{Places, Regions, defined_places, places_of}

-- byte i lies at or past the end
abbrev pub is_beyond : Places → ℕ → Bool
is_beyond places i = nat_le (PAGE_SIZE * length places) i

-- the page that byte i lies on, if it lies on one
abbrev pub page_of_byte : Places → ℕ → Option PageKey
page_of_byte places i = slice_index_or places (i / PAGE_SIZE) None

-- byte i lies on a place that is unmapped
abbrev pub is_unmapped : Places → ℕ → Bool
is_unmapped places i = not (is_beyond places i) && is_none (page_of_byte places i)

-- where byte i lies: its page and its number there
abbrev pub byte_location : Places → ℕ → Option (PageKey × ℕ)
byte_location places i = option_map (λ key. (key, i % PAGE_SIZE)) (page_of_byte places i)

-- a test of a region's places, false where the region isn't defined
abbrev pub holds_of : Option Places → (Places → Bool) → Bool
holds_of None test = false
holds_of (Some places) test = test places

-- when bytes of a region can't be had, by what is unmapped and what is beyond its end among its places
abbrev pub region_tests : ℕ → Regions → ℕ → (Places → Bool) → (Places → Bool) → List (Bool × Fault)
region_tests frame regions id unmapped beyond =
    (nat_le id MAX_REGION_ID && is_none (defined_places regions id), fault.NoRegion)
    ∷ (nat_lt MAX_REGION_ID id && not (id == SVGA_GMR_FRAMEBUFFER), fault.RegionId)
    ∷ (holds_of (places_of frame regions id) unmapped, fault.Unmapped)
    ∷ (holds_of (places_of frame regions id) beyond, fault.BeyondRegion) ∷ []

-- when byte i of a region can't be had
abbrev pub byte_tests : ℕ → Regions → ℕ → ℕ → List (Bool × Fault)
byte_tests frame regions id i =
    region_tests frame regions id (λ places. is_unmapped places i) (λ places. is_beyond places i)

-- where byte i of a region lies
abbrev pub located : ℕ → Regions → ℕ → ℕ → Option (PageKey × ℕ)
located frame regions id i = option_and_then (λ places. byte_location places i) (places_of frame regions id)
