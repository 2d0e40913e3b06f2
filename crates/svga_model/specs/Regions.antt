-- Regions of guest memory, and the commands that define and remap them.
use Rattle.std.specs.Prelude.{ℕ, ◌+◌, ◌-◌, ◌*◌, ◌^◌, List, [], ◌∷◌, ◌++◌, length, map as map_list, take, drop, replicate, slice_index, sum_by, Bool, nat_lt, nat_le, ◌==◌, ◌&&◌, is_some, is_none, if◌then◌else◌, Option, Some, None, unwrap_or}
use Rattle.std.specs.FinMap as map
use Rattle.std.specs.FinMap.{FinMap}
use Rattle.std.specs.List.{range_with_len, list_any}
use Rattle.std.specs.Ordering.{nat_cmp}
use Rattle.svga_cmd.specs.declared.constants.TheConstants.{MAX_PLACES, MAX_REGION_ID, REGION_IDS, SVGA_GMR_FRAMEBUFFER}
use Rattle.svga_cmd.specs.declared.fault.Fault.{Fault}
use Rattle.svga_cmd.specs.declared.fault.Fault.TheVariants as fault
use Rattle.svga_cmd.specs.declared.page.PageKey.{PageKey}
use Rattle.svga_cmd.specs.declared.page.PageKey.TheVariants.{Guest, Frame}
use Rattle.svga_cmd.specs.declared.remap.RemapData.{RemapData}
use Rattle.svga_cmd.specs.declared.remap.RemapData.TheVariants.{Ppn32, Ppn64, SinglePpn32, SinglePpn64, ViaGmr32, ViaGmr64}

-- the list of a region: each place is unmapped or a page
abbrev pub Places : Type 0
Places = List (Option PageKey)

-- the lists of the regions that are defined, by their ids
abbrev pub Regions : Type 0
Regions = FinMap nat_cmp Places

-- the framebuffer's pages in order
abbrev pub frame_places : ℕ → Places
frame_places frame = map_list (λ g. Some (Frame g)) (range_with_len 0 frame)

-- the list of a region that commands and chains define, whose ids end at 4,095
abbrev pub defined_places : Regions → ℕ → Option Places
defined_places regions id = if nat_lt MAX_REGION_ID id then None else map.get regions id

-- the list of any region, with a framebuffer of so many pages
abbrev pub places_of : ℕ → Regions → ℕ → Option Places
places_of frame regions id =
    if id == SVGA_GMR_FRAMEBUFFER then Some (frame_places frame) else defined_places regions id

-- the same, empty where there is no such region
abbrev pub region_places : ℕ → Regions → ℕ → Places
region_places frame regions id = unwrap_or (places_of frame regions id) []

-- how many places a region has, 0 where it isn't defined
abbrev pub region_length : Regions → ℕ → ℕ
region_length regions id = length (unwrap_or (defined_places regions id) [])

-- how many places all regions have, mapped or not, but for the framebuffer's
unfoldable pub place_count : Regions → ℕ
place_count regions = sum_by (region_length regions) (range_with_len 0 REGION_IDS)

-- the same with a list of so many places instead of this region's
abbrev pub places_with : Regions → ℕ → ℕ → ℕ
places_with regions id pages = place_count regions - region_length regions id + pages

-- when an id is none of a region that commands and chains define
abbrev pub id_tests : ℕ → List (Bool × Fault)
id_tests id = (nat_lt MAX_REGION_ID id, fault.RegionId) ∷ []

-- when DEFINE_GMR2 is refused
abbrev pub define_tests : Regions → ℕ → ℕ → List (Bool × Fault)
define_tests regions id pages =
    (nat_lt MAX_REGION_ID id, fault.RegionId)
    ∷ (nat_le id MAX_REGION_ID && nat_lt MAX_PLACES (places_with regions id pages), fault.PlaceLimit) ∷ []

-- the regions after it: so many unmapped places, or none of this id any more
abbrev pub with_region : Regions → ℕ → ℕ → Regions
with_region regions id pages =
    if pages == 0 then map.remove regions id else map.insert regions id (replicate pages None)

-- the number that a low and a high word make
abbrev pub joined_words : ℕ → ℕ → ℕ
joined_words low high = low + 2 ^ 32 * high

-- the numbers that low and high words in turn make
abbrev pub joined_list : List ℕ → ℕ → List ℕ
joined_list ws count =
    map_list (λ k. joined_words (slice_index ws (2 * k)) (slice_index ws (2 * k + 1)))
    (range_with_len 0 count)

-- the page numbers that a remap names itself; by VIA_GMR they stand in a region
abbrev pub named_pages : RemapData → ℕ → List ℕ
named_pages (Ppn32 list) pages = list
named_pages (Ppn64 list) pages = joined_list list pages
named_pages (SinglePpn32 page) pages = page ∷ []
named_pages (SinglePpn64 low high) pages = joined_words low high ∷ []
named_pages (ViaGmr32 pointer) pages = []
named_pages (ViaGmr64 pointer) pages = []

-- the page number for each place of the range: a single entry goes to all of them
abbrev pub range_pages : RemapData → ℕ → List ℕ
range_pages (SinglePpn32 page) pages = replicate pages page
range_pages (SinglePpn64 low high) pages = replicate pages (joined_words low high)
range_pages entries pages = named_pages entries pages

-- When REMAP_GMR2 is refused, with the page numbers that are judged. A number with
-- a high word is over each guest page's.
abbrev pub remap_tests : ℕ → Regions → ℕ → ℕ → ℕ → List ℕ → List (Bool × Fault)
remap_tests guest regions id offset pages numbers =
    (nat_le id MAX_REGION_ID && is_none (defined_places regions id), fault.NoRegion)
    ∷ (nat_lt MAX_REGION_ID id, fault.RegionId)
    ∷ (
      is_some (defined_places regions id) && nat_lt (region_length regions id) (offset + pages),
      fault.RangeBeyond,
    )
    ∷ (list_any (λ n. nat_le guest n) numbers, fault.BadPage) ∷ []

-- the places of guest pages with these numbers
abbrev pub guest_places : List ℕ → Places
guest_places numbers = map_list (λ n. Some (Guest n)) numbers

-- a list with other places from an offset on
abbrev pub remapped : Places → ℕ → Places → Places
remapped places offset news = take offset places ++ news ++ drop (offset + length news) places

-- the regions after it, with the page number for each place of the range
abbrev pub with_remap : Regions → ℕ → ℕ → List ℕ → Regions
with_remap regions id offset numbers =
    map.insert regions id (remapped (unwrap_or (defined_places regions id) []) offset (guest_places numbers))
