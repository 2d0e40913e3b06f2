-- Descriptor chains: the walk that reads one, and what it gives.
use Rattle.std.specs.Prelude.{ℕ, zero, suc, ◌+◌, ◌*◌, ◌^◌, List, [], ◌∷◌, ◌++◌, length, slice_index, Bool, true, nat_lt, nat_le, ◌==◌, ◌&&◌, ◌||◌, not, if◌then◌else◌, Option, Some, None, unwrap_or, Result, Ok, Err}
use Rattle.std.specs.FinMap as map
use Rattle.std.specs.List.{range_with_len, flat_map, filter_map}
use Rattle.svga_cmd.specs.Pages.{Memory}
use Rattle.svga_cmd.specs.declared.constants.TheConstants.{LAST_PAIR, MAX_DESCRIPTORS, MAX_PLACES, MAX_REGION_ID}
use Rattle.svga_cmd.specs.declared.fault.Fault.{Fault}
use Rattle.svga_cmd.specs.declared.fault.Fault.TheVariants as fault
use Rattle.svga_cmd.specs.declared.page.PageKey.TheVariants.{Guest}
use Rattle.svga_model.specs.Regions.{Regions, guest_places, places_with}
use Rattle.svga_model.specs.Standing.{first_standing}

-- the bytes of a guest page, by its number
abbrev pub Tables : Type 0
Tables = ℕ → List ℕ

-- those of a memory
abbrev pub tables_of : Memory → Tables
tables_of memory p = unwrap_or (map.get memory (Guest p)) []

-- the 32-bit number from byte i on, its low byte first
abbrev pub word_at : (ℕ → ℕ) → ℕ → ℕ
word_at bytes i = bytes i + 256 * bytes (i + 1) + 2 ^ 16 * bytes (i + 2) + 2 ^ 24 * bytes (i + 3)

-- the same in a list
abbrev pub little_word : List ℕ → ℕ → ℕ
little_word bytes i = word_at (slice_index bytes) i

-- a descriptor: a page and a count, or (0, 0) at the end of a chain
pub record Descriptor : Type 0 where
  pub page : ℕ
  pub count : ℕ

-- where a descriptor stands: a table page, and its number there from 0 to 511
pub record TablePosition : Type 0 where
  pub table : ℕ
  pub pair : ℕ

-- a table page holds its descriptors as pairs of words
abbrev pub descriptor_in : List ℕ → ℕ → Descriptor
descriptor_in bytes pair =
    record { page = little_word bytes (8 * pair); count = little_word bytes (8 * pair + 4) }

-- the descriptor at a position
abbrev pub descriptor_at : Tables → TablePosition → Descriptor
descriptor_at tables at = descriptor_in (tables at.table) at.pair

-- (0, 0) ends the chain
abbrev pub is_end : Descriptor → Bool
is_end d = d.page == 0 && d.count == 0

-- (q, 0) with another q links to table page q
abbrev pub is_link : Descriptor → Bool
is_link d = not (d.page == 0) && d.count == 0

-- (q, n) with n over 0 lists n pages from q on
abbrev pub is_run : Descriptor → Bool
is_run d = nat_lt 0 d.count

-- a link to a guest page
abbrev pub is_good_link : ℕ → Descriptor → Bool
is_good_link guest d = is_link d && nat_lt d.page guest

-- a run of guest pages
abbrev pub is_good_run : ℕ → Descriptor → Bool
is_good_run guest d = is_run d && nat_le (d.page + d.count) guest

-- a link to no guest page, or a run past the last one
abbrev pub is_bad : ℕ → Descriptor → Bool
is_bad guest d = (is_link d && nat_le guest d.page) || (is_run d && nat_lt guest (d.page + d.count))

-- Where the walk goes on behind a descriptor: a good link leads to the top of its page, a good run to the
-- descriptor below it. There is none below the last one of a page.
abbrev pub next_position : ℕ → TablePosition → Descriptor → Option TablePosition
next_position guest at d =
    if is_good_link guest d then Some (record { table = d.page; pair = 0 }) else
    if is_good_run guest d && nat_lt at.pair LAST_PAIR then
    Some (record { table = at.table; pair = at.pair + 1 }) else None

-- the positions from one on, at most so many
unfoldable pub positions_from : ℕ → ℕ → Tables → Option TablePosition → List TablePosition
positions_from zero guest tables at = []
positions_from (suc n) guest tables None = []
positions_from (suc n) guest tables (Some at) =
    at ∷ positions_from n guest tables (next_position guest at (descriptor_at tables at))

-- the walk: the positions that the reading of a chain comes to
abbrev pub walk : ℕ → Tables → ℕ → List TablePosition
walk guest tables first =
    positions_from MAX_DESCRIPTORS guest tables (Some (record { table = first; pair = 0 }))

-- the table pages that it enters, in order, each as often as it enters it
abbrev pub entered : List TablePosition → List ℕ
entered positions = filter_map (λ at. if at.pair == 0 then Some at.table else None) positions

-- the pages that a descriptor lists
abbrev pub run_pages : Descriptor → List ℕ
run_pages d = range_with_len d.page d.count

-- the pages that the descriptors at these positions list, in order
abbrev pub listed_pages : Tables → List TablePosition → List ℕ
listed_pages tables positions = flat_map (λ at. run_pages (descriptor_at tables at)) positions

-- how a walk can fail at its last position, when that is the count-th
abbrev pub last_tests : ℕ → ℕ → TablePosition → Descriptor → List (Bool × Fault)
last_tests guest count at d =
    (is_bad guest d, fault.BadPage)
    ∷ (is_good_run guest d && at.pair == LAST_PAIR, fault.ChainEnd)
    ∷ (nat_le MAX_DESCRIPTORS count && not (is_end d), fault.ChainLimit) ∷ []

-- the pages, unless there is a fault
abbrev pub unless : Option Fault → List ℕ → Result (List ℕ) Fault
unless None pages = Ok pages
unless (Some f) pages = Err f

-- the last of some positions, behind a first one
abbrev pub last_of : TablePosition → List TablePosition → TablePosition
last_of at [] = at
last_of at (next ∷ positions) = last_of next positions

-- What a walk gives by its last position, behind so many that listed these pages. A walk has a position, so
-- that the case of none decides nothing.
abbrev pub outcome_after : ℕ → Tables → ℕ → List ℕ → List TablePosition → Result (List ℕ) Fault
outcome_after guest tables count pages [] = Ok pages
outcome_after guest tables count pages (at ∷ positions) =
    let last = last_of at positions in
    unless (first_standing
    (last_tests guest (count + length (at ∷ positions)) last (descriptor_at tables last)))
    (pages ++ listed_pages tables (at ∷ positions))

-- what the reading of a chain gives: the pages that it lists, or a fault
abbrev pub walk_outcome : ℕ → Tables → ℕ → Result (List ℕ) Fault
walk_outcome guest tables first =
    if nat_le guest first then Err fault.BadPage else
    outcome_after guest tables 0 [] (walk guest tables first)

-- when a chain can't be begun
abbrev pub start_tests : ℕ → ℕ → ℕ → List (Bool × Fault)
start_tests guest id first =
    (nat_lt MAX_REGION_ID id, fault.RegionId) ∷ (nat_le guest first, fault.BadPage) ∷ []

-- when a list of so many places is too much for a region
abbrev pub list_tests : Regions → ℕ → ℕ → List (Bool × Fault)
list_tests regions id pages = (nat_lt MAX_PLACES (places_with regions id pages), fault.PlaceLimit) ∷ []

-- when a chain is refused whose reading gives this
abbrev pub given_tests : Regions → ℕ → Result (List ℕ) Fault → List (Bool × Fault)
given_tests regions id (Ok pages) = list_tests regions id (length pages)
given_tests regions id (Err f) = (true, f) ∷ []

-- When a chain is refused. Its reading is judged for an id up to 4,095 alone; with first page 0 there is
-- none to be read, and the region goes.
abbrev pub chain_tests : ℕ → Regions → Tables → ℕ → ℕ → List (Bool × Fault)
chain_tests guest regions tables id first =
    (nat_lt MAX_REGION_ID id, fault.RegionId)
    ∷ (if nat_lt MAX_REGION_ID id || first == 0 then [] else
    given_tests regions id (walk_outcome guest tables first))

-- the regions with a list of guest pages
abbrev pub with_pages : Regions → ℕ → List ℕ → Regions
with_pages regions id pages = map.insert regions id (guest_places pages)

-- the regions with what the reading of a chain gives
abbrev pub with_given : Regions → ℕ → Result (List ℕ) Fault → Regions
with_given regions id (Ok pages) = with_pages regions id pages
with_given regions id (Err f) = regions

-- the regions after a chain
abbrev pub with_chain : ℕ → Regions → Tables → ℕ → ℕ → Regions
with_chain guest regions tables id first =
    if first == 0 then map.remove regions id else with_given regions id (walk_outcome guest tables first)
