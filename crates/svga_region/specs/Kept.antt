-- How the regions and the chain are kept.
use Rattle.std.specs.Prelude.{◌≡◌, ℕ, ◌+◌, ◌≤◌, ◌<◌, List, [], length, map as map_list, take, sum_by, slice_index_or, Bool, false, if◌then◌else◌, Option, Some, None, All, IfSome}
use Rattle.std.specs.List.{flat_map, range_with_len}
use Rattle.svga_cmd.specs.declared.constants.TheConstants.{MAX_DESCRIPTORS, MAX_GUEST_PAGES, MAX_PLACES, MAX_REGION_ID, REGION_IDS}
use Rattle.svga_model.specs.Regions.{Places, Regions}
use Rattle.svga_model.specs.Tabulated.{tabulated}
use Rattle.svga_model.specs.Walks.{Descriptor, descriptor_in, run_pages}
use Rattle.svga_region.specs.declared.chain.Reading.{Reading}
use Rattle.svga_region.specs.declared.descriptor.Descriptor.{Descriptor as Kept}
use Rattle.svga_region.specs.RegionSet.{Chain}

-- the list in a slot, where a region is defined there
abbrev pub slot_of : List Bool → List Places → ℕ → Option Places
slot_of defined lists i = if slice_index_or defined i false then Some (slice_index_or lists i []) else None

-- the regions that the slots have
abbrev pub regions_of : List Bool → List Places → Regions
regions_of defined lists = tabulated REGION_IDS (slot_of defined lists)

-- where no region is defined there are no places
abbrev pub AreEmpty : List Bool → List Places → Type 0
AreEmpty defined lists = (i : ℕ) → slice_index_or defined i false ≡ false → slice_index_or lists i [] ≡ []

-- the slots of the regions
pub record AreSlots (defined : List Bool) (lists : List Places) : Type 0 where
  pub flags : length defined ≡ REGION_IDS
  pub lists_count : length lists ≡ REGION_IDS
  pub empty : AreEmpty defined lists
  pub total : sum_by length lists ≤ MAX_PLACES

-- a descriptor as it is kept
abbrev pub as_descriptor : Kept → Descriptor
as_descriptor k = record { page = k.page; count = k.count }

-- the pages that the descriptors list, in order
abbrev pub kept_pages : List Kept → List ℕ
kept_pages runs = flat_map (λ k. run_pages (as_descriptor k)) runs

-- the pages that the first k descriptors of a table page list
abbrev pub table_pages : List ℕ → ℕ → List ℕ
table_pages bytes k = flat_map run_pages (map_list (λ j. descriptor_in bytes j) (range_with_len 0 k))

-- the run ends at the most guest pages there can be
abbrev pub IsShortRun : Kept → Type 0
IsShortRun k = k.page + k.count ≤ MAX_GUEST_PAGES

-- the chain that is being read, with the pages that were listed so far
abbrev pub chain_of : List Kept → Reading → Chain
chain_of runs r = record {
  id = r.id;
  count = r.count;
  pages = kept_pages
      (take r.count runs);
  wants = r.wants;
}

-- what is known of a chain that is being read
pub record IsReading (r : Reading) : Type 0 where
  pub id : r.id ≤ MAX_REGION_ID
  pub count : r.count ≤ MAX_DESCRIPTORS
  pub wants : IfSome r.wants (λ q. r.count < MAX_DESCRIPTORS)

-- the descriptors that were read, and the chain
pub record AreRuns (runs : List Kept) (reading : Option Reading) : Type 0 where
  pub room : length runs ≡ MAX_DESCRIPTORS
  pub short : All IsShortRun runs
  pub chain : IfSome reading (λ r. IsReading r)
