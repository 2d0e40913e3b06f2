-- The page numbers of a remap that no rule refuses are those of guest pages, one for each place of its range.
use Rattle.std.proofs.Common.{◌≡◌, ℕ, ◌+◌, ◌*◌, ◌<◌, ◌≤◌, refl, subst, List, [], All, Bool, true, false, cond, ◌&&◌, not, nat_lt, nat_le, ◌==◌, Option, Some, None, unwrap_or, is_some, is_none, length, slice_index, arith}
use Rattle.std.proofs.lemmas.List.{length-replicate}
use Rattle.std.proofs.lemmas.List.Elements.{All-head, All-replicate}
use Rattle.std.proofs.lemmas.List.FromFn.{length-map-range_with_len}
use Rattle.svga_cmd.specs.Limits.{frame_page_count}
use Rattle.svga_cmd.specs.Pages.{Memory}
use Rattle.svga_cmd.specs.WellFormed.{HasEntries}
use Rattle.svga_cmd.specs.declared.command.Command.TheVariants.{RemapGmr2}
use Rattle.svga_cmd.specs.declared.constants.TheConstants.{MAX_REGION_ID, SVGA_GMR_FRAMEBUFFER}
use Rattle.svga_cmd.specs.declared.remap.RemapData.{RemapData}
use Rattle.svga_cmd.specs.declared.remap.RemapData.TheVariants.{Ppn32, Ppn64, SinglePpn32, SinglePpn64, ViaGmr32, ViaGmr64}
use Rattle.svga_model.proofs.ValidRegions.{regions_remapped}
use Rattle.svga_model.proofs.ValidRules.{all_false, all_under, at_most, is_at_most, not_false, other_false, parts_none}
use Rattle.svga_model.specs.Acts.{Do}
use Rattle.svga_model.specs.Faults.{act_tests, pointed_tests, remap_judged}
use Rattle.svga_model.specs.Memories.{region_byte}
use Rattle.svga_model.specs.PointedNumbers.{Pointed, judged_in, needs_beyond, needs_unmapped, number_at, numbers_at, numbers_in, numbers_judged, pointed, pointer_tests}
use Rattle.svga_model.specs.RegionBytes.{holds_of}
use Rattle.svga_model.specs.Regions.{Places, Regions, defined_places, frame_places, joined_words, named_pages, places_of, range_pages, region_length, remap_tests, with_remap}
use Rattle.svga_model.specs.Standing.{least_standing}
use Rattle.svga_model.specs.States.{State}
use Rattle.svga_model.specs.Steps.{remap_pages}
use Rattle.svga_model.specs.ValidStates.{AreRegions}

-- a region with such an id that the rules don't refuse is there
region_defined : (regions : Regions) (id : ℕ) → id ≤ MAX_REGION_ID
    → (nat_le id MAX_REGION_ID && is_none (defined_places regions id)) ≡ false → is_some (defined_places regions id) ≡ true
region_defined regions id small lacking = not_false (is_some (defined_places regions id))
    (other_false (nat_le id MAX_REGION_ID) (is_none (defined_places regions id)) lacking (is_at_most id MAX_REGION_ID small))

-- what is known of a remap that the rules on its range and its numbers don't refuse
pub record IsWithin (guest : ℕ) (regions : Regions) (id offset pages : ℕ) (numbers : List ℕ) : Type 0 where
  pub small : id ≤ MAX_REGION_ID
  pub fits : offset + pages ≤ region_length regions id
  pub few : All (λ n. n < guest) numbers

-- such a remap lies within its region
pub within : (guest : ℕ) (regions : Regions) (id offset pages : ℕ) (numbers : List ℕ)
    → least_standing (remap_tests guest regions id offset pages numbers) ≡ None
    → IsWithin guest regions id offset pages numbers
within guest regions id offset pages numbers none =
    let tests = all_false (remap_tests guest regions id offset pages numbers) none in
    let small = at_most id MAX_REGION_ID tests.1.0 in
    let there = region_defined regions id small tests.0 in
    let long = nat_lt (region_length regions id) (offset + pages) in
    record {
      small = small;
      fits = at_most (offset + pages) (region_length regions id)
          (other_false (is_some (defined_places regions id)) long tests.1.1.0 there);
      few = all_under guest numbers tests.1.1.1.0;
    }

-- numbers that can be read are judged
judged_all : (m : Memory) (o : Option Places) (at : Pointed) (pages : ℕ) → is_some o ≡ true
    → holds_of o (needs_unmapped at pages) ≡ false → holds_of o (needs_beyond at pages) ≡ false
    → judged_in m o at pages ≡ numbers_in (region_byte m (unwrap_or o [])) at pages
judged_all m None at pages some mapped inside = absurd cc
judged_all m (Some places) at pages some mapped inside =
    λ i. cond (not (mapped i) && not (inside i)) (numbers_in (region_byte m places) at pages) []

-- a region that the rules don't refuse is there
region_there : (frame : ℕ) (regions : Regions) (id : ℕ)
    → (nat_le id MAX_REGION_ID && is_none (defined_places regions id)) ≡ false
    → (nat_lt MAX_REGION_ID id && not (id == SVGA_GMR_FRAMEBUFFER)) ≡ false
    → is_some (places_of frame regions id) ≡ true
region_there frame regions id lacking other = at (id == SVGA_GMR_FRAMEBUFFER) refl where
  at : (t : Bool) → (id == SVGA_GMR_FRAMEBUFFER) ≡ t
      → is_some (cond t (Some (frame_places frame)) (defined_places regions id)) ≡ true
  at true e = refl
  at false e =
      region_defined regions id (at_most id MAX_REGION_ID (small (nat_lt MAX_REGION_ID id) (id == SVGA_GMR_FRAMEBUFFER) other e)) lacking
    where
      small : (b t : Bool) → (b && not t) ≡ false → t ≡ false → b ≡ false
      small b true e f = absurd cc
      small true false e f = absurd cc
      small false false e f = refl

-- where the rules on bytes don't refuse, all numbers are judged
pub pointed_judged : (frame : ℕ) (regions : Regions) (m : Memory) (at : Pointed) (pages : ℕ)
    → least_standing (pointer_tests frame regions at pages) ≡ None
    → numbers_judged frame regions m at pages ≡ numbers_at frame regions m at pages
pointed_judged frame regions m at pages none =
    let tests = all_false (pointer_tests frame regions at pages) none in
    judged_all m (places_of frame regions at.region) at pages
    (region_there frame regions at.region tests.0 tests.1.0) tests.1.1.0 tests.1.1.1.0

-- a number for each place of the range
length-range_pages : (entries : RemapData) (pages : ℕ) → pointed entries ≡ None → HasEntries entries pages
    → length (range_pages entries pages) ≡ pages
length-range_pages (Ppn32 list) pages named fits = fits
length-range_pages (Ppn64 list) pages named fits = length-map-range_with_len
    (λ k. joined_words (slice_index list (2 * k)) (slice_index list (2 * k + 1))) 0 pages
length-range_pages (SinglePpn32 page) pages named fits = length-replicate pages page
length-range_pages (SinglePpn64 low high) pages named fits = length-replicate pages (joined_words low high)
length-range_pages (ViaGmr32 pointer) pages named fits = absurd cc
length-range_pages (ViaGmr64 pointer) pages named fits = absurd cc

-- what holds of the named numbers holds of those
all_in_range : (guest : ℕ) (entries : RemapData) (pages : ℕ) → All (λ n. n < guest) (named_pages entries pages)
    → All (λ n. n < guest) (range_pages entries pages)
all_in_range guest (Ppn32 list) pages few = few
all_in_range guest (Ppn64 list) pages few = few
all_in_range guest (SinglePpn32 page) pages few = All-replicate (λ n. n < guest) pages page
    (All-head (λ n. n < guest) page [] few)
all_in_range guest (SinglePpn64 low high) pages few = All-replicate (λ n. n < guest) pages (joined_words low high)
    (All-head (λ n. n < guest) (joined_words low high) [] few)
all_in_range guest (ViaGmr32 pointer) pages few = few
all_in_range guest (ViaGmr64 pointer) pages few = few

-- as many numbers are read
length-numbers : (bytes : ℕ → ℕ) (at : Pointed) (pages : ℕ) → length (numbers_in bytes at pages) ≡ pages
length-numbers bytes at pages =
    length-map-range_with_len (λ k. number_at bytes at.words (at.offset + 4 * at.words * k)) 0 pages

-- the numbers of a remap by what is pointed at
numbers_good : (s : State) (entries : RemapData) (pages : ℕ) (o : Option Pointed) → pointed entries ≡ o
    → HasEntries entries pages
    → least_standing (pointed_tests (frame_page_count s.kept.limits) s.kept.regions o pages) ≡ None
    → All (λ n. n < s.kept.limits.pages) (remap_judged s entries o pages)
    → (length (remap_pages s entries o pages) ≡ pages)
    × All (λ n. n < s.kept.limits.pages) (remap_pages s entries o pages)
numbers_good s entries pages None is fits none few =
    (length-range_pages entries pages is fits, all_in_range s.kept.limits.pages entries pages few)
numbers_good s entries pages (Some at) is fits none few = (
  length-numbers (region_byte s.memory
      (unwrap_or (places_of (frame_page_count s.kept.limits) s.kept.regions at.region) [])) at pages,
  subst (All (λ n. n < s.kept.limits.pages))
      (pointed_judged (frame_page_count s.kept.limits) s.kept.regions s.memory at pages none) few,
)

-- REMAP_GMR2
pub remap_good : (s : State) (id offset pages : ℕ) (entries : RemapData) → AreRegions s.kept.limits s.kept.regions
    → HasEntries entries pages → least_standing (act_tests s (Do (RemapGmr2 id offset pages entries))) ≡ None
    → AreRegions s.kept.limits (with_remap s.kept.regions id offset (remap_pages s entries (pointed entries) pages))
remap_good s id offset pages entries are fits none =
    let numbers = remap_judged s entries (pointed entries) pages in
    let parts = parts_none (remap_tests s.kept.limits.pages s.kept.regions id offset pages numbers)
    (pointed_tests (frame_page_count s.kept.limits) s.kept.regions (pointed entries) pages) none in
    let h = within s.kept.limits.pages s.kept.regions id offset pages numbers parts.0 in
    let good = numbers_good s entries pages (pointed entries) refl fits parts.1 h.few in
    regions_remapped s.kept.limits s.kept.regions id offset (remap_pages s entries (pointed entries) pages) h.small are
    (omega (arith, h.fits, good.0)) good.1
