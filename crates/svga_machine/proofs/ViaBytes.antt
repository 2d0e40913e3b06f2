-- Where the rules that need no bytes don't refuse a remap by VIA_GMR, each byte of its numbers is there.
use Rattle.std.proofs.Common.{◌≡◌, ℕ, zero, suc, ◌+◌, ◌*◌, ◌/◌, ◌<◌, ◌≤◌, ap, subst, [], length, Bool, true, false, not, ◌&&◌, Option, Some, None, is_none, unwrap_or, arith, inl, inr}
use Rattle.std.proofs.lemmas.Bool.{cases_lt}
use Rattle.std.proofs.lemmas.List.FromFn.{length-map-range_with_len}
use Rattle.std.specs.List.{list_any, range_with_len}
use Rattle.std.specs.Prelude.{IfSome, IsSomeAnd}
use Rattle.svga_cmd.specs.Limits.{frame_page_count}
use Rattle.svga_cmd.specs.Pages.{HasPage, Memory}
use Rattle.svga_cmd.specs.declared.command.Command.TheVariants.{RemapGmr2}
use Rattle.svga_cmd.specs.declared.gmrfb.GuestPtr.{GuestPtr}
use Rattle.svga_cmd.specs.declared.page.PageKey.{PageKey}
use Rattle.svga_cmd.specs.declared.remap.RemapData.TheVariants.{ViaGmr32, ViaGmr64}
use Rattle.svga_model.proofs.ValidRemaps.{pointed_judged}
use Rattle.svga_model.proofs.ValidRules.{all_false, both_false, parts_none}
use Rattle.svga_model.specs.Faults.{shape_tests}
use Rattle.svga_model.specs.Memories.{region_byte}
use Rattle.svga_model.specs.PointedNumbers.{Pointed, judged_in, needs_beyond, needs_unmapped, number_at, numbers_in, pointed_by, pointer_tests}
use Rattle.svga_model.specs.RegionBytes.{holds_of, is_beyond, is_unmapped, page_of_byte}
use Rattle.svga_model.specs.Regions.{Places, Regions, places_of, region_places, remap_tests}
use Rattle.svga_model.specs.Standing.{least_standing}
use Rattle.svga_model.specs.States.{Shape}
use Rattle.svga_transfer.specs.Reach.{HasByte, HasBytes, HasPages}

-- a test that passes no number of a range is false at each of them
none_passes : (test : ℕ → Bool) (from count i : ℕ) → list_any test (range_with_len from count) ≡ false → from ≤ i
    → i < from + count → test i ≡ false
none_passes test from zero i none low high = absurd (omega arith)
none_passes test from (suc n) i none low high =
    let each = both_false (test from) (list_any test (range_with_len (from + 1) n)) none in
    elim (cases_lt from i) as (λ _. test i ≡ false) [
      | inl above ↦ none_passes test (from + 1) n i each.1 (omega arith) (omega arith)
      | inr here ↦ subst (λ j. test j ≡ false) (let is : from ≡ i = omega arith in is) each.0
    ]

-- a byte of the region on no unmapped place lies on a page that the memory has
has_byte : (m : Memory) (places : Places) (i : ℕ) → HasPages m places → is_unmapped places i ≡ false
    → is_beyond places i ≡ false → HasByte m places i
has_byte m places i has mapped inside = go (page_of_byte places i) (is_beyond places i) (has (i / 4096)) mapped inside
  where
    go : (o : Option PageKey) (beyond : Bool) → IfSome o (HasPage m) → (not beyond && is_none o) ≡ false
        → beyond ≡ false → IsSomeAnd o (HasPage m)
    go None true has mapped inside = absurd cc
    go None false has mapped inside = absurd cc
    go (Some key) beyond has mapped inside = has

-- the bytes that numbers need are there; a region that isn't there has no numbers
needed_there : (m : Memory) (at : Pointed) (pages : ℕ) (o : Option Places) → HasPages m (unwrap_or o [])
    → holds_of o (needs_unmapped at pages) ≡ false → holds_of o (needs_beyond at pages) ≡ false
    → judged_in m o at pages ≡ numbers_in (region_byte m (unwrap_or o [])) at pages
    → HasBytes m (unwrap_or o []) at.offset (4 * at.words * pages)
needed_there m at pages None has mapped inside all = λ i low high.
    let number : ℕ → ℕ = λ k. number_at (region_byte m []) at.words (at.offset + 4 * at.words * k) in
    let none : pages ≡ 0 = omega (arith, ap length all, length-map-range_with_len number 0 pages) in
    absurd (let h = subst (λ n. i < at.offset + 4 * at.words * n) none high in omega (arith, low, h))
needed_there m at pages (Some places) has mapped inside all = λ i low high.
    let count = 4 * at.words * pages in
    has_byte m places i has (none_passes (is_unmapped places) at.offset count i mapped low high)
    (none_passes (is_beyond places) at.offset count i inside low high)

-- they are there where the rules on the pointer don't refuse
bytes_there : (frame : ℕ) (regions : Regions) (m : Memory) (at : Pointed) (pages : ℕ)
    → least_standing (pointer_tests frame regions at pages) ≡ None → HasPages m (region_places frame regions at.region)
    → HasBytes m (region_places frame regions at.region) at.offset (4 * at.words * pages)
bytes_there frame regions m at pages none has =
    let tests = all_false (pointer_tests frame regions at pages) none in
    needed_there m at pages (places_of frame regions at.region) has tests.1.1.0 tests.1.1.1.0
    (pointed_judged frame regions m at pages none)

-- so they are where the rules that need no bytes don't refuse the remap
pub via32_there : (σ : Shape) (m : Memory) (region offset pages : ℕ) (at : GuestPtr)
    → least_standing (shape_tests σ (RemapGmr2 region offset pages (ViaGmr32 at))) ≡ None
    → HasPages m (region_places (frame_page_count σ.limits) σ.regions at.region)
    → HasBytes m (region_places (frame_page_count σ.limits) σ.regions at.region) at.offset (4 * pages)
via32_there σ m region offset pages at none has =
    let frame = frame_page_count σ.limits in
    bytes_there frame σ.regions m (pointed_by 1 at) pages
    (parts_none (remap_tests σ.limits.pages σ.regions region offset pages []) (pointer_tests frame σ.regions (pointed_by 1 at) pages) none).1 has

pub via64_there : (σ : Shape) (m : Memory) (region offset pages : ℕ) (at : GuestPtr)
    → least_standing (shape_tests σ (RemapGmr2 region offset pages (ViaGmr64 at))) ≡ None
    → HasPages m (region_places (frame_page_count σ.limits) σ.regions at.region)
    → HasBytes m (region_places (frame_page_count σ.limits) σ.regions at.region) at.offset (4 * (2 * pages))
via64_there σ m region offset pages at none has =
    let frame = frame_page_count σ.limits in
    let places = region_places frame σ.regions at.region in
    let there = bytes_there frame σ.regions m (pointed_by 2 at) pages
    (parts_none (remap_tests σ.limits.pages σ.regions region offset pages []) (pointer_tests frame σ.regions (pointed_by 2 at) pages) none).1 has in
    subst (HasBytes m places at.offset) (let is : 4 * 2 * pages ≡ 4 * (2 * pages) = omega arith in is) there
