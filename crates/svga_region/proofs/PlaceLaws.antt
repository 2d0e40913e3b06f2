-- What the regions have at an id.
use Rattle.std.proofs.Common.{◌≡◌, ◌≢◌, ℕ, ◌*◌, ◌/◌, ◌%◌, ◌<◌, ◌≤◌, refl, sym, ap, subst, ◌∙◌, Option, Some, None, List, [], ◌∷◌, length, arith, nat_lt, nat_le, not, ◌==◌, ◌&&◌, Bool, true, false, cond, slice_index_or, unwrap_or, is_none, inl, inr}
use Rattle.std.specs.Prelude.{option_map, option_and_then}
use Rattle.std.proofs.lemmas.Bool.{cases_lt}
use Rattle.std.proofs.lemmas.Bool.Decides.{nat_tests}
use Rattle.std.proofs.lemmas.List.{get_or_default}
use Rattle.std.proofs.lemmas.List.FromFn.{length-map-range_with_len, get_or-map-range_with_len}
use Rattle.std.specs.FinMap as map
use Rattle.svga_cmd.specs.declared.constants.TheConstants.{SVGA_GMR_FRAMEBUFFER}
use Rattle.svga_cmd.specs.declared.fault.Fault.TheVariants as fault
use Rattle.svga_cmd.specs.declared.page.PageKey.TheVariants.{Frame}
use Rattle.svga_model.proofs.TabulatedLaws.{get-tabulated}
use Rattle.svga_model.specs.RegionBytes.{byte_tests, byte_location, page_of_byte, holds_of, is_beyond, is_unmapped, located}
use Rattle.svga_model.specs.Regions.{Places, Regions, frame_places, defined_places, places_of}
use Rattle.svga_model.specs.Standing.{first_standing}
use Rattle.svga_region.specs.Conditions.{HasPlace}
use Rattle.svga_region.specs.Kept.{regions_of, slot_of}
use Rattle.svga_region.specs.Places.{tests_of_byte}

-- what the map has is what the slot has
pub get-regions_of : (defined : List Bool) (lists : List Places) (id : ℕ) → id < 4096 → map.get (regions_of defined lists) id ≡ slot_of defined lists id
get-regions_of defined lists id l = get-tabulated 4096 (slot_of defined lists) id l

-- what an index reads
pub read_flag : (xs : List Bool) (i : ℕ) (x : Bool) → i < length xs → x ≡ slice_index_or xs i x → slice_index_or xs i false ≡ x
read_flag xs i x l e = sym (e ∙ get_or_default xs i x false l)

-- a slot by its flag
pub slot_is : (defined : List Bool) (lists : List Places) (id : ℕ) (t : Bool) → slice_index_or defined id false ≡ t → slot_of defined lists id ≡ cond t (Some (slice_index_or lists id [])) None
slot_is defined lists id t e = ap (λ t. cond t (Some (slice_index_or lists id [])) None) e

-- an id up to 4,095 names what its slot has
pub defined_places-small : (defined : List Bool) (lists : List Places) (id : ℕ) → id < 4096 → defined_places (regions_of defined lists) id ≡ slot_of defined lists id
defined_places-small defined lists id l = ap (λ t. cond t None (map.get (regions_of defined lists) id)) (let t : nat_lt 4095 id ≡ false = grind (arith, nat_tests) in t) ∙ get-regions_of defined lists id l

-- the same for any region
pub places_of-small : (frame : ℕ) (defined : List Bool) (lists : List Places) (id : ℕ) → id < 4096 → places_of frame (regions_of defined lists) id ≡ slot_of defined lists id
places_of-small frame defined lists id l = ap (λ t. cond t (Some (frame_places frame)) (defined_places (regions_of defined lists) id)) (let t : (id == SVGA_GMR_FRAMEBUFFER) ≡ false = grind (arith, nat_tests) in t) ∙ defined_places-small defined lists id l

-- the framebuffer
pub places_of-frame : (frame : ℕ) (regions : Regions) (id : ℕ) → id ≡ SVGA_GMR_FRAMEBUFFER → places_of frame regions id ≡ Some (frame_places frame)
places_of-frame frame regions id e = ap (places_of frame regions) e

-- an id that names no region
pub places_of-large : (frame : ℕ) (regions : Regions) (id : ℕ) → 4095 < id → id ≢ SVGA_GMR_FRAMEBUFFER → places_of frame regions id ≡ None
places_of-large frame regions id l ne = ap (λ t. cond t (Some (frame_places frame)) (defined_places regions id)) (let t : (id == SVGA_GMR_FRAMEBUFFER) ≡ false = grind (arith, nat_tests) in t)
    ∙ ap (λ t. cond t None (map.get regions id)) (let t : nat_lt 4095 id ≡ true = grind (arith, nat_tests) in t)

-- the framebuffer
pub length-frame_places : (frame : ℕ) → length (frame_places frame) ≡ frame
length-frame_places frame = length-map-range_with_len (λ g. Some (Frame g)) 0 frame

-- a place of it
pub frame_place : (frame k : ℕ) → k < frame → slice_index_or (frame_places frame) k None ≡ Some (Frame k)
frame_place frame k l = get_or-map-range_with_len (λ g. Some (Frame g)) 0 frame k k None l (omega arith)

-- a byte of a list
pub within : (places : Places) (i : ℕ) → i / 4096 < length places → is_beyond places i ≡ false
within places i l = go (length places) l where
  go : (n : ℕ) → i / 4096 < n → nat_le (4096 * n) i ≡ false
  go n l = grind (arith, nat_tests)

-- a byte past the end
pub past : (places : Places) (i : ℕ) → length places ≤ i / 4096 → is_beyond places i ≡ true
past places i l = go (length places) l where
  go : (n : ℕ) → n ≤ i / 4096 → nat_le (4096 * n) i ≡ true
  go n l = grind (arith, nat_tests)

-- the tests of a byte of the framebuffer
pub byte_tests-frame : (frame : ℕ) (regions : Regions) (id i : ℕ) → id ≡ SVGA_GMR_FRAMEBUFFER → first_standing (byte_tests frame regions id i) ≡ first_standing (tests_of_byte (frame_places frame) i)
byte_tests-frame frame regions id i e = ap (λ id. first_standing (byte_tests frame regions id i)) e

-- the tests of a byte, by what the slot has
pub byte_tests-small : (frame : ℕ) (defined : List Bool) (lists : List Places) (id i : ℕ) → id < 4096 → first_standing (byte_tests frame (regions_of defined lists) id i)
    ≡ first_standing ((is_none (slot_of defined lists id), fault.NoRegion) ∷ (holds_of (slot_of defined lists id) (λ places. is_unmapped places i), fault.Unmapped) ∷ (holds_of (slot_of defined lists id) (λ places. is_beyond places i), fault.BeyondRegion) ∷ [])
byte_tests-small frame defined lists id i l =
    let low : nat_le id 4095 ≡ true = grind (arith, nat_tests) in
    let high : nat_lt 4095 id ≡ false = grind (arith, nat_tests) in
    let slot = defined_places-small defined lists id l in
    let region = places_of-small frame defined lists id l in
    λ j. first_standing ((low j && is_none (slot j), fault.NoRegion) ∷ (high j && not (id == SVGA_GMR_FRAMEBUFFER), fault.RegionId) ∷ (holds_of (region j) (λ places. is_unmapped places i), fault.Unmapped) ∷ (holds_of (region j) (λ places. is_beyond places i), fault.BeyondRegion) ∷ [])

-- a byte where no region is defined
pub byte_tests-none : (frame : ℕ) (defined : List Bool) (lists : List Places) (id i : ℕ) → id < 4096 → slice_index_or defined id false ≡ false → first_standing (byte_tests frame (regions_of defined lists) id i) ≡ Some fault.NoRegion
byte_tests-none frame defined lists id i l e = byte_tests-small frame defined lists id i l
    ∙ ap (λ o. first_standing ((is_none o, fault.NoRegion) ∷ (holds_of o (λ places. is_unmapped places i), fault.Unmapped) ∷ (holds_of o (λ places. is_beyond places i), fault.BeyondRegion) ∷ [])) (slot_is defined lists id false e)

-- a byte of a defined region
pub byte_tests-some : (frame : ℕ) (defined : List Bool) (lists : List Places) (id i : ℕ) → id < 4096 → slice_index_or defined id false ≡ true → first_standing (byte_tests frame (regions_of defined lists) id i) ≡ first_standing (tests_of_byte (slice_index_or lists id []) i)
byte_tests-some frame defined lists id i l e = byte_tests-small frame defined lists id i l
    ∙ ap (λ o. first_standing ((is_none o, fault.NoRegion) ∷ (holds_of o (λ places. is_unmapped places i), fault.Unmapped) ∷ (holds_of o (λ places. is_beyond places i), fault.BeyondRegion) ∷ [])) (slot_is defined lists id true e)

-- a byte in the framebuffer
pub frame_mapped : (frame i : ℕ) → i / 4096 < frame → first_standing (tests_of_byte (frame_places frame) i) ≡ None
frame_mapped frame i l =
    let here = frame_place frame (i / 4096) l in
    let inside = within (frame_places frame) i (omega (arith, length-frame_places frame)) in
    λ j. first_standing ((not (inside j) && is_none (here j), fault.Unmapped) ∷ (inside j, fault.BeyondRegion) ∷ [])

-- a byte past the framebuffer
pub frame_beyond : (frame i : ℕ) → frame ≤ i / 4096 → first_standing (tests_of_byte (frame_places frame) i) ≡ Some fault.BeyondRegion
frame_beyond frame i l =
    let beyond = past (frame_places frame) i (omega (arith, length-frame_places frame)) in
    λ j. first_standing ((not (beyond j) && is_none (page_of_byte (frame_places frame) i), fault.Unmapped) ∷ (beyond j, fault.BeyondRegion) ∷ [])

-- where a byte of the framebuffer lies
pub located-frame : (frame : ℕ) (regions : Regions) (id i : ℕ) → id ≡ SVGA_GMR_FRAMEBUFFER → i / 4096 < frame → located frame regions id i ≡ Some (Frame (i / 4096), i % 4096)
located-frame frame regions id i e l = ap (option_and_then (λ places. byte_location places i)) (places_of-frame frame regions id e) ∙ ap (option_map (λ key. (key, i % 4096))) (frame_place frame (i / 4096) l)

-- where a byte of a defined region lies
pub located-some : (frame : ℕ) (defined : List Bool) (lists : List Places) (id i : ℕ) → id < 4096 → slice_index_or defined id false ≡ true → located frame (regions_of defined lists) id i ≡ byte_location (slice_index_or lists id []) i
located-some frame defined lists id i l e = ap (option_and_then (λ places. byte_location places i)) (places_of-small frame defined lists id l ∙ slot_is defined lists id true e)

-- a place that there is
pub place_below : (frame : ℕ) (defined : List Bool) (lists : List Places) (id k : ℕ) → id < 4096 → HasPlace (places_of frame (regions_of defined lists) id) k → k < length (slice_index_or lists id [])
place_below frame defined lists id k l has = go (slice_index_or defined id false) refl (subst (λ o. HasPlace o k) (places_of-small frame defined lists id l) has) where
  go : (t : Bool) → slice_index_or defined id false ≡ t → HasPlace (slot_of defined lists id) k → k < length (slice_index_or lists id [])
  go true e has = let P : Option Places → Type 0 = λ o. HasPlace o k in subst P (slot_is defined lists id true e) has
  go false e has = let P : Option Places → Type 0 = λ o. HasPlace o k in absurd (subst P (slot_is defined lists id false e) has)

-- what it holds
pub place-small : (frame : ℕ) (defined : List Bool) (lists : List Places) (id k : ℕ) → id < 4096 → HasPlace (places_of frame (regions_of defined lists) id) k
    → slice_index_or (slice_index_or lists id []) k None ≡ slice_index_or (unwrap_or (places_of frame (regions_of defined lists) id) []) k None
place-small frame defined lists id k l has = go (slice_index_or defined id false) refl (subst (λ o. HasPlace o k) (places_of-small frame defined lists id l) has) where
  go : (t : Bool) → slice_index_or defined id false ≡ t → HasPlace (slot_of defined lists id) k → slice_index_or (slice_index_or lists id []) k None ≡ slice_index_or (unwrap_or (places_of frame (regions_of defined lists) id) []) k None
  go true e has = ap (λ o. slice_index_or (unwrap_or o []) k None) (sym (places_of-small frame defined lists id l ∙ slot_is defined lists id true e))
  go false e has = let P : Option Places → Type 0 = λ o. HasPlace o k in absurd (subst P (slot_is defined lists id false e) has)

-- a place of the framebuffer
pub place-frame : (frame : ℕ) (regions : Regions) (id k : ℕ) → id ≡ SVGA_GMR_FRAMEBUFFER → HasPlace (places_of frame regions id) k → Some (Frame k) ≡ slice_index_or (unwrap_or (places_of frame regions id) []) k None
place-frame frame regions id k e has =
    let P : Option Places → Type 0 = λ o. HasPlace o k in
    let below : k < length (frame_places frame) = subst P (places_of-frame frame regions id e) has in
    sym (frame_place frame k (omega (arith, length-frame_places frame))) ∙ ap (λ o. slice_index_or (unwrap_or o []) k None) (sym (places_of-frame frame regions id e))

-- an id that has a place is the framebuffer's or up to 4,095
pub place_id : (frame : ℕ) (regions : Regions) (id k : ℕ) → id ≢ SVGA_GMR_FRAMEBUFFER → HasPlace (places_of frame regions id) k → id < 4096
place_id frame regions id k ne has = elim (cases_lt id 4096) as (λ _. id < 4096) [
  | inl small ↦ small
  | inr large ↦ let P : Option Places → Type 0 = λ o. HasPlace o k in absurd (subst P (places_of-large frame regions id (omega arith) ne) has)
]
