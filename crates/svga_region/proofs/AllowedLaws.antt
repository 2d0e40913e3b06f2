-- What is known of a region where a change of it isn't refused.
use Rattle.std.proofs.Common.{◌≡◌, ◌⊎◌, ℕ, ◌+◌, ◌-◌, ◌<◌, ◌≤◌, refl, sym, ap, ◌∙◌, Option, None, Some, List, [], ◌∷◌, Bool, true, false, cond, ◌&&◌, nat_lt, nat_le, length, arith, slice_index_or, sum_by, unwrap_or, is_none, inl, inr}
use Rattle.std.proofs.lemmas.Bool.{cases_lt}
use Rattle.std.proofs.lemmas.Bool.Decides.{nat_tests}
use Rattle.svga_cmd.specs.declared.fault.Fault.{Fault}
use Rattle.svga_cmd.specs.declared.fault.Fault.TheVariants as fault
use Rattle.svga_model.specs.Regions.{Places, Regions, defined_places, define_tests, id_tests, place_count, places_with, region_length, remap_tests}
use Rattle.svga_model.specs.Standing.{first_standing}
use Rattle.svga_region.proofs.DefineLaws.{define_over, length_in-slot, place_count-slots, remap_beyond, remap_none}
use Rattle.svga_region.proofs.PlaceLaws.{defined_places-small, slot_is}
use Rattle.svga_region.specs.Kept.{AreSlots, regions_of}

-- where no test stands the first is false, and none of the others stands
none_first : (t : Bool) (f : Fault) (rest : Option Fault) → cond t (Some f) rest ≡ None → (t ≡ false) × (rest ≡ None)
none_first true f rest none = absurd cc
none_first false f rest none = (refl, none)

-- an id that isn't refused
small_id : (id : ℕ) → nat_lt 4095 id ≡ false → id < 4096
small_id id low = grind (arith, nat_tests)

-- DEFINE_GMR2 that isn't refused has a small id
pub define_id : (regions : Regions) (id pages : ℕ) → first_standing (define_tests regions id pages) ≡ None → id < 4096
define_id regions id pages none = small_id id (none_first (nat_lt 4095 id) fault.RegionId _ none).0

-- there is room for its places
pub define_room : (defined : List Bool) (lists : List Places) (regions : Regions) (id pages : ℕ)
    → AreSlots defined lists → regions_of defined lists ≡ regions
    → first_standing (define_tests regions id pages) ≡ None
    → sum_by length lists - length (slice_index_or lists id []) + pages ≤ 65536
define_room defined lists regions id pages slots is none = go (cases_lt 65536 (places_with regions id pages)) where
  small : id < 4096
  small = define_id regions id pages none

  count : place_count regions ≡ sum_by length lists
  count = ap place_count (sym is) ∙ place_count-slots defined lists slots.lists_count slots.empty

  len : region_length regions id ≡ length (slice_index_or lists id [])
  len = ap (λ rs. region_length rs id) (sym is) ∙ length_in-slot defined lists id small slots.empty

  go : (65536 < places_with regions id pages) ⊎ (places_with regions id pages ≤ 65536)
      → sum_by length lists - length (slice_index_or lists id []) + pages ≤ 65536
  go (inl more) = let over = define_over regions id pages small more in absurd (cc (over, none))
  go (inr few) = omega (arith, few, count, len)

-- a region that is deleted needs no room
pub define_deleted : (defined : List Bool) (lists : List Places) (regions : Regions) (id pages : ℕ)
    → AreSlots defined lists → regions_of defined lists ≡ regions → pages ≡ 0
    → first_standing (define_tests regions id pages) ≡ first_standing (id_tests id)
define_deleted defined lists regions id pages slots is none =
    λ i. first_standing ((nat_lt 4095 id, fault.RegionId) ∷ (never i, fault.PlaceLimit) ∷ [])
  where
    count : place_count regions ≡ sum_by length lists
    count = ap place_count (sym is) ∙ place_count-slots defined lists slots.lists_count slots.empty

    within : (n : ℕ) → n ≤ 65536 → nat_lt 65536 n ≡ false
    within n few = grind (arith, nat_tests)

    both : (b : Bool) → (b && false) ≡ false
    both true = refl
    both false = refl

    never : (nat_le id 4095 && nat_lt 65536 (places_with regions id pages)) ≡ false
    never = ap (λ t. nat_le id 4095 && t) (within (places_with regions id pages) (omega (arith, count, slots.total, none)))
        ∙ both (nat_le id 4095)

-- REMAP_GMR2 that isn't refused has a small id
pub remap_id : (guest : ℕ) (regions : Regions) (id offset pages : ℕ) (numbers : List ℕ)
    → first_standing (remap_tests guest regions id offset pages numbers) ≡ None → id < 4096
remap_id guest regions id offset pages numbers none =
    let others = none_first (nat_le id 4095 && is_none (defined_places regions id)) fault.NoRegion _ none in
    small_id id (none_first (nat_lt 4095 id) fault.RegionId _ others.1).0

-- its region is defined
pub remap_flag : (guest : ℕ) (defined : List Bool) (lists : List Places) (regions : Regions) (id offset pages : ℕ)
    (numbers : List ℕ) → regions_of defined lists ≡ regions
    → first_standing (remap_tests guest regions id offset pages numbers) ≡ None → slice_index_or defined id false ≡ true
remap_flag guest defined lists regions id offset pages numbers is none = go (slice_index_or defined id false) refl where
  small : id < 4096
  small = remap_id guest regions id offset pages numbers none

  go : (t : Bool) → slice_index_or defined id false ≡ t → slice_index_or defined id false ≡ true
  go true e = e
  go false e =
      let refused = remap_none guest defined lists id offset pages numbers small e in
      absurd (cc (refused, ap (λ rs. first_standing (remap_tests guest rs id offset pages numbers)) is, none))

-- its range is within the region's list
pub remap_range : (guest : ℕ) (defined : List Bool) (lists : List Places) (regions : Regions) (id offset pages : ℕ)
    (numbers : List ℕ) → regions_of defined lists ≡ regions
    → first_standing (remap_tests guest regions id offset pages numbers) ≡ None
    → offset + pages ≤ length (slice_index_or lists id [])
remap_range guest defined lists regions id offset pages numbers is none =
    go (cases_lt (length (slice_index_or lists id [])) (offset + pages))
  where
    small : id < 4096
    small = remap_id guest regions id offset pages numbers none

    flag : slice_index_or defined id false ≡ true
    flag = remap_flag guest defined lists regions id offset pages numbers is none

    go : (length (slice_index_or lists id []) < offset + pages) ⊎ (offset + pages ≤ length (slice_index_or lists id []))
        → offset + pages ≤ length (slice_index_or lists id [])
    go (inl long) =
        let refused = remap_beyond guest defined lists id offset pages numbers small flag long in
        absurd (cc (refused, ap (λ rs. first_standing (remap_tests guest rs id offset pages numbers)) is, none))
    go (inr fits) = fits

-- a region that has a place is defined
pub place_flag : (defined : List Bool) (lists : List Places) (regions : Regions) (id k : ℕ)
    → regions_of defined lists ≡ regions → id ≤ 4095 → k < region_length regions id
    → slice_index_or defined id false ≡ true
place_flag defined lists regions id k is low there = go (slice_index_or defined id false) refl where
  go : (t : Bool) → slice_index_or defined id false ≡ t → slice_index_or defined id false ≡ true
  go true e = e
  go false e =
      let none = defined_places-small defined lists id (omega arith) ∙ slot_is defined lists id false e in
      let len : region_length regions id ≡ 0 =
      ap (λ rs. region_length rs id) (sym is) ∙ ap (λ o. length (unwrap_or o [])) none in
      absurd (omega arith)

-- and its list has the place
pub place_range : (defined : List Bool) (lists : List Places) (regions : Regions) (id k : ℕ)
    → regions_of defined lists ≡ regions → id ≤ 4095 → k < region_length regions id
    → k < length (slice_index_or lists id [])
place_range defined lists regions id k is low there =
    let flag = place_flag defined lists regions id k is low there in
    let some = defined_places-small defined lists id (omega arith) ∙ slot_is defined lists id true flag in
    let len = ap (λ rs. region_length rs id) (sym is) ∙ ap (λ o. length (unwrap_or o [])) some in
    omega arith
