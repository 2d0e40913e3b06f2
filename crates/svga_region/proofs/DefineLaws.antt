-- What the regions are after a change of one list.
use Rattle.std.proofs.Common.{◌≡◌, ◌≢◌, ℕ, zero, suc, ◌+◌, ◌-◌, ◌<◌, ◌≤◌, refl, sym, ap, subst, ◌∙◌, Option, Some, None, List, [], ◌∷◌, length, arith, nat_lt, nat_le, not, ◌==◌, ◌&&◌, Bool, true, false, cond, slice_index_or, slice_set, replicate, sum_by, unwrap_or, get_or-set_same, get_or-set_other, is_some, is_none, All, ◌⊎◌, inl, inr}
use Rattle.std.specs.List.{range_with_len, list_any}
use Rattle.std.proofs.lemmas.Bool.{cases_lt}
use Rattle.std.proofs.lemmas.List.{same_lists, length-set, get_or_default, get_or_past, get_or-replicate, length-replicate}
use Rattle.std.proofs.lemmas.List.Sums.{sum_by-cons, sum_by-set}
use Rattle.std.proofs.lemmas.Bool.Decides.{nat_tests}
use Rattle.std.specs.Cmp.{nat_cmp_total}
use Rattle.std.specs.FinMap as map
use Rattle.std.specs.FinMap.{nat_cmp-IsAntisymmetric, get-empty}
use Rattle.svga_cmd.proofs.Maps.{is_insert, is_remove, same_gets}
use Rattle.svga_cmd.specs.declared.fault.Fault.TheVariants as fault
use Rattle.svga_cmd.specs.declared.page.PageKey.{PageKey}
use Rattle.svga_model.proofs.TabulatedLaws.{get-tabulated_past}
use Rattle.svga_model.specs.Regions.{Places, Regions, defined_places, region_length, place_count, places_with, define_tests, with_region, remap_tests, guest_places, remapped, with_remap}
use Rattle.svga_model.specs.Standing.{first_standing}
use Rattle.svga_region.proofs.PlaceLaws.{get-regions_of, slot_is, defined_places-small}
use Rattle.svga_region.specs.Kept.{regions_of, slot_of, AreEmpty, AreSlots, AreRuns, IsShortRun}
use Rattle.svga_region.specs.declared.descriptor.Descriptor.{Descriptor as Kept}
use Rattle.std.specs.Ordering.{nat_cmp}

-- the ids that a change of one slot leaves alone
others : (defined : List Bool) (lists : List Places) (id : ℕ) (t : Bool) (list : Places) → id < 4096 → (q : ℕ) → q ≢ id → map.get (regions_of (slice_set defined id t) (slice_set lists id list)) q ≡ map.get (regions_of defined lists) q
others defined lists id t list l q ne = elim (cases_lt q 4096) as (λ _. map.get (regions_of (slice_set defined id t) (slice_set lists id list)) q ≡ map.get (regions_of defined lists) q) [
  | inl small ↦ get-regions_of (slice_set defined id t) (slice_set lists id list) q small
      ∙ ap (λ b. cond b (Some (slice_index_or (slice_set lists id list) q [])) None) (get_or-set_other defined id q t false ne)
      ∙ ap (λ xs. cond (slice_index_or defined q false) (Some xs) None) (get_or-set_other lists id q list [] ne)
      ∙ sym (get-regions_of defined lists q small)
  | inr large ↦ get-tabulated_past 4096 (slot_of (slice_set defined id t) (slice_set lists id list)) q large ∙ sym (get-tabulated_past 4096 (slot_of defined lists) q large)
]

-- the id whose slot changes
here : (defined : List Bool) (lists : List Places) (id : ℕ) (t : Bool) (list : Places) → id < 4096 → length defined ≡ 4096 → length lists ≡ 4096 → map.get (regions_of (slice_set defined id t) (slice_set lists id list)) id ≡ cond t (Some list) None
here defined lists id t list l d n = get-regions_of (slice_set defined id t) (slice_set lists id list) id l
    ∙ ap (λ b. cond b (Some (slice_index_or (slice_set lists id list) id [])) None) (get_or-set_same defined id t false (omega arith))
    ∙ ap (λ xs. cond t (Some xs) None) (get_or-set_same lists id list [] (omega arith))

-- a slot that gets a list
pub regions_of-insert : (defined : List Bool) (lists : List Places) (id : ℕ) (list : Places) → id < 4096 → length defined ≡ 4096 → length lists ≡ 4096 → regions_of (slice_set defined id true) (slice_set lists id list) ≡ map.insert (regions_of defined lists) id list
regions_of-insert defined lists id list l d n = is_insert nat_cmp_total nat_cmp-IsAntisymmetric (regions_of defined lists) _ id list (here defined lists id true list l d n) (others defined lists id true list l)

-- a slot that is given up
pub regions_of-remove : (defined : List Bool) (lists : List Places) (id : ℕ) (list : Places) → id < 4096 → length defined ≡ 4096 → length lists ≡ 4096 → regions_of (slice_set defined id false) (slice_set lists id list) ≡ map.remove (regions_of defined lists) id
regions_of-remove defined lists id list l d n = is_remove nat_cmp_total nat_cmp-IsAntisymmetric (regions_of defined lists) _ id (here defined lists id false list l d n) (others defined lists id false list l)

-- a slot of a defined region that gets another list
pub regions_of-kept : (defined : List Bool) (lists : List Places) (id : ℕ) (list : Places) → id < 4096 → length defined ≡ 4096 → length lists ≡ 4096 → slice_index_or defined id false ≡ true → regions_of defined (slice_set lists id list) ≡ map.insert (regions_of defined lists) id list
regions_of-kept defined lists id list l d n e = ap (λ ds. regions_of ds (slice_set lists id list)) (sym same) ∙ regions_of-insert defined lists id list l d n where
  same : slice_set defined id true ≡ defined
  same = same_lists (slice_set defined id true) defined (length-set defined id true) (λ j x m. at j x m (cases_lt j id) (cases_lt id j)) where
    at : (j : ℕ) (x : Bool) → j < length (slice_set defined id true) → (j < id) ⊎ (id ≤ j) → (id < j) ⊎ (j ≤ id) → slice_index_or (slice_set defined id true) j x ≡ slice_index_or defined j x
    at j x m (inl a) h = get_or-set_other defined id j true x (λ e. absurd (omega arith))
    at j x m (inr a) (inl b) = get_or-set_other defined id j true x (λ e. absurd (omega arith))
    at j x m (inr a) (inr b) = subst (λ j. slice_index_or (slice_set defined id true) j x ≡ slice_index_or defined j x) (let e : id ≡ j = omega arith in e) (get_or-set_same defined id true x (omega arith) ∙ sym e ∙ get_or_default defined id false x (omega arith))

-- DEFINE_GMR2
pub regions_of-define : (defined : List Bool) (lists : List Places) (id pages : ℕ) (t : Bool) → id < 4096 → length defined ≡ 4096 → length lists ≡ 4096 → (pages == 0) ≡ not t
    → regions_of (slice_set defined id t) (slice_set lists id (replicate pages None)) ≡ with_region (regions_of defined lists) id pages
regions_of-define defined lists id pages true l d n e = regions_of-insert defined lists id (replicate pages None) l d n ∙ sym (ap (λ z. cond z (map.remove (regions_of defined lists) id) (map.insert (regions_of defined lists) id (replicate pages None))) e)
regions_of-define defined lists id pages false l d n e = regions_of-remove defined lists id (replicate pages None) l d n ∙ sym (ap (λ z. cond z (map.remove (regions_of defined lists) id) (map.insert (regions_of defined lists) id (replicate pages None))) e)

-- how many places there are
pub length_in-slot : (defined : List Bool) (lists : List Places) (id : ℕ) → id < 4096 → AreEmpty defined lists → region_length (regions_of defined lists) id ≡ length (slice_index_or lists id [])
length_in-slot defined lists id l empty = ap (λ o. length (unwrap_or o [])) (defined_places-small defined lists id l) ∙ go (slice_index_or defined id false) refl where
  go : (t : Bool) → slice_index_or defined id false ≡ t → length (unwrap_or (slot_of defined lists id) []) ≡ length (slice_index_or lists id [])
  go true e = ap (λ o. length (unwrap_or o [])) (slot_is defined lists id true e)
  go false e = ap (λ o. length (unwrap_or o [])) (slot_is defined lists id false e) ∙ sym (ap length (empty id e))

-- a sum over ids is one over the lists
sums : (f : ℕ → ℕ) (xs : List Places) (a : ℕ) → ((i : ℕ) → i < length xs → f (a + i) ≡ length (slice_index_or xs i [])) → sum_by f (range_with_len a (length xs)) ≡ sum_by length xs
sums f [] a h = refl
sums f (x ∷ xs) a h = sum_by-cons f a (range_with_len (a + 1) (length xs))
    ∙ (λ i. (ap f (let e : a ≡ a + 0 = omega arith in e) ∙ h 0 (omega arith)) i + sums f xs (a + 1) (λ j l. ap f (let e : a + 1 + j ≡ a + suc j = omega arith in e) ∙ h (suc j) (omega arith)) i)
    ∙ sym (sum_by-cons length x xs)

-- the places of all regions are those of all slots
pub place_count-slots : (defined : List Bool) (lists : List Places) → length lists ≡ 4096 → AreEmpty defined lists → place_count (regions_of defined lists) ≡ sum_by length lists
unfolding place_count
place_count-slots defined lists n empty = ap (λ k. sum_by (region_length (regions_of defined lists)) (range_with_len 0 k)) (sym n)
    ∙ sums (region_length (regions_of defined lists)) lists 0 (λ i l. length_in-slot defined lists (0 + i) (omega arith) empty ∙ ap (λ k. length (slice_index_or lists k [])) (let e : 0 + i ≡ i = omega arith in e))

-- a length that is too much
pub define_over : (regions : Regions) (id pages : ℕ) → id < 4096 → 65536 < places_with regions id pages → first_standing (define_tests regions id pages) ≡ Some fault.PlaceLimit
define_over regions id pages l more =
    let low : nat_lt 4095 id ≡ false = grind (arith, nat_tests) in
    let high : nat_le id 4095 ≡ true = grind (arith, nat_tests) in
    let over = over_at (places_with regions id pages) more in
    λ i. first_standing ((low i, fault.RegionId) ∷ (high i && over i, fault.PlaceLimit) ∷ [])
  where
    over_at : (n : ℕ) → 65536 < n → nat_lt 65536 n ≡ true
    over_at n more = grind (arith, nat_tests)

-- a length that there is room for
pub define_within : (regions : Regions) (id pages : ℕ) → id < 4096 → places_with regions id pages ≤ 65536 → first_standing (define_tests regions id pages) ≡ None
define_within regions id pages l few =
    let low : nat_lt 4095 id ≡ false = grind (arith, nat_tests) in
    let high : nat_le id 4095 ≡ true = grind (arith, nat_tests) in
    let over = over_at (places_with regions id pages) few in
    λ i. first_standing ((low i, fault.RegionId) ∷ (high i && over i, fault.PlaceLimit) ∷ [])
  where
    over_at : (n : ℕ) → n ≤ 65536 → nat_lt 65536 n ≡ false
    over_at n few = grind (arith, nat_tests)

-- not twice
pub twice : (b : Bool) → b ≡ not (not b)
twice true = refl
twice false = refl

-- REMAP_GMR2 by the answers of its tests, for an id up to 4,095
pub remap_first : (guest : ℕ) (regions : Regions) (id offset pages : ℕ) (numbers : List ℕ) (o : Option Places) (range bad : Bool) → id < 4096 → defined_places regions id ≡ o
    → nat_lt (length (unwrap_or o [])) (offset + pages) ≡ range → list_any (λ n. nat_le guest n) numbers ≡ bad
    → first_standing (remap_tests guest regions id offset pages numbers) ≡ first_standing ((is_none o, fault.NoRegion) ∷ (is_some o && range, fault.RangeBeyond) ∷ (bad, fault.BadPage) ∷ [])
remap_first guest regions id offset pages numbers o range bad l e r b =
    let low : nat_lt 4095 id ≡ false = grind (arith, nat_tests) in
    let high : nat_le id 4095 ≡ true = grind (arith, nat_tests) in
    let long = ap (λ o. nat_lt (length (unwrap_or o [])) (offset + pages)) e ∙ r in
    λ i. first_standing ((high i && is_none (e i), fault.NoRegion) ∷ (low i, fault.RegionId) ∷ (is_some (e i) && long i, fault.RangeBeyond) ∷ (b i, fault.BadPage) ∷ [])

-- at first no slot is in use
pub regions_of-empty : (lists : List Places) → regions_of (replicate 4096 false) lists ≡ map.empty
regions_of-empty lists = same_gets nat_cmp_total nat_cmp-IsAntisymmetric (regions_of (replicate 4096 false) lists) map.empty (λ q. elim (cases_lt q 4096) as (λ _. map.get (regions_of (replicate 4096 false) lists) q ≡ map.get (map.empty {R = nat_cmp}) q) [
  | inl small ↦ get-regions_of (replicate 4096 false) lists q small ∙ slot_is (replicate 4096 false) lists q false (get_or-replicate 4096 q false false small) ∙ sym (get-empty nat_cmp q)
  | inr large ↦ get-tabulated_past 4096 (slot_of (replicate 4096 false) lists) q large ∙ sym (get-empty nat_cmp q)
])

-- empty lists have no places
sum_none : (n : ℕ) → sum_by length (replicate {A = Places} n []) ≡ 0
sum_none zero = refl
sum_none (suc n) = sum_by-cons {X = Places} length [] (replicate n []) ∙ (let e : 0 + sum_by length (replicate {A = Places} n []) ≡ 0 = omega (arith, sum_none n) in e)

-- slots of which none is in use
pub slots_none : (defined : List Bool) (lists : List Places) → defined ≡ replicate 4096 false → lists ≡ replicate 4096 [] → AreSlots defined lists
slots_none defined lists d l = record {
  flags = ap length d ∙ length-replicate 4096 false;
  lists_count = ap length l ∙ length-replicate {A = Places} 4096 [];
  empty = λ i e. ap (λ xs. slice_index_or xs i []) l ∙ none i (cases_lt i 4096);
  total = let none = ap (sum_by length) l ∙ sum_none 4096 in omega arith;
} where
  none : (i : ℕ) → (i < 4096) ⊎ (4096 ≤ i) → slice_index_or (replicate {A = Places} 4096 []) i [] ≡ []
  none i (inl small) = get_or-replicate {A = Places} 4096 i [] [] small
  none i (inr large) = get_or_past (replicate {A = Places} 4096 []) i [] (omega (arith, length-replicate {A = Places} 4096 []))

-- copies of a short run
short_none : (none : Kept) → IsShortRun none → (n : ℕ) → All IsShortRun (replicate n none)
short_none none s n = λ k d l. subst (λ r. IsShortRun r) (sym (get_or-replicate n k none d (omega (arith, length-replicate n none)))) s

-- descriptors of which none was read
pub runs_none : (none : Kept) (runs : List Kept) → IsShortRun none → runs ≡ replicate 4096 none → AreRuns runs None
runs_none none runs s e = record {
  room = ap length e ∙ length-replicate 4096 none;
  short = subst (λ rs. All IsShortRun rs) (sym e) (short_none none s 4096);
  chain = tt;
}

-- the same where the region has a list
remap_some : (guest : ℕ) (defined : List Bool) (lists : List Places) (id offset pages : ℕ) (numbers : List ℕ) (range bad : Bool) → id < 4096 → slice_index_or defined id false ≡ true
    → nat_lt (length (slice_index_or lists id [])) (offset + pages) ≡ range → list_any (λ n. nat_le guest n) numbers ≡ bad
    → first_standing (remap_tests guest (regions_of defined lists) id offset pages numbers) ≡ first_standing ((range, fault.RangeBeyond) ∷ (bad, fault.BadPage) ∷ [])
remap_some guest defined lists id offset pages numbers range bad l e r b = remap_first guest (regions_of defined lists) id offset pages numbers (Some (slice_index_or lists id [])) range bad l (defined_places-small defined lists id l ∙ slot_is defined lists id true e) r b

-- REMAP_GMR2 where no region is defined
pub remap_none : (guest : ℕ) (defined : List Bool) (lists : List Places) (id offset pages : ℕ) (numbers : List ℕ) → id < 4096 → slice_index_or defined id false ≡ false
    → first_standing (remap_tests guest (regions_of defined lists) id offset pages numbers) ≡ Some fault.NoRegion
remap_none guest defined lists id offset pages numbers l e = remap_first guest (regions_of defined lists) id offset pages numbers None (nat_lt 0 (offset + pages)) (list_any (λ n. nat_le guest n) numbers) l (defined_places-small defined lists id l ∙ slot_is defined lists id false e) refl refl

-- REMAP_GMR2 past the end
pub remap_beyond : (guest : ℕ) (defined : List Bool) (lists : List Places) (id offset pages : ℕ) (numbers : List ℕ) → id < 4096 → slice_index_or defined id false ≡ true → length (slice_index_or lists id []) < offset + pages
    → first_standing (remap_tests guest (regions_of defined lists) id offset pages numbers) ≡ Some fault.RangeBeyond
remap_beyond guest defined lists id offset pages numbers l e long = remap_some guest defined lists id offset pages numbers true (list_any (λ n. nat_le guest n) numbers) l e (test (length (slice_index_or lists id [])) (offset + pages) long) refl where
  test : (a b : ℕ) → a < b → nat_lt a b ≡ true
  test a b l = grind (arith, nat_tests)

-- REMAP_GMR2 within the region, by its page numbers
pub remap_by_page : (guest : ℕ) (defined : List Bool) (lists : List Places) (id offset pages : ℕ) (numbers : List ℕ) (bad : Bool) → id < 4096 → slice_index_or defined id false ≡ true → offset + pages ≤ length (slice_index_or lists id []) → list_any (λ n. nat_le guest n) numbers ≡ bad
    → first_standing (remap_tests guest (regions_of defined lists) id offset pages numbers) ≡ cond bad (Some fault.BadPage) None
remap_by_page guest defined lists id offset pages numbers bad l e fits b = remap_some guest defined lists id offset pages numbers false bad l e (test (length (slice_index_or lists id [])) (offset + pages) fits) b where
  test : (a b : ℕ) → b ≤ a → nat_lt a b ≡ false
  test a b l = grind (arith, nat_tests)

-- REMAP_GMR2 changes one list
pub regions_of-remap : (defined : List Bool) (lists : List Places) (id offset : ℕ) (numbers : List ℕ) → id < 4096 → length defined ≡ 4096 → length lists ≡ 4096 → slice_index_or defined id false ≡ true
    → regions_of defined (slice_set lists id (remapped (slice_index_or lists id []) offset (guest_places numbers))) ≡ with_remap (regions_of defined lists) id offset numbers
regions_of-remap defined lists id offset numbers l d n e = regions_of-kept defined lists id (remapped (slice_index_or lists id []) offset (guest_places numbers)) l d n e
    ∙ ap (λ o. map.insert (regions_of defined lists) id (remapped (unwrap_or o []) offset (guest_places numbers))) (sym (defined_places-small defined lists id l ∙ slot_is defined lists id true e))

-- a list that gets another of its length keeps the slots in order
pub slots_kept : (defined : List Bool) (lists : List Places) (id : ℕ) (list : Places) → id < 4096 → slice_index_or defined id false ≡ true → length list ≡ length (slice_index_or lists id []) → AreSlots defined lists → AreSlots defined (slice_set lists id list)
slots_kept defined lists id list l e same slots = record {
  flags = slots.flags;
  lists_count = length-set lists id list ∙ slots.lists_count;
  empty = λ i f. get_or-set_other lists id i list [] (λ is. cc (e, f, ap (λ k. slice_index_or defined k false) is)) ∙ slots.empty i f;
  total = omega (arith, slots.total, sum_by-set length lists id list [] (omega (arith, slots.lists_count)));
}

-- new places that there is room for keep the slots in order
pub slots_defined : (defined : List Bool) (lists : List Places) (id pages : ℕ) → id < 4096
    → sum_by length lists - length (slice_index_or lists id []) + pages ≤ 65536 → AreSlots defined lists
    → AreSlots (slice_set defined id (not (pages == 0))) (slice_set lists id (replicate pages None))
slots_defined defined lists id pages small room slots = record {
  flags = length-set defined id some ∙ slots.flags;
  lists_count = length-set lists id list ∙ slots.lists_count;
  empty = λ i f. at i (cases_lt i id) (cases_lt id i) f;
  total = omega (
    arith,
    room,
    sum_by-set length lists id list [] (omega (arith, slots.lists_count)),
    length-replicate {A = Option PageKey} pages None,
  );
} where
  some : Bool
  some = not (pages == 0)

  list : Places
  list = replicate pages None

  other : (i : ℕ) → i ≢ id → slice_index_or (slice_set defined id some) i false ≡ false
      → slice_index_or (slice_set lists id list) i [] ≡ []
  other i ne f = get_or-set_other lists id i list [] ne
      ∙ slots.empty i (sym (get_or-set_other defined id i some false ne) ∙ f)

  none_by : (n : ℕ) → not (n == 0) ≡ false → n ≡ 0
  none_by n e = grind (arith, nat_tests)

  same : (i : ℕ) → i ≡ id → slice_index_or (slice_set defined id some) i false ≡ false
      → slice_index_or (slice_set lists id list) i [] ≡ []
  same i is f =
      let flag = sym (get_or-set_same defined id some false (omega (arith, slots.flags)))
      ∙ ap (λ k. slice_index_or (slice_set defined id some) k false) (sym is) ∙ f in
      ap (λ k. slice_index_or (slice_set lists id list) k []) is
      ∙ get_or-set_same lists id list [] (omega (arith, slots.lists_count))
      ∙ ap (λ n. replicate n None) (none_by pages flag)

  at : (i : ℕ) → (i < id) ⊎ (id ≤ i) → (id < i) ⊎ (i ≤ id) → slice_index_or (slice_set defined id some) i false ≡ false
      → slice_index_or (slice_set lists id list) i [] ≡ []
  at i (inl a) h f = other i (λ e. absurd (omega arith)) f
  at i (inr a) (inl b) f = other i (λ e. absurd (omega arith)) f
  at i (inr a) (inr b) f = same i (omega arith) f
