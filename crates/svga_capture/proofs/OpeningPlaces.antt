-- A region that is opened place by place.
use Rattle.std.proofs.Common.{◌≡◌, ◌≢◌, ℕ, zero, suc, ◌+◌, ◌*◌, ◌<◌, ◌≤◌, refl, sym, ap, ◌∙◌, inl, inr, List, [], ◌∷◌, ◌++◌, length, map as map_list, Bool, true, false, cond, ◌&&◌, nat_lt, nat_le, ◌==◌, Option, Some, None, unwrap_or, replicate, take, drop, append_assoc, arith}
use Rattle.std.proofs.lemmas.Bool.{cases_lt}
use Rattle.std.proofs.lemmas.Bool.Decides.{nat_tests}
use Rattle.std.proofs.lemmas.List.FromFn.{length-map-range_with_len}
use Rattle.std.specs.Cmp.{nat_cmp_total}
use Rattle.std.specs.FinMap as map
use Rattle.std.specs.FinMap.{nat_cmp-IsAntisymmetric}
use Rattle.std.specs.List.{range_with_len}
use Rattle.svga_cmd.proofs.Maps.{get_same, insert_twice}
use Rattle.svga_cmd.specs.declared.constants.TheConstants.{UNMAPPED_WORD}
use Rattle.svga_cmd.specs.declared.fault.Fault.TheVariants as fault
use Rattle.svga_cmd.specs.declared.page.PageKey.{PageKey}
use Rattle.svga_cmd.specs.declared.page.PageKey.TheVariants.{Guest}
use Rattle.svga_model.proofs.ValidRegions.{defined_small}
use Rattle.svga_model.proofs.ValidRules.{not_over}
use Rattle.svga_model.specs.CaptureFields.{RegionRecord, record_at}
use Rattle.svga_model.specs.Captures.{listed_places, place_of_word}
use Rattle.svga_model.specs.Regions.{Places, Regions, define_tests, defined_places, place_count, places_with, region_length, remapped, with_region, with_remap}
use Rattle.svga_model.specs.Standing.{first_standing}
use Rattle.svga_model.specs.Walks.{little_word}
use Rattle.svga_region.specs.RegionSet.{RegionSet}
use Rattle.svga_capture.specs.Openings.{IsNextRecord, IsPlaceWord, with_place}

both_no : (a b : Bool) → b ≡ false → (a && b) ≡ false
both_no true b e = e
both_no false b e = refl

-- no rule refuses a region for which there is room
define_free : (regions : Regions) (id pages : ℕ) → id ≤ 4095 → place_count regions + pages ≤ 65536
    → first_standing (define_tests regions id pages) ≡ None
define_free regions id pages small room =
    let within : places_with regions id pages ≤ 65536 = omega (arith, room) in
    let low = not_over id 4095 small in
    let few = both_no (nat_le id 4095) _ (not_over (places_with regions id pages) 65536 within) in
    λ i. first_standing ((low i, fault.RegionId) ∷ (few i, fault.PlaceLimit) ∷ [])

-- a word of a place that isn't unmapped
pub mapped : (guest w : ℕ) → IsPlaceWord guest w → (w == UNMAPPED_WORD) ≡ false → w < guest
mapped guest w is not = grind (arith, nat_tests)

-- lists that a function makes
made_same : {X : Type 0} (g h : ℕ → X) (a n : ℕ) → ((j : ℕ) → a ≤ j → g j ≡ h j) → map_list g (range_with_len a n) ≡ map_list h (range_with_len a n)
made_same g h a zero same = refl
made_same g h a (suc n) same = λ i. same a (omega arith) i ∷ made_same g h (a + 1) n (λ j l. same j (omega arith)) i

made_one : {X : Type 0} (x : X) (a n : ℕ) → replicate n x ≡ map_list (λ j. x) (range_with_len a n)
made_one x a zero = refl
made_one x a (suc n) = λ i. x ∷ made_one x (a + 1) n i

made_put : {X : Type 0} (g h : ℕ → X) (x : X) (a n k : ℕ) → k < n → ((j : ℕ) → j ≢ a + k → g j ≡ h j) → x ≡ h (a + k)
    → take k (map_list g (range_with_len a n)) ++ (x ∷ drop (suc k) (map_list g (range_with_len a n))) ≡ map_list h (range_with_len a n)
made_put g h x a zero k l same here = absurd (omega (arith, l))
made_put g h x a (suc n) zero l same here = λ i. (here ∙ ap h (let e : a + 0 ≡ a = omega arith in e)) i ∷ made_same g h (a + 1) n (λ j above. same j (λ e. absurd (omega (arith, above, e)))) i
made_put g h x a (suc n) (suc k) l same here =
    let e : a + suc k ≡ a + 1 + k = omega arith in
    λ i. same a (λ e. absurd (omega (arith, e))) i ∷ made_put g h x (a + 1) n k (omega (arith, l)) (λ j ne. same j (λ is. absurd (ne (omega (arith, is))))) (here ∙ ap h e) i

-- the first k places as a function gives them, and unmapped ones behind
abbrev pub cell : {X : Type 0} → (ℕ → Option X) → ℕ → ℕ → Option X
cell f k j = cond (nat_lt j k) (f j) None

abbrev pub so_far : List ℕ → RegionRecord → ℕ → Places
so_far bytes r k = map_list (cell (λ j. place_of_word (little_word bytes (r.at + 8 + 4 * j))) k) (range_with_len 0 r.count)

below : {X : Type 0} (f : ℕ → Option X) (k j : ℕ) → j < k → cell f k j ≡ f j
below f k j l = (let e : nat_lt j k ≡ true = grind (arith, nat_tests) in ap (λ t. cond t (f j) None) e)

above : {X : Type 0} (f : ℕ → Option X) (k j : ℕ) → k ≤ j → cell f k j ≡ None
above f k j l = (let e : nat_lt j k ≡ false = grind (arith, nat_tests) in ap (λ t. cond t (f j) None) e)

elsewhere : {X : Type 0} (f : ℕ → Option X) (k j : ℕ) → j ≢ k → cell f k j ≡ cell f (k + 1) j
elsewhere f k j ne = elim (cases_lt j k) as (λ _. cell f k j ≡ cell f (k + 1) j) [
  | inl less ↦ below f k j less ∙ sym (below f (k + 1) j (omega (arith, less)))
  | inr more ↦ elim (cases_lt k j) as (λ _. cell f k j ≡ cell f (k + 1) j) [
    | inl far ↦ above f k j more ∙ sym (above f (k + 1) j (omega (arith, far)))
    | inr near ↦ absurd (ne (omega (arith, more, near)))
  ]
]

-- at first all are unmapped
pub none_yet : (bytes : List ℕ) (r : RegionRecord) → replicate r.count None ≡ so_far bytes r 0
none_yet bytes r =
    let f : ℕ → Option PageKey = λ j. place_of_word (little_word bytes (r.at + 8 + 4 * j)) in
    made_one None 0 r.count ∙ made_same (λ j. None) (cell f 0) 0 r.count (λ j l. sym (above f 0 j (omega arith)))

-- at last they are as the record lists them
made_within : {X : Type 0} (g h : ℕ → X) (a n : ℕ) → ((j : ℕ) → j < a + n → g j ≡ h j) → map_list g (range_with_len a n) ≡ map_list h (range_with_len a n)
made_within g h a zero same = refl
made_within g h a (suc n) same = λ i. same a (omega arith) i ∷ made_within g h (a + 1) n (λ j l. same j (omega (arith, l))) i

pub all_listed : (bytes : List ℕ) (r : RegionRecord) → so_far bytes r r.count ≡ listed_places bytes r
all_listed bytes r =
    let f : ℕ → Option PageKey = λ j. place_of_word (little_word bytes (r.at + 8 + 4 * j)) in
    made_within (cell f r.count) f 0 r.count (λ j l. below f r.count j (omega (arith, l)))

-- one more place
pub one_place : (bytes : List ℕ) (r : RegionRecord) (regions : Regions) (k : ℕ) → r.id ≤ 4095 → k < r.count
    → with_place (map.insert regions r.id (so_far bytes r k)) r.id k (little_word bytes (r.at + 8 + 4 * k))
    ≡ map.insert regions r.id (so_far bytes r (k + 1))
one_place bytes r regions k small l = go (w == UNMAPPED_WORD) refl where
  w : ℕ
  w = little_word bytes (r.at + 8 + 4 * k)

  f : ℕ → Option PageKey
  f j = place_of_word (little_word bytes (r.at + 8 + 4 * j))

  now : Regions
  now = map.insert regions r.id (so_far bytes r k)

  place_is : (t : Bool) → (w == UNMAPPED_WORD) ≡ t → f k ≡ cond t None (Some (Guest w))
  place_is t e = ap (λ t. cond t None (Some (Guest w))) e

  last : f k ≡ cell f (k + 1) k
  last = sym (below f (k + 1) k (omega arith))

  kept : (w == UNMAPPED_WORD) ≡ true → so_far bytes r k ≡ so_far bytes r (k + 1)
  kept e = made_same (cell f k) (cell f (k + 1)) 0 r.count (λ j low. elim (cases_lt j k) as (λ _. cell f k j ≡ cell f (k + 1) j) [
    | inl less ↦ elsewhere f k j (λ e. absurd (omega (arith, less, e)))
    | inr more ↦ elim (cases_lt k j) as (λ _. cell f k j ≡ cell f (k + 1) j) [
      | inl far ↦ elsewhere f k j (λ e. absurd (omega (arith, far, e)))
      | inr near ↦ (let is : j ≡ k = omega (arith, more, near) in
          ap (cell f k) is ∙ above f k k (omega arith) ∙ sym (place_is true e) ∙ last ∙ ap (cell f (k + 1)) (sym is))
    ]
  ])

  list_is : unwrap_or (defined_places now r.id) [] ≡ so_far bytes r k
  list_is = ap (λ o. unwrap_or o []) (defined_small now r.id small ∙ get_same nat_cmp_total nat_cmp-IsAntisymmetric regions r.id (so_far bytes r k))

  put : (w == UNMAPPED_WORD) ≡ false → remapped (so_far bytes r k) k (Some (Guest w) ∷ []) ≡ so_far bytes r (k + 1)
  put e = append_assoc (take k (so_far bytes r k)) (Some (Guest w) ∷ []) (drop (k + 1) (so_far bytes r k))
      ∙ ap (λ n. take k (so_far bytes r k) ++ (Some (Guest w) ∷ drop n (so_far bytes r k))) (let z : k + 1 ≡ suc k = omega arith in z)
      ∙ made_put (cell f k) (cell f (k + 1)) (Some (Guest w)) 0 r.count k l
      (λ j ne. elsewhere f k j (λ is. ne (let z : j ≡ 0 + k = omega (arith, is) in z)))
      (sym (place_is false e) ∙ last ∙ ap (cell f (k + 1)) (let z : k ≡ 0 + k = omega arith in z))

  go : (t : Bool) → (w == UNMAPPED_WORD) ≡ t → cond t now (with_remap now r.id k (w ∷ [])) ≡ map.insert regions r.id (so_far bytes r (k + 1))
  go true e = ap (map.insert regions r.id) (kept e)
  go false e = ap (λ xs. map.insert now r.id (remapped xs k (Some (Guest w) ∷ []))) list_is
      ∙ ap (map.insert now r.id) (put e)
      ∙ insert_twice nat_cmp_total nat_cmp-IsAntisymmetric regions r.id (so_far bytes r k) (so_far bytes r (k + 1))

-- a region of some places, defined
pub with_some : (regions : Regions) (id pages : ℕ) → 1 ≤ pages → with_region regions id pages ≡ map.insert regions id (replicate pages None)
with_some regions id pages some = (let e : (pages == 0) ≡ false = grind (arith, nat_tests) in ap (λ t. cond t (map.remove regions id) (map.insert regions id (replicate pages None))) e)

-- no rule refuses the next region
pub define_next : (bytes : List ℕ) (at id count guest : ℕ) (regions : Regions) → id ≡ (record_at bytes at).id
    → count ≡ (record_at bytes at).count → IsNextRecord bytes at guest regions
    → first_standing (define_tests regions id count) ≡ None
define_next bytes at id count guest regions e f next =
    let small = next.small in
    let room = next.room in
    define_free regions id count (omega (arith, e, small)) (omega (arith, f, room))

-- what it is at first
pub begun : (bytes : List ℕ) (regions : Regions) (r : RegionRecord) (id count : ℕ) → id ≡ r.id → count ≡ r.count → 1 ≤ r.count
    → with_region regions id count ≡ map.insert regions r.id (so_far bytes r 0)
begun bytes regions r id count e f some =
    (λ i. with_region regions (e i) (f i)) ∙ with_some regions r.id r.count some
    ∙ ap (map.insert regions r.id) (none_yet bytes r)

-- it has each place
pub has_place : (m regions : Regions) (bytes : List ℕ) (r : RegionRecord) (k id : ℕ) → m ≡ map.insert regions r.id (so_far bytes r k)
    → id ≡ r.id → r.id ≤ 4095 → k < r.count → k < region_length m id
has_place m regions bytes r k id e g small l =
    let f : ℕ → Option PageKey = λ j. place_of_word (little_word bytes (r.at + 8 + 4 * j)) in
    let news = map.insert regions r.id (so_far bytes r k) in
    let many : length (so_far bytes r k) ≡ r.count = length-map-range_with_len (cell f k) 0 r.count in
    let same : region_length m id ≡ region_length news r.id = (λ i. region_length (e i) (g i)) in
    let now : region_length news r.id ≡ length (so_far bytes r k) = ap (λ o. length (unwrap_or o []))
    (defined_small news r.id small ∙ get_same nat_cmp_total nat_cmp-IsAntisymmetric regions r.id (so_far bytes r k)) in
    omega (arith, l, many, same, now)

-- the regions after one more place
pub place_more : (s t u : RegionSet) (bytes : List ℕ) (r : RegionRecord) (k id w : ℕ)
    → t ≡ record s { regions = map.insert s.regions r.id (so_far bytes r k) }
    → u ≡ record t { regions = with_place t.regions id k w }
    → id ≡ r.id → w ≡ little_word bytes (r.at + 8 + 4 * k) → r.id ≤ 4095 → k < r.count
    → u ≡ record s { regions = map.insert s.regions r.id (so_far bytes r (k + 1)) }
place_more s t u bytes r k id w was is e f small l =
    is ∙ (λ i. record (was i) { regions = with_place (was i).regions (e i) k (f i) })
    ∙ ap (λ m. record s { regions = m }) (one_place bytes r s.regions k small l)

-- and after all
pub place_last : (s t : RegionSet) (bytes : List ℕ) (r : RegionRecord) (k : ℕ)
    → t ≡ record s { regions = map.insert s.regions r.id (so_far bytes r k) } → k ≡ r.count
    → t ≡ record s { regions = map.insert s.regions r.id (listed_places bytes r) }
place_last s t bytes r k is e =
    is ∙ ap (λ k. record s { regions = map.insert s.regions r.id (so_far bytes r k) }) e
    ∙ ap (λ list. record s { regions = map.insert s.regions r.id list }) (all_listed bytes r)
