-- What a set of definitions has at an id, and its slots after one of them changes.
use Rattle.std.proofs.Common.{◌≡◌, ◌≢◌, ℕ, zero, suc, ◌+◌, ◌<◌, ◌≤◌, refl, sym, ap, subst, ◌∙◌, List, [], ◌∷◌, length, replicate, slice_index_or, slice_set, sum_by, true, ◌&&◌, nat_lt, nat_le, Option, Some, None, IfSome, arith, inl, inr, get_or-set_same, get_or-set_other}
use Rattle.std.proofs.lemmas.Bool.{cases_lt}
use Rattle.std.proofs.lemmas.List.{get_or_past, length-set}
use Rattle.std.proofs.lemmas.List.Sums.{sum_by-cons}
use Rattle.std.specs.Cmp.{nat_cmp_total}
use Rattle.std.specs.FinMap as map
use Rattle.std.specs.FinMap.{nat_cmp-IsAntisymmetric}
use Rattle.std.specs.List.{range_with_len}
use Rattle.svga_cmd.proofs.Maps.{by_key, is_insert, is_remove}
use Rattle.svga_cmd.specs.declared.screen.ScreenDef.{ScreenDef}
use Rattle.svga_model.proofs.StandingLaws.{first_is_least}
use Rattle.svga_model.proofs.TabulatedLaws.{get-tabulated, get-tabulated_past}
use Rattle.svga_model.proofs.ValidRules.{AreFalse, all_false, at_most, is_at_most, not_false, other_false, sum_changed, sum_nothing}
use Rattle.svga_model.specs.Screens.{IsDefinition, define_screen_tests, destroy_screen_tests, has_sides, pixel_count, pixels_of, pixels_with}
use Rattle.svga_model.specs.Standing.{first_standing}
use Rattle.svga_model.specs.Tabulated.{tabulated}
use Rattle.svga_screen.proofs.FaultLaws.{defines}
use Rattle.svga_screen.specs.Definitions.{AreDefinitions, AreScreenDefinitions, screens_in}

-- what a slot holds
abbrev pub slot_at : List (Option ScreenDef) → ℕ → Option ScreenDef
slot_at slots id = slice_index_or slots id None

-- the map has what the slots hold
pub gets : (slots : List (Option ScreenDef)) → length slots ≡ 16 → (id : ℕ)
    → map.get (screens_in slots) id ≡ slot_at slots id
gets slots count id = elim (cases_lt id 16) as (λ _. map.get (screens_in slots) id ≡ slot_at slots id) [
  | inl low ↦ get-tabulated 16 (slot_at slots) id low
  | inr high ↦ get-tabulated_past 16 (slot_at slots) id high ∙ sym (get_or_past slots id None (omega (arith, count)))
]

-- at every id
pub all_gets : (slots : List (Option ScreenDef)) → length slots ≡ 16 → map.get (screens_in slots) ≡ slot_at slots
all_gets slots count = λ i id. gets slots count id i

-- a sum over the places of a list is one over the list
sums : (f : ℕ → ℕ) (xs : List (Option ScreenDef)) (a : ℕ)
    → ((i : ℕ) → i < length xs → f (a + i) ≡ pixels_of (slot_at xs i))
    → sum_by f (range_with_len a (length xs)) ≡ sum_by pixels_of xs
sums f [] a same = refl
sums f (x ∷ xs) a same =
    let first = ap f (let e : a ≡ a + 0 = omega arith in e) ∙ same 0 (omega arith) in
    let rest = sums f xs (a + 1) (λ i l. ap f (let e : a + 1 + i ≡ a + suc i = omega arith in e) ∙ same (suc i) (omega arith)) in
    omega (arith, sum_by-cons f a (range_with_len (a + 1) (length xs)), sum_by-cons pixels_of x xs, first, rest)

-- the pixels of all screens are those of all slots
pub pixel_count-slots : (slots : List (Option ScreenDef)) → length slots ≡ 16
    → pixel_count (slot_at slots) ≡ sum_by pixels_of slots
unfolding pixel_count
pixel_count-slots slots count = ap (λ k. sum_by (λ id. pixels_of (slot_at slots id)) (range_with_len 0 k)) (sym count)
    ∙ sums (λ id. pixels_of (slot_at slots id)) slots 0
    (λ i l. ap (λ k. pixels_of (slot_at slots k)) (let e : 0 + i ≡ i = omega arith in e))

-- as the map has them
pub pixel_count-screens_in : (slots : List (Option ScreenDef)) → length slots ≡ 16
    → pixel_count (map.get (screens_in slots)) ≡ sum_by pixels_of slots
pixel_count-screens_in slots count = ap pixel_count (all_gets slots count) ∙ pixel_count-slots slots count

-- what the slots hold is what holds of a set of definitions
pub are_screen_definitions : (budget : ℕ) (slots : List (Option ScreenDef)) → AreDefinitions budget slots
    → AreScreenDefinitions (record { budget = budget; screens = screens_in slots })
are_screen_definitions budget slots are = record {
  ids = get-tabulated_past 16 (slot_at slots);
  each = λ id. elim (cases_lt id 16) as (λ _. IfSome (map.get (screens_in slots) id) (IsDefinition id)) [
    | inl low ↦ subst (λ o. IfSome o (IsDefinition id)) (sym (gets slots are.count id)) (are.each id low)
    | inr high ↦ subst (λ o. IfSome o (IsDefinition id)) (sym (get-tabulated_past 16 (slot_at slots) id high)) tt
  ];
  within = subst (λ definitions. pixel_count definitions ≤ budget) (sym (all_gets slots are.count)) are.within;
}

-- no slot holds a definition
none_at : (n id : ℕ) → slot_at (replicate n None) id ≡ None
none_at zero id = refl
none_at (suc n) zero = refl
none_at (suc n) (suc id) = none_at n id

-- empty slots
pub no_definitions : (budget : ℕ) → AreDefinitions budget (replicate 16 None)
unfolding pixel_count
no_definitions budget = record {
  count = refl;
  each = λ id low. subst (λ o. IfSome o (IsDefinition id)) (sym (none_at 16 id)) tt;
  within = let nothing = sum_nothing (λ id. pixels_of (slot_at (replicate 16 None) id)) 0 16
      (λ q. ap pixels_of (none_at 16 q)) in
      omega (arith, nothing);
}

-- which are an empty map
pub screens_in-none : screens_in (replicate 16 None) ≡ map.empty
unfolding tabulated
screens_in-none = refl

-- one slot changes
module _ (slots : List (Option ScreenDef)) (count : length slots ≡ 16) (id : ℕ) (low : id < 16)
    (o : Option ScreenDef) where
  abbrev pub news : List (Option ScreenDef)
  news = slice_set slots id o

  -- it has as many slots
  new_count : length news ≡ 16
  new_count = length-set slots id o ∙ count

  -- what it has there, and at other places
  here : slot_at news id ≡ o
  here = get_or-set_same slots id o None (omega (arith, count))

  others : (q : ℕ) → q ≢ id → slot_at news q ≡ slot_at slots q
  others q ne = get_or-set_other slots id q o None ne

  -- how many pixels there are then
  pixel_count-news : pixel_count (slot_at news) + pixels_of (slot_at slots id)
      ≡ pixel_count (slot_at slots) + pixels_of (slot_at news id)
  unfolding pixel_count
  pixel_count-news = sum_changed (λ q. pixels_of (slot_at slots q)) (λ q. pixels_of (slot_at news q)) id 0 16
      (λ q ne. ap pixels_of (others q ne)) (omega arith) (omega arith)

  -- with no more pixels than there is room for
  pub are_changed : (budget : ℕ) → AreDefinitions budget slots → IfSome o (IsDefinition id)
      → pixel_count (slot_at slots) + pixels_of o ≤ budget + pixels_of (slot_at slots id) → AreDefinitions budget news
  are_changed budget are good room = record {
    count = new_count;
    each = λ q l. by_key nat_cmp_total nat_cmp-IsAntisymmetric q id (IfSome (slot_at news q) (IsDefinition q))
        (λ is. subst (λ k. IfSome (slot_at news k) (IsDefinition k)) (sym is)
        (subst (λ p. IfSome p (IsDefinition id)) (sym here) good))
        (λ ne. subst (λ p. IfSome p (IsDefinition q)) (sym (others q ne)) (are.each q l));
    within = omega (arith, pixel_count-news, ap pixels_of here, room);
  }

  -- the map has at other ids what it had
  changed_elsewhere : (q : ℕ) → q ≢ id → map.get (screens_in news) q ≡ map.get (screens_in slots) q
  changed_elsewhere q ne = gets news new_count q ∙ others q ne ∙ sym (gets slots count q)

  -- the map then
  pub screens_in-insert : (d : ScreenDef) → o ≡ Some d → screens_in news ≡ map.insert (screens_in slots) id d
  screens_in-insert d is = is_insert nat_cmp_total nat_cmp-IsAntisymmetric (screens_in slots) (screens_in news) id d
      (gets news new_count id ∙ here ∙ is) changed_elsewhere

  -- or without it
  pub screens_in-remove : o ≡ None → screens_in news ≡ map.remove (screens_in slots) id
  screens_in-remove is = is_remove nat_cmp_total nat_cmp-IsAntisymmetric (screens_in slots) (screens_in news) id
      (gets news new_count id ∙ here ∙ is) changed_elsewhere

-- what a definition is that isn't refused
module _ (budget : ℕ) (definitions : ℕ → Option ScreenDef) (d : ScreenDef)
    (none : first_standing (define_screen_tests budget definitions d) ≡ None) where
  -- each of its tests is false
  tests : AreFalse (define_screen_tests budget definitions d)
  tests = all_false (define_screen_tests budget definitions d)
      (sym (first_is_least 0 (define_screen_tests budget definitions d) (omega arith, (omega arith, (omega arith, tt)))) ∙ none)

  -- its id, its sides and its pixels
  pub low_id : d.id ≤ 15
  low_id = at_most d.id 15 tests.0

  sides : has_sides d ≡ true
  sides = not_false (has_sides d) tests.1.0

  pub is_definition : IsDefinition d.id d
  is_definition = defines budget definitions d low_id sides

  pub fits_budget : pixels_with definitions d ≤ budget
  fits_budget = at_most (pixels_with definitions d) budget
      (other_false (nat_le d.id 15 && has_sides d) (nat_lt budget (pixels_with definitions d)) tests.1.1.0
      (λ i. is_at_most d.id 15 low_id i && sides i))

-- an id that isn't refused
pub low_destroyed : (definitions : ℕ → Option ScreenDef) (id : ℕ)
    → first_standing (destroy_screen_tests definitions id) ≡ None → id ≤ 15
low_destroyed definitions id none =
    let tests = all_false (destroy_screen_tests definitions id)
    (sym (first_is_least 0 (destroy_screen_tests definitions id) (omega arith, (omega arith, tt))) ∙ none) in
    at_most id 15 tests.1.0

-- the slots after DEFINE_SCREEN
module _ (budget : ℕ) (slots : List (Option ScreenDef)) (are : AreDefinitions budget slots) (d : ScreenDef)
    (none : first_standing (define_screen_tests budget (map.get (screens_in slots)) d) ≡ None) where
  passes : first_standing (define_screen_tests budget (slot_at slots) d) ≡ None
  passes = subst (λ definitions. first_standing (define_screen_tests budget definitions d) ≡ None)
      (all_gets slots are.count) none

  low : d.id < 16
  low = omega (arith, low_id budget (slot_at slots) d passes)

  pub are_defined : AreDefinitions budget (slice_set slots d.id (Some d))
  are_defined = are_changed slots are.count d.id low (Some d) budget are (is_definition budget (slot_at slots) d passes)
      (omega (arith, fits_budget budget (slot_at slots) d passes))

  pub screens_in-defined : screens_in (slice_set slots d.id (Some d)) ≡ map.insert (screens_in slots) d.id d
  screens_in-defined = screens_in-insert slots are.count d.id low (Some d) d refl

-- the slots after DESTROY_SCREEN
module _ (budget : ℕ) (slots : List (Option ScreenDef)) (are : AreDefinitions budget slots) (id : ℕ)
    (none : first_standing (destroy_screen_tests (map.get (screens_in slots)) id) ≡ None) where
  low_there : id < 16
  low_there = omega (arith, low_destroyed (map.get (screens_in slots)) id none)

  pub are_destroyed : AreDefinitions budget (slice_set slots id None)
  are_destroyed = are_changed slots are.count id low_there None budget are tt (omega (arith, are.within))

  pub screens_in-destroyed : screens_in (slice_set slots id None) ≡ map.remove (screens_in slots) id
  screens_in-destroyed = screens_in-remove slots are.count id low_there None refl
