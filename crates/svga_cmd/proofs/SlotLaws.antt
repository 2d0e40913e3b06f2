-- What a row of slots has at a key.
use Rattle.std.proofs.Common.{◌≡◌, ◌≢◌, ℕ, suc, ◌-◌, ◌<◌, ◌==◌, nat_lt, Bool, true, false, cond, if◌then◌else◌, refl, sym, ap, ◌∙◌, Option, Some, None, List, [], ◌∷◌, length, slice_index_or, slice_set, arith, get_or-set_same, get_or-set_other}
use Rattle.std.proofs.lemmas.Bool.Decides.{nat_tests}
use Rattle.std.proofs.lemmas.Grind.{common_steps}
use Rattle.std.specs.Cmp.{IsTotalOrder}
use Rattle.std.specs.FinMap as map
use Rattle.std.specs.FinMap.{IsAntisymmetric, find, get-from_entries}
use Rattle.std.specs.Ordering.{eq_by_cmp}
use Rattle.std.specs.declared.cmp.Ordering.{Ordering}
use Rattle.svga_cmd.specs.Slots.{slots_from, from_slots}
use Rattle.svga_cmd.proofs.Maps.{is_insert, is_remove, one_key}

-- what slot k holds, where the row begins with slot i
abbrev pub at_from : {X : Type 0} → ℕ → List (Option X) → Option ℕ → Option X
at_from i slots None = None
at_from i slots (Some k) = if nat_lt k i then None else slice_index_or slots (k - i) None

abbrev pub is_place : ℕ → Option ℕ → Bool
is_place i None = false
is_place i (Some k) = k == i

at_step : {X : Type 0} (i : ℕ) (slot : Option X) (slots : List (Option X)) (o : Option ℕ) → cond (is_place i o) slot (at_from (suc i) slots o) ≡ at_from i (slot ∷ slots) o
at_step i slot slots None = refl
at_step i slot slots (Some k) = grind (arith, common_steps, nat_tests)

at_skip : {X : Type 0} (i : ℕ) (slots : List (Option X)) (o : Option ℕ) → at_from (suc i) slots o ≡ at_from i (None ∷ slots) o
at_skip i slots None = refl
at_skip i slots (Some k) = grind (arith, common_steps, nat_tests)

at_nothing : {X : Type 0} (i : ℕ) (o : Option ℕ) → None ≡ at_from {X = X} i [] o
at_nothing i None = refl
at_nothing i (Some k) = grind (arith, nat_tests)

pub at_place : {X : Type 0} (slots : List (Option X)) (k : ℕ) → at_from 0 slots (Some k) ≡ slice_index_or slots k None
at_place slots k = grind (arith, nat_tests)

same_number : (n : ℕ) → (n == n) ≡ true
same_number n = grind (arith, nat_tests)

module _ {K : Type 0} {R : K → K → Ordering} (o : IsTotalOrder R) (exact : IsAntisymmetric R) (key : ℕ → K) (place : K → Option ℕ) (tie : (q : K) (i : ℕ) → eq_by_cmp R q (key i) ≡ is_place i (place q)) where
  -- keys at one place are one
  one_place : (q r : K) (i : ℕ) → place q ≡ Some i → place r ≡ Some i → r ≡ q
  one_place q r i a b = one_key o exact r (key i) (tie r i ∙ ap (is_place i) b ∙ same_number i) ∙ sym (one_key o exact q (key i) (tie q i ∙ ap (is_place i) a ∙ same_number i))

-- place tells where a key stands
module _ {K X : Type 0} {R : K → K → Ordering} (o : IsTotalOrder R) (exact : IsAntisymmetric R) (key : ℕ → K) (place : K → Option ℕ) (tie : (q : K) (i : ℕ) → eq_by_cmp R q (key i) ≡ is_place i (place q)) where
  find-slots_from : (i : ℕ) (slots : List (Option X)) (q : K) → find R q (slots_from key i slots) ≡ at_from i slots (place q)
  find-slots_from i [] q = at_nothing i (place q)
  find-slots_from i (None ∷ slots) q = find-slots_from (suc i) slots q ∙ at_skip i slots (place q)
  find-slots_from i (Some x ∷ slots) q = ap (λ b. cond b (Some x) (find R q (slots_from key (suc i) slots))) (tie q i)
      ∙ ap (cond (is_place i (place q)) (Some x)) (find-slots_from (suc i) slots q)
      ∙ at_step i (Some x) slots (place q)

  pub get-from_slots : (slots : List (Option X)) (q : K) → map.get (from_slots {R = R} key slots) q ≡ at_from 0 slots (place q)
  unfolding from_slots
  get-from_slots slots q = get-from_entries o (slots_from key 0 slots) q ∙ find-slots_from 0 slots q

  elsewhere : (slots : List (Option X)) (i : ℕ) (slot : Option X) (o : Option ℕ) → o ≢ Some i → at_from 0 (slice_set slots i slot) o ≡ at_from 0 slots o
  elsewhere slots i slot None ne = refl
  elsewhere slots i slot (Some k) ne = at_place (slice_set slots i slot) k ∙ get_or-set_other slots i k slot None (λ e. ne (ap Some e)) ∙ sym (at_place slots k)

  -- to write a slot is to insert
  pub from_slots-set : (slots : List (Option X)) (q : K) (i : ℕ) (x : X) → place q ≡ Some i → i < length slots → from_slots {R = R} key (slice_set slots i (Some x)) ≡ map.insert (from_slots key slots) q x
  from_slots-set slots q i x at l = is_insert o exact (from_slots key slots) (from_slots key (slice_set slots i (Some x))) q x
      (get-from_slots _ q ∙ ap (at_from 0 (slice_set slots i (Some x))) at ∙ at_place _ i ∙ get_or-set_same slots i (Some x) None l)
      (λ r ne. get-from_slots _ r ∙ elsewhere slots i (Some x) (place r) (λ e. ne (one_place o exact key place tie q r i at e)) ∙ sym (get-from_slots slots r))

  -- to empty one is to remove
  pub from_slots-empty : (slots : List (Option X)) (q : K) (i : ℕ) → place q ≡ Some i → i < length slots → from_slots {R = R} key (slice_set slots i None) ≡ map.remove (from_slots key slots) q
  from_slots-empty slots q i at l = is_remove o exact (from_slots key slots) (from_slots key (slice_set slots i None)) q
      (get-from_slots _ q ∙ ap (at_from 0 (slice_set slots i None)) at ∙ at_place _ i ∙ get_or-set_same slots i None None l)
      (λ r ne. get-from_slots _ r ∙ elsewhere slots i None (place r) (λ e. ne (one_place o exact key place tie q r i at e)) ∙ sym (get-from_slots slots r))
