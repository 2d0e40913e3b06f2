-- Some item of a list passes a test, and some byte of a span does.
use Rattle.std.proofs.Common.{◌≡◌, ℕ, zero, suc, ◌+◌, ◌<◌, ◌≤◌, ◌⊎◌, inl, inr, refl, sym, ap, ◌∙◌, List, [], ◌∷◌, Bool, true, false, ◌||◌, ℤ, pos, ◌+ℤ◌, arith}
use Rattle.std.specs.List.{list_any, range_with_len}
use Rattle.svga_model.proofs.PaintedMembers.{range_has}
use Rattle.svga_model.specs.Members.{IsIn}
use Rattle.svga_shape.specs.Spans.{some_in_span}

-- two tests of which each holds where the other does are the same
pub same_tests : (a b : Bool) → (a ≡ true → b ≡ true) → (b ≡ true → a ≡ true) → a ≡ b
same_tests true b there back = sym (there refl)
same_tests false true there back = back refl
same_tests false false there back = refl

-- one of two tests
one_of : (a b : Bool) → (a || b) ≡ true → (a ≡ true) ⊎ (b ≡ true)
one_of true b h = inl refl
one_of false b h = inr h

pub second : (a b : Bool) → b ≡ true → (a || b) ≡ true
second true b h = refl
second false b h = h

-- an item that passes, where some item does
pub some_item : {X : Type 0} (test : X → Bool) (xs : List X) → list_any test xs ≡ true
    → (x : X) × IsIn x xs × (test x ≡ true)
some_item test [] h = absurd (cc)
some_item test (x ∷ xs) h = elim (one_of (test x) (list_any test xs) h) [
  | inl here ↦ (x, inl refl, here)
  | inr more ↦ let r = some_item test xs more in (r.0, inr r.1, r.2)
]

-- and where this one does, some item does
pub item_passes : {X : Type 0} (test : X → Bool) (xs : List X) (x : X) → IsIn x xs → test x ≡ true
    → list_any test xs ≡ true
item_passes test [] x h e = absurd h
item_passes test (y ∷ ys) x (inl same) e = ap (λ t. t || list_any test ys) (ap test same ∙ e)
item_passes test (y ∷ ys) x (inr h) e = second (test y) (list_any test ys) (item_passes test ys x h e)

-- a number of a range that passes, where some number does
pub some_number : (test : ℕ → Bool) (from count : ℕ) → list_any test (range_with_len from count) ≡ true
    → (n : ℕ) × (from ≤ n) × (n < from + count) × (test n ≡ true)
some_number test from zero h = absurd (cc)
some_number test from (suc count) h = elim (one_of (test from) (list_any test (range_with_len (from + 1) count)) h) [
  | inl here ↦ (from, omega arith, omega arith, here)
  | inr more ↦ let r = some_number test (from + 1) count more in (r.0, omega arith, omega arith, r.3)
]

-- and where this one does, some number does
pub number_passes : (test : ℕ → Bool) (from count n : ℕ) → from ≤ n → n < from + count → test n ≡ true
    → list_any test (range_with_len from count) ≡ true
number_passes test from count n low high e =
    item_passes test (range_with_len from count) n (range_has from count n low high) e

-- a byte of a span that passes, where some byte does
pub some_byte_of : (test : ℤ → Bool) (from : ℤ) (count : ℕ) → some_in_span test from count ≡ true
    → (k : ℕ) × (k < count) × (test (from +ℤ pos k) ≡ true)
unfolding some_in_span
some_byte_of test from count h =
    let r = some_number (λ k. test (from +ℤ pos k)) 0 count h in (r.0, omega arith, r.3)

-- and where this one does, some byte does
pub byte_passes : (test : ℤ → Bool) (from : ℤ) (count k : ℕ) → k < count → test (from +ℤ pos k) ≡ true
    → some_in_span test from count ≡ true
unfolding some_in_span
byte_passes test from count k l e = number_passes (λ k. test (from +ℤ pos k)) 0 count k (omega arith) (omega arith) e
