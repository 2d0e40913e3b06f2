-- Tests of the items of lists, and lists that are made of ranges of numbers.
use Rattle.std.proofs.Common.{◌≡◌, ℕ, zero, suc, ◌+◌, ◌<◌, ◌≤◌, inl, inr, refl, sym, ap, ◌∙◌, List, [], ◌∷◌, ◌++◌, map, Bool, false, arith}
use Rattle.std.proofs.lemmas.Bool.{or_from, or_parts}
use Rattle.std.specs.List.{list_any, range_with_len}
use Rattle.svga_model.specs.Members.{IsIn}

-- where no item passes a test, this one doesn't
pub none_passes : {X : Type 0} (test : X → Bool) (xs : List X) (x : X) → list_any test xs ≡ false → IsIn x xs
    → test x ≡ false
none_passes test [] x none here = absurd here
none_passes test (y ∷ ys) x none (inl same) = ap test (sym same) ∙ (or_parts (test y) (list_any test ys) none).0
none_passes test (y ∷ ys) x none (inr here) =
    none_passes test ys x (or_parts (test y) (list_any test ys) none).1 here

-- and none does where each fails it
pub each_fails : {X : Type 0} (test : X → Bool) (xs : List X) → ((x : X) → IsIn x xs → test x ≡ false)
    → list_any test xs ≡ false
each_fails test [] fails = refl
each_fails test (x ∷ xs) fails =
    or_from (test x) (list_any test xs) (fails x (inl refl)) (each_fails test xs (λ y here. fails y (inr here)))

-- a range is its first numbers and those behind them
pub range_split : (a n k : ℕ) → range_with_len a (n + k) ≡ range_with_len a n ++ range_with_len (a + n) k
range_split a zero k =
    let count : zero + k ≡ k = omega arith in
    let begins : a ≡ a + zero = omega arith in
    λ i. range_with_len (begins i) (count i)
range_split a (suc n) k =
    let count : suc n + k ≡ suc (n + k) = omega arith in
    let begins : a + 1 + n ≡ a + suc n = omega arith in
    ap (range_with_len a) count ∙ ap (λ xs. a ∷ xs) (range_split (a + 1) n k)
    ∙ ap (λ b. a ∷ range_with_len (a + 1) n ++ range_with_len b k) begins

-- two functions that are the same on some numbers make the same of them
pub same_map : {X : Type 0} (f g : ℕ → X) (from count : ℕ)
    → ((k : ℕ) → from ≤ k → k < from + count → f k ≡ g k)
    → map f (range_with_len from count) ≡ map g (range_with_len from count)
same_map f g from zero same = refl
same_map f g from (suc count) same = λ i.
    same from (omega arith) (omega arith) i
    ∷ same_map f g (from + 1) count (λ k low high. same k (omega arith) (omega arith)) i
