-- Largest runs of equal neighbours.
use mathlib.Core.Bool.{true≢false}
use Rattle.std.proofs.Common.{◌≡◌, ◌<◌, ◌≤◌, ◌+◌, ◌-◌, ◌==◌, ◌≢◌, ℕ, zero, suc, Bool, true, false, List, [], ◌∷◌, ◌++◌, length, take, drop, get_or, length-drop, map, arith, refl, sym, ap, subst, ◌∙◌}
use Rattle.std.proofs.lemmas.List.{drop-drop, get_or-drop, take_all}
use Rattle.std.proofs.lemmas.Cmp.{nat_eq_equiv}
use Rattle.std.specs.Cmp.{IsPartialEquivalence, partial_equiv_from_equiv}
use Rattle.std.specs.Cmp.Lexicographic.{lists_per, pointwise}
use Rattle.std.specs.Prelude.{if◌then◌else◌}
use Rattle.svga_text.specs.Lines.{spaced}
use Rattle.svga_text.specs.Runs.{Run, in_front, largest_runs, runs_text}

-- a test that isn't true is false
is_false : (b : Bool) → (b ≢ true) → b ≡ false
is_false true never = absurd (never refl)
is_false false never = refl

-- what is left from place `first` on
abbrev pub rest_of : {A : Type 0} → List A → ℕ → List A
rest_of xs first = take (length xs - first) (drop first xs)

pub rest_is : {A : Type 0} (xs : List A) (first : ℕ) → rest_of xs first ≡ drop first xs
rest_is xs first = take_all (length xs - first) (drop first xs) (omega (arith, length-drop first xs))

-- a run within what is left ends within all
pub run_within : {A : Type 0} (xs : List A) (first n : ℕ) → first ≤ length xs → n ≤ length (rest_of xs first)
    → first + n ≤ length xs
run_within xs first n from within = omega (arith, length-drop first xs, ap length (rest_is xs first))

module _ {A : Type 0} (same : A → A → Bool) where
  -- an item that differs from the next is a run by itself
  apart : (x y : A) → same x y ≡ false → (rs : List (Run A))
      → in_front same x (in_front same y rs) ≡ (1, x) ∷ in_front same y rs
  apart x y other [] = rw other refl
  apart x y other ((count, z) ∷ rs) = by (same y z)
    where
      by : (b : Bool) → in_front same x (if b then (suc count, y) ∷ rs else (1, y) ∷ (count, z) ∷ rs)
          ≡ (1, x) ∷ (if b then (suc count, y) ∷ rs else (1, y) ∷ (count, z) ∷ rs)
      by true = rw other refl
      by false = rw other refl

  -- an item that equals the next lengthens its run
  longer : (x y : A) (count : ℕ) (rs : List (Run A)) → same x y ≡ true
      → in_front same x ((count, y) ∷ rs) ≡ (suc count, x) ∷ rs
  longer x y count rs equal = rw equal refl

  -- the first item and m behind it are equal, and the next isn't
  behind : IsPartialEquivalence same → (x : A) (rest : List A) (m : ℕ) (d : A) → m ≤ length rest
      → ((k : ℕ) → k < m → same (get_or rest k d) x ≡ true)
      → (m < length rest → same (get_or rest m d) x ≡ false)
      → largest_runs same (x ∷ rest) ≡ (suc m, x) ∷ largest_runs same (drop m rest)
  behind per x [] zero d within equal other = refl
  behind per x (y ∷ ys) zero d within equal other =
      apart x y (per.symm x y ∙ other (omega arith)) (largest_runs same ys)
  behind per x [] (suc m) d within equal other = absurd (omega arith)
  behind per x (y ∷ ys) (suc m) d within equal other =
      let first : same y x ≡ true = equal 0 (omega arith) in
      let turned : same x y ≡ true = per.symm x y ∙ first in
      let inner : largest_runs same (y ∷ ys) ≡ (suc m, y) ∷ largest_runs same (drop m ys) =
      behind per y ys m d (omega arith)
      (λ k less. per.trans (get_or ys k d) x y (equal (suc k) (omega arith)) turned)
      (λ less. is_false (same (get_or ys m d) y)
      (λ equals. true≢false (sym (per.trans (get_or ys m d) y x equals first) ∙ other (omega arith)))) in
      ap (in_front same x) inner ∙ longer x y (suc m) (largest_runs same (drop m ys)) turned

  -- from place `first` on n items are equal, and the next isn't
  pub run_at : IsPartialEquivalence same → (xs : List A) (first n : ℕ) (d : A) → 0 < n → first + n ≤ length xs
      → ((k : ℕ) → first < k → k < first + n → same (get_or xs k d) (get_or xs first d) ≡ true)
      → (first + n < length xs → same (get_or xs (first + n) d) (get_or xs first d) ≡ false)
      → largest_runs same (drop first xs) ≡ (n, get_or xs first d) ∷ largest_runs same (drop (first + n) xs)
  run_at per [] first n d some within equal other = absurd (omega arith)
  run_at per (x ∷ xs) zero zero d some within equal other = absurd (omega arith)
  run_at per (x ∷ xs) zero (suc m) d some within equal other =
      let all : suc m ≡ 0 + suc m = omega arith in
      subst (λ n. largest_runs same (x ∷ xs) ≡ (suc m, x) ∷ largest_runs same (drop n (x ∷ xs))) all
      (behind per x xs m d (omega arith) (λ k less. equal (suc k) (omega arith) (omega arith))
      (λ less. subst (λ n. same (get_or (x ∷ xs) n d) x ≡ false) (sym all) (other (omega arith))))
  run_at per (x ∷ xs) (suc first) n d some within equal other =
      let all : suc (first + n) ≡ suc first + n = omega arith in
      subst (λ m. largest_runs same (drop first xs) ≡ (n, get_or xs first d) ∷ largest_runs same (drop m (x ∷ xs))) all
      (run_at per xs first n d some (omega arith) (λ k above below. equal (suc k) (omega arith) (omega arith))
      (λ less. subst (λ m. same (get_or (x ∷ xs) m d) (get_or xs first d) ≡ false) (sym all) (other (omega arith))))

  -- from place `first` on all before place `end` are equal
  pub run_from : IsPartialEquivalence same → (xs : List A) (first end : ℕ) (d : A) → first < end → end ≤ length xs
      → ((k : ℕ) → first < k → k < end → same (get_or xs k d) (get_or xs first d) ≡ true)
      → (end < length xs → same (get_or xs end d) (get_or xs first d) ≡ false)
      → largest_runs same (drop first xs) ≡ (end - first, get_or xs first d) ∷ largest_runs same
      (drop (first + (end - first)) xs)
  run_from per xs first end d some within equal other =
      let all : end ≡ first + (end - first) = omega arith in
      run_at per xs first (end - first) d (omega arith) (omega arith) (λ k above below. equal k above (omega arith))
      (λ less. subst (λ m. same (get_or xs m d) (get_or xs first d) ≡ false) all (other (omega arith)))

  -- the first n items are equal, and the next isn't
  pub run_first : IsPartialEquivalence same → (xs : List A) (n : ℕ) (d : A) → 0 < n → n ≤ length xs
      → ((k : ℕ) → 0 < k → k < n → same (get_or xs k d) (get_or xs 0 d) ≡ true)
      → (n < length xs → same (get_or xs n d) (get_or xs 0 d) ≡ false)
      → largest_runs same xs ≡ (n, get_or xs 0 d) ∷ largest_runs same (drop n xs)
  run_first per xs n d some within equal other =
      let all : 0 + n ≡ n = omega arith in
      subst (λ m. largest_runs same xs ≡ (n, get_or xs 0 d) ∷ largest_runs same (drop m xs)) all
      (run_at per xs 0 n d some (omega arith) (λ k above below. equal k above (omega arith))
      (λ less. subst (λ m. same (get_or xs m d) (get_or xs 0 d) ≡ false) (sym all) (other (omega arith))))

  -- a run at the front of what is left, by its place
  pub run_next : (xs : List A) (first n : ℕ) (d : A)
      → largest_runs same (rest_of xs first) ≡ (n, get_or (rest_of xs first) 0 d) ∷ largest_runs same
      (drop n (rest_of xs first))
      → largest_runs same (drop first xs) ≡ (n, get_or xs first d) ∷ largest_runs same (drop (first + n) xs)
  run_next xs first n d is =
      let here : first + 0 ≡ first = omega arith in
      let next = subst (λ ys. largest_runs same ys ≡ (n, get_or ys 0 d) ∷ largest_runs same (drop n ys))
      (rest_is xs first) is in
      next ∙ (λ i. (n, (get_or-drop first xs 0 d ∙ ap (λ k. get_or xs k d) here) i) ∷ largest_runs same
      (drop-drop n first xs i))

  -- behind the last item there is no run
  pub none_left : (xs : List A) (first : ℕ) → length xs ≤ first → largest_runs same (drop first xs) ≡ []
  none_left [] zero beyond = refl
  none_left [] (suc first) beyond = refl
  none_left (x ∷ xs) zero beyond = absurd (omega arith)
  none_left (x ∷ xs) (suc first) beyond = none_left xs first (omega arith)

-- an item within a list, whatever stands for one beyond
pub any_default : {A : Type 0} (xs : List A) (i : ℕ) (d e : A) → i < length xs → get_or xs i d ≡ get_or xs i e
any_default [] i d e less = absurd (omega arith)
any_default (x ∷ xs) zero d e less = refl
any_default (x ∷ xs) (suc i) d e less = any_default xs i d e (omega arith)

-- rows are alike as their colours are
pub rows_per : IsPartialEquivalence (pointwise (◌==◌))
rows_per = lists_per (partial_equiv_from_equiv nat_eq_equiv)

-- the words of runs, each behind a space, as their texts
pub spaced-runs : {A : Type 0} (f : Run A → List ℕ) (place : ℕ) (runs : List (Run A))
    → runs_text (λ _ r. 32 ∷ f r) place runs ≡ spaced (map f runs)
spaced-runs f place [] = refl
spaced-runs f place (r ∷ rs) = ap (λ t. (32 ∷ f r) ++ t) (spaced-runs f (place + r.0) rs)
