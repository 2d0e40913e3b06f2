-- What it tells of the rules on an act that none of them refuses it, and sums in which one term changes.
use Rattle.std.proofs.Common.{◌≡◌, ◌≢◌, ℕ, zero, suc, ◌+◌, ◌<◌, ◌≤◌, refl, sym, ap, List, [], ◌∷◌, ◌++◌, map, All, Bool, true, false, ◌&&◌, ◌||◌, not, nat_lt, nat_le, None, length, slice_index, sum_by, arith, inl, inr, subst}
use Rattle.std.proofs.lemmas.Bool.Decides.{nat_tests}
use Rattle.std.proofs.lemmas.Bool.{cases_lt}
use Rattle.std.proofs.lemmas.List.{get_or_past}
use Rattle.std.proofs.lemmas.List.Elements.{All-append, All-cons, All-nil}
use Rattle.std.proofs.lemmas.List.FromFn.{get_or-map-range_with_len, length-map-range_with_len}
use Rattle.std.proofs.lemmas.List.Sums.{sum_by-cons}
use Rattle.std.specs.List.{flat_map, list_any, range_with_len}
use Rattle.svga_cmd.specs.declared.fault.Fault.{Fault}
use Rattle.svga_model.specs.Standing.{least_standing}

-- the test of each rule is false
abbrev pub AreFalse : List (Bool × Fault) → Type 0
AreFalse [] = Unit {0}
AreFalse (rule ∷ rules) = (rule.0 ≡ false) × AreFalse rules

-- no rule refuses, so that each test is false
pub all_false : (rules : List (Bool × Fault)) → least_standing rules ≡ None → AreFalse rules
all_false [] e = tt
all_false ((true, f) ∷ rules) e = absurd cc
all_false ((false, f) ∷ rules) e = (refl, all_false rules e)

-- where no rule of two lists refuses, none of each does
pub parts_none : (xs ys : List (Bool × Fault)) → least_standing (xs ++ ys) ≡ None
    → (least_standing xs ≡ None) × (least_standing ys ≡ None)
parts_none [] ys e = (refl, e)
parts_none ((true, f) ∷ xs) ys e = absurd cc
parts_none ((false, f) ∷ xs) ys e = parts_none xs ys e

-- of two tests that aren't both true, the second is false where the first is true
pub other_false : (a b : Bool) → (a && b) ≡ false → a ≡ true → b ≡ false
other_false true b e is = e
other_false false b e is = absurd cc

-- neither of two tests
pub both_false : (a b : Bool) → (a || b) ≡ false → (a ≡ false) × (b ≡ false)
both_false true b e = absurd cc
both_false false b e = (refl, e)

-- both of two tests
pub both_true : (a b : Bool) → (a && b) ≡ true → (a ≡ true) × (b ≡ true)
both_true true b e = (refl, e)
both_true false b e = absurd cc

-- a test whose contrary is false
pub not_false : (b : Bool) → not b ≡ false → b ≡ true
not_false true e = refl
not_false false e = absurd cc

-- a number that another one isn't below
pub at_most : (a b : ℕ) → nat_lt b a ≡ false → a ≤ b
at_most a b e = grind (arith, nat_tests)

-- a number below another
pub under : (a b : ℕ) → nat_le b a ≡ false → a < b
under a b e = grind (arith, nat_tests)

-- tests that orders tell
pub not_over : (a b : ℕ) → a ≤ b → nat_lt b a ≡ false
not_over a b l = grind (arith, nat_tests)

pub is_at_most : (a b : ℕ) → a ≤ b → nat_le a b ≡ true
is_at_most a b l = grind (arith, nat_tests)

-- no number is the limit or more
pub all_under : (limit : ℕ) (numbers : List ℕ) → list_any (λ n. nat_le limit n) numbers ≡ false
    → All (λ n. n < limit) numbers
all_under limit [] e = All-nil (λ n. n < limit)
all_under limit (n ∷ numbers) e =
    let each = both_false (nat_le limit n) (list_any (λ n. nat_le limit n) numbers) e in
    All-cons (λ n. n < limit) n numbers (under n limit each.0) (all_under limit numbers each.1)

-- what holds of a function's values holds of the list of them
pub all_made : {X : Type 0} (P : X → Type 0) (f : ℕ → X) (n : ℕ) → ((k : ℕ) → k < n → P (f k))
    → All P (map f (range_with_len 0 n))
all_made P f n h = λ k d l. let within : k < n = omega (arith, l, length-map-range_with_len f 0 n) in
    subst P (sym (get_or-map-range_with_len f 0 n k k d within (omega arith))) (h k within)

-- what holds of all parts holds of the parts one behind another
pub all_flat : {X Y : Type 0} (P : Y → Type 0) (f : X → List Y) (xs : List X) → ((x : X) → All P (f x))
    → All P (flat_map f xs)
all_flat P f [] h = All-nil P
all_flat P f (x ∷ xs) h = All-append P (f x) (flat_map f xs) (h x) (all_flat P f xs h)

-- a number of a list, or 0 past its end, is under a limit that all are under
pub index_under : (limit : ℕ) (xs : List ℕ) (i : ℕ) → 0 < limit → All (λ n. n < limit) xs → slice_index xs i < limit
index_under limit xs i some all = elim (cases_lt i (length xs)) as (λ _. slice_index xs i < limit) [
  | inl within ↦ all i 0 within
  | inr past ↦ subst (λ n. n < limit) (sym (get_or_past xs i 0 past)) some
]

-- a sum of terms that stay
pub sum_same : (f g : ℕ → ℕ) (a n : ℕ) → ((q : ℕ) → a ≤ q → g q ≡ f q)
    → sum_by g (range_with_len a n) ≡ sum_by f (range_with_len a n)
sum_same f g a zero same = refl
sum_same f g a (suc n) same =
    let rest = sum_same f g (a + 1) n (λ q l. same q (omega arith)) in
    omega (
      arith,
      sum_by-cons f a (range_with_len (a + 1) n),
      sum_by-cons g a (range_with_len (a + 1) n),
      rest,
      same a
          (omega arith),
    )

-- a sum in which one term changes
pub sum_changed : (f g : ℕ → ℕ) (at a n : ℕ) → ((q : ℕ) → q ≢ at → g q ≡ f q) → a ≤ at → at < a + n
    → sum_by g (range_with_len a n) + f at ≡ sum_by f (range_with_len a n) + g at
sum_changed f g at a zero same low high = absurd (omega arith)
sum_changed f g at a (suc n) same low high = elim (cases_lt a at)
    as (λ _. sum_by g (range_with_len a (suc n)) + f at ≡ sum_by f (range_with_len a (suc n)) + g at) [
      | inl less ↦
          let rest = sum_changed f g at (a + 1) n same (omega arith) (omega arith) in
          omega (
            arith,
            sum_by-cons f a (range_with_len (a + 1) n),
            sum_by-cons g a (range_with_len (a + 1) n),
            rest,
            same a
                (λ e. absurd (omega arith)),
          )
      | inr here ↦
          let is : a ≡ at = omega arith in
          let rest = sum_same f g (a + 1) n (λ q l. same q (λ e. absurd (omega arith))) in
          omega (
            arith,
            sum_by-cons f a (range_with_len (a + 1) n),
            sum_by-cons g a (range_with_len (a + 1) n),
            rest,
            ap f is,
            ap g is,
          )
    ]

-- a sum of zeros
pub sum_nothing : (f : ℕ → ℕ) (a n : ℕ) → ((q : ℕ) → f q ≡ 0) → sum_by f (range_with_len a n) ≡ 0
sum_nothing f a zero none = refl
sum_nothing f a (suc n) none =
    omega (arith, sum_by-cons f a (range_with_len (a + 1) n), sum_nothing f (a + 1) n none, none a)
