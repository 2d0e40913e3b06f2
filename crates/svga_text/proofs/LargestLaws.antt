-- What holds of the largest runs of equal neighbours, where a test tells which items are equal.
use Rattle.std.proofs.Common.{◌≡◌, ◌<◌, ℕ, zero, suc, Bool, true, false, List, [], ◌∷◌, All, arith, refl, sym, ap, subst, ◌∙◌, replicate}
use Rattle.std.specs.List.{flat_map}
use Rattle.std.specs.Prelude.{if◌then◌else◌}
use Rattle.svga_text.specs.Runs.{AreApart, Run, in_front, largest_runs}

-- the test is true exactly of equal items
pub record TellsEqual {A : Type 0} (same : A → A → Bool) : Type 0 where
  pub equal : (x y : A) → same x y ≡ true → x ≡ y
  pub same_if : (x y : A) → x ≡ y → same x y ≡ true

module _ {A : Type 0} (same : A → A → Bool) (tells : TellsEqual same) where
  abbrev items : List (Run A) → List A
  items = flat_map (λ (r : Run A). replicate r.0 r.1)

  abbrev AreSome : List (Run A) → Type 0
  AreSome = All (λ (r : Run A). 0 < r.0)

  -- one item more in front, by the test with the next
  abbrev joined : A → ℕ → A → List (Run A) → Bool → List (Run A)
  joined x count y rs b = if b then (suc count, x) ∷ rs else (1, x) ∷ (count, y) ∷ rs

  items-in_front : (x : A) (rs : List (Run A)) → items (in_front same x rs) ≡ x ∷ items rs
  items-in_front x [] = refl
  items-in_front x ((count, y) ∷ rs) = by (same x y) (tells.equal x y)
    where
      by : (b : Bool) → (b ≡ true → x ≡ y) → items (joined x count y rs b) ≡ x ∷ items ((count, y) ∷ rs)
      by true is = ap (λ z. x ∷ items ((count, z) ∷ rs)) (is refl)
      by false is = refl

  pub whole : (xs : List A) → items (largest_runs same xs) ≡ xs
  whole [] = refl
  whole (x ∷ xs) = items-in_front x (largest_runs same xs) ∙ ap (λ t. x ∷ t) (whole xs)

  some-cons : (r : Run A) (rs : List (Run A)) → 0 < r.0 → AreSome rs → AreSome (r ∷ rs)
  some-cons r rs first some zero d less = first
  some-cons r rs first some (suc k) d less = some k d (omega arith)

  some-rest : (r : Run A) (rs : List (Run A)) → AreSome (r ∷ rs) → AreSome rs
  some-rest r rs some k d less = some (suc k) d (omega arith)

  some-in_front : (x : A) (rs : List (Run A)) → AreSome rs → AreSome (in_front same x rs)
  some-in_front x [] some = some-cons (1, x) [] (omega arith) some
  some-in_front x ((count, y) ∷ rs) some = by (same x y)
    where
      by : (b : Bool) → AreSome (joined x count y rs b)
      by true = some-cons (suc count, x) rs (omega arith) (some-rest (count, y) rs some)
      by false = some-cons (1, x) ((count, y) ∷ rs) (omega arith) some

  pub some : (xs : List A) → AreSome (largest_runs same xs)
  some [] = λ k d less. absurd (omega arith)
  some (x ∷ xs) = some-in_front x (largest_runs same xs) (some xs)

  apart-same : (c n : ℕ) (y : A) (rs : List (Run A)) → AreApart ((c, y) ∷ rs) → AreApart ((n, y) ∷ rs)
  apart-same c n y [] apart = tt
  apart-same c n y (r ∷ rs) apart = apart

  apart-in_front : (x : A) (rs : List (Run A)) → AreApart rs → AreApart (in_front same x rs)
  apart-in_front x [] apart = tt
  apart-in_front x ((count, y) ∷ rs) apart = by (same x y) (tells.equal x y) (tells.same_if x y)
    where
      by : (b : Bool) → (b ≡ true → x ≡ y) → (x ≡ y → b ≡ true) → AreApart (joined x count y rs b)
      by true is equal = subst (λ z. AreApart ((suc count, z) ∷ rs)) (sym (is refl))
          (apart-same count (suc count) y rs apart)
      by false is equal = ((λ e. let t : false ≡ true = equal e in absurd (cc)), apart)

  pub apart : (xs : List A) → AreApart (largest_runs same xs)
  apart [] = tt
  apart (x ∷ xs) = apart-in_front x (largest_runs same xs) (apart xs)
