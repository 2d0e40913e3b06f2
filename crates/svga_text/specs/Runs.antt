-- Runs of equal neighbours in a list.
use Rattle.std.specs.Prelude.{◌≢◌, ℕ, ◌+◌, suc, Bool, if◌then◌else◌, List, [], ◌∷◌, ◌++◌}

-- how often an item stands there, and the item
abbrev pub Run : Type 0 → Type 0
Run A = ℕ × A

module _ {A : Type 0} (same : A → A → Bool) where
  -- one item more in front: it lengthens the first run, or is one by itself
  abbrev pub in_front : A → List (Run A) → List (Run A)
  in_front x [] = (1, x) ∷ []
  in_front x ((count, y) ∷ rs) = if same x y then (suc count, x) ∷ rs else (1, x) ∷ (count, y) ∷ rs

  -- the largest runs of equal neighbours, in order
  abbrev pub largest_runs : List A → List (Run A)
  largest_runs [] = []
  largest_runs (x ∷ xs) = in_front x (largest_runs xs)

-- the texts of runs, each by the place at which it begins; the first of them begins at this one
abbrev pub runs_text : {A : Type 0} → (ℕ → Run A → List ℕ) → ℕ → List (Run A) → List ℕ
runs_text text place [] = []
runs_text text place (r ∷ rs) = text place r ++ runs_text text (place + r.0) rs

-- neighbouring runs are of different items
abbrev pub AreApart : {A : Type 0} → List (Run A) → Type 0
AreApart [] = Unit {0}
AreApart (r ∷ []) = Unit {0}
AreApart (r ∷ s ∷ rs) = (r.1 ≢ s.1) × AreApart (s ∷ rs)
