-- Places on a screen, counted from its corner, and what of its columns is behind one column and before
-- another.
use Rattle.std.proofs.Common.{◌≡◌, ℕ, ◌-◌, ◌<◌, ◌≤◌, refl, ap, ◌∙◌, subst, ℤ, pos, ◌+ℤ◌, ◌≤ℤ◌, ◌<ℤ◌, FitsSigned, w32, w64, to_z, of_z, arith}
use Rattle.std.proofs.lemmas.Int.{by_lt_z, ints, to_z-of_z}
use Rattle.svga_transfer.proofs.WholeTests.{not_both}
use Rattle.svga_transfer.specs.Stretches.{HasNoColumn, IsSteps, IsStretch}
use Rattle.svga_transfer.specs.declared.runs.Site.{Site}

-- what is said of numbers as they are read from words is said of the numbers
pub same_steps : (start place : ℤ) (count n : ℕ) → FitsSigned w32 start → FitsSigned w64 place
    → IsSteps (to_z w32 (of_z w32 start)) count (to_z w64 (of_z w64 place)) n → IsSteps start count place n
same_steps start place count n fs fp s =
    subst (λ a. IsSteps a count place n) (to_z-of_z w32 start fs)
    (subst (λ p. IsSteps (to_z w32 (of_z w32 start)) count p n) (to_z-of_z w64 place fp) s)

pub same_place : (start place : ℤ) (n : ℕ) → FitsSigned w32 start → FitsSigned w64 place
    → place ≡ to_z w32 (of_z w32 start) +ℤ pos n → to_z w64 (of_z w64 place) ≡ start +ℤ pos n
same_place start place n fs fp e =
    to_z-of_z w64 place fp ∙ e ∙ ap (λ z. z +ℤ pos n) (to_z-of_z w32 start fs)

pub same_side : (side widened : ℤ) → FitsSigned w32 side → FitsSigned w64 widened
    → widened ≡ to_z w32 (of_z w32 side) → to_z w64 (of_z w64 widened) ≡ side
same_side side widened fs fw e = to_z-of_z w64 widened fw ∙ e ∙ to_z-of_z w32 side fs

-- how a place lies to the place that its steps lead to
module _ (start place : ℤ) (count n : ℕ) (s : IsSteps start count place n) where
  led_past : n < count → place ≤ℤ (start +ℤ pos n)
  led_past l = by_lt_z place start
      (λ low. omega (arith, ints))
      (λ high. by_lt_z (start +ℤ pos count) place
      (λ past. let e : n ≡ count = s.past (omega (arith, ints)) in absurd (omega (arith, e)))
      (λ between. let e : place ≡ start +ℤ pos n = s.between high between in omega (arith, ints, e)))

  led_before : 0 < n → (start +ℤ pos n) ≤ℤ place
  led_before l = by_lt_z place start
      (λ low. let e : n ≡ 0 = s.before (omega (arith, ints)) in absurd (omega (arith, e)))
      (λ high. by_lt_z (start +ℤ pos count) place
      (λ past. let e : n ≡ count = s.past (omega (arith, ints)) in omega (arith, ints, e))
      (λ between. let e : place ≡ start +ℤ pos n = s.between high between in omega (arith, ints, e)))

  -- and how another of the places does
  behind_steps : (X : ℤ) → start ≤ℤ X → X <ℤ (start +ℤ pos count) → place ≤ℤ X → (start +ℤ pos n) ≤ℤ X
  behind_steps X low high from = by_lt_z place start
      (λ before. let e : n ≡ 0 = s.before (omega (arith, ints)) in omega (arith, ints, e))
      (λ behind. let e : place ≡ start +ℤ pos n = s.between behind (omega (arith, ints)) in omega (arith, ints, e))

  before_steps : (X : ℤ) → start ≤ℤ X → X <ℤ (start +ℤ pos count) → X <ℤ place → X <ℤ (start +ℤ pos n)
  before_steps X low high to = by_lt_z (start +ℤ pos count) place
      (λ past. let e : n ≡ count = s.past (omega (arith, ints)) in omega (arith, ints, e))
      (λ between. let e : place ≡ start +ℤ pos n = s.between (omega (arith, ints)) between in omega (arith, ints, e))

-- a screen's columns from x to below `end`, by their first and their end among all of its columns
module _ (s : Site) (x end : ℤ) (left right : ℕ)
    (from : IsSteps s.x s.width x left) (to : IsSteps s.x s.width end right) where
  pub no_column : right ≤ left → HasNoColumn s x end
  no_column l = λ X low high. not_both s.x (s.x +ℤ pos s.width) X (λ on off.
      let a = behind_steps s.x x s.width left from X on off low in
      let b = before_steps s.x end s.width right to X on off high in omega (arith, ints, a, b))

  pub stretch : (id row : ℕ) (y place : ℤ) → left < right → IsSteps s.y s.height y row → s.y ≤ℤ y
      → y <ℤ (s.y +ℤ pos s.height) → place ≡ s.x +ℤ pos left
      → IsStretch s id x end y (record { from = place; length = right - left; screen = id; x = left; y = row })
  stretch id row y place l down above below at = record {
    screen = refl;
    some = omega arith;
    behind = omega (arith, ints, behind);
    before = omega (arith, ints, before);
    wide = omega (arith, to.within);
    high = omega (arith, ints, there);
    column = at;
    row = there;
    bare = λ X low high. not_both s.x (s.x +ℤ pos s.width) X (λ on off.
        let a = behind_steps s.x x s.width left from X on off low in omega (arith, ints, a, at));
  }
    where
      there : y ≡ s.y +ℤ pos row
      there = down.between above (omega (arith, ints, below))

      behind : x ≤ℤ (s.x +ℤ pos left)
      behind = led_past s.x x s.width left from (omega (arith, to.within))

      before : (s.x +ℤ pos right) ≤ℤ end
      before = led_before s.x end s.width right to (omega arith)
