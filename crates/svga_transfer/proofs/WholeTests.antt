-- Tests of whole numbers, and what they say.
use Rattle.std.proofs.Common.{◌≡◌, true, false, ◌&&◌, ℤ, ◌≤ℤ◌, ◌<ℤ◌, int_le, int_lt, arith}
use Rattle.std.proofs.lemmas.Int.{by_lt_z, ints}

-- what a test says that was passed, or that was not
pub is_below : (a b : ℤ) → int_lt a b ≡ true → a <ℤ b
is_below a b e = grind (arith, ints)

pub not_below : (a b : ℤ) → int_lt a b ≡ false → b ≤ℤ a
not_below a b e = grind (arith, ints)

pub is_at_most : (a b : ℤ) → int_le a b ≡ true → a ≤ℤ b
is_at_most a b e = grind (arith, ints)

-- and which tests numbers pass
below : (a b : ℤ) → a <ℤ b → int_lt a b ≡ true
below a b h = grind (arith, ints)

at_most : (a b : ℤ) → a ≤ℤ b → int_le a b ≡ true
at_most a b h = grind (arith, ints)

-- a number that doesn't lie between two others
pub not_both : (low high X : ℤ) → (low ≤ℤ X → X <ℤ high → ⊥) → (int_le low X && int_lt X high) ≡ false
not_both low high X h = by_lt_z X low
    (λ before. grind (arith, ints))
    (λ behind. by_lt_z X high (λ inside. absurd (h behind inside)) (λ past. grind (arith, ints)))

-- a place between two columns and two rows
pub all_sides : (left right top bottom X Y : ℤ) → left ≤ℤ X → X <ℤ right → top ≤ℤ Y → Y <ℤ bottom
    → (int_le left X && int_lt X right && int_le top Y && int_lt Y bottom) ≡ true
all_sides left right top bottom X Y l r t b =
    λ i. at_most left X l i && below X right r i && at_most top Y t i && below Y bottom b i
