-- Numbers of 64 bits in a list of words.
use Rattle.std.proofs.Common.{◌≡◌, ℕ, zero, suc, ◌+◌, ◌*◌, ◌<◌, List, [], ◌∷◌, length, slice_index, refl, sym, ◌∙◌, arith}
use Rattle.svga_text.specs.CommandLines.{wide, wide_numbers}

-- half as many numbers as words
pub length-wide_numbers : (words : List ℕ) (n : ℕ) → length words ≡ 2 * n → length (wide_numbers words) ≡ n
length-wide_numbers [] n is = omega arith
length-wide_numbers (low ∷ []) n is = absurd (omega arith)
length-wide_numbers (low ∷ high ∷ rest) zero is = absurd (omega arith)
length-wide_numbers (low ∷ high ∷ rest) (suc n) is = let shorter : length rest ≡ 2 * n = omega arith in omega (arith, length-wide_numbers rest n shorter)

-- a number's high word is one of the words
pub within : (words : List ℕ) (i : ℕ) → i < length (wide_numbers words) → 2 * i + 1 < length words
within [] i less = absurd (omega arith)
within (low ∷ []) i less = absurd (omega arith)
within (low ∷ high ∷ rest) zero less = omega arith
within (low ∷ high ∷ rest) (suc i) less = let inner : 2 * i + 1 < length rest = within rest i (omega arith) in omega arith

pub wide_numbers_at : (words : List ℕ) (i : ℕ) → i < length (wide_numbers words) → slice_index (wide_numbers words) i ≡ wide (slice_index words (2 * i)) (slice_index words (2 * i + 1))
wide_numbers_at [] i less = absurd (omega arith)
wide_numbers_at (low ∷ []) i less = absurd (omega arith)
wide_numbers_at (low ∷ high ∷ rest) zero less = refl
wide_numbers_at (low ∷ high ∷ rest) (suc i) less =
    let inner = wide_numbers_at rest i (omega arith) in
    let even : 2 * suc i ≡ suc (suc (2 * i)) = omega arith in
    let odd : 2 * suc i + 1 ≡ suc (suc (2 * i + 1)) = omega arith in
    inner ∙ (λ t. wide (slice_index (low ∷ high ∷ rest) (sym even t)) (slice_index (low ∷ high ∷ rest) (sym odd t)))
