-- Words in bytes.
use Rattle.std.proofs.Common.{◌≡◌, ℕ, zero, suc, ◌+◌, ◌*◌, ◌/◌, ◌<◌, List, [], ◌∷◌, length, slice_index, take, drop, sym, ap, ◌∙◌, arith}
use Rattle.std.proofs.lemmas.Grind.{common_steps, same_number_lists}
use Rattle.byteorder.specs.Endian.{little_number, IsRead}
use Rattle.svga.specs.Bytes.{words_in}

-- a word for each four bytes
pub length-words_in : (bytes : List ℕ) → length (words_in bytes) ≡ length bytes / 4
length-words_in [] = omega arith
length-words_in (a ∷ []) = omega arith
length-words_in (a ∷ b ∷ []) = omega arith
length-words_in (a ∷ b ∷ c ∷ []) = omega arith
length-words_in (a ∷ b ∷ c ∷ d ∷ rest) = omega (arith, length-words_in rest)

-- a word is the number in its four bytes
pub words_in_at : (bytes : List ℕ) (k : ℕ) → k < length (words_in bytes) → slice_index (words_in bytes) k ≡ little_number 4 (drop (4 * k) bytes)
words_in_at [] k less = absurd (omega arith)
words_in_at (a ∷ []) k less = absurd (omega arith)
words_in_at (a ∷ b ∷ []) k less = absurd (omega arith)
words_in_at (a ∷ b ∷ c ∷ []) k less = absurd (omega arith)
words_in_at (a ∷ b ∷ c ∷ d ∷ rest) zero less = omega arith
words_in_at (a ∷ b ∷ c ∷ d ∷ rest) (suc k) less =
    let four : 4 * suc k ≡ suc (suc (suc (suc (4 * k)))) = omega arith in
    words_in_at rest k (omega arith) ∙ ap (λ n. little_number 4 (drop n (a ∷ b ∷ c ∷ d ∷ rest))) (sym four)

-- a number of four bytes doesn't depend on what stands behind them
front_number : (bytes : List ℕ) (n k : ℕ) → 4 * k + 3 < n → little_number 4 (drop (4 * k) (take n bytes)) ≡ little_number 4 (drop (4 * k) bytes)
front_number bytes n k less = λ t. cell 0 (omega arith) t + 256 * (cell 1 (omega arith) t + 256 * (cell 2 (omega arith) t + 256 * (cell 3 (omega arith) t + 256 * 0))) where
  cell : (i : ℕ) → i < 4 → slice_index (drop (4 * k) (take n bytes)) i ≡ slice_index (drop (4 * k) bytes) i
  cell i small = grind (arith, common_steps)

-- numbers that were read from the front of the bytes are their words
pub read_words_in : (bytes words : List ℕ) → length words ≡ length bytes / 4 → IsRead little_number 4 (take (4 * (length bytes / 4)) bytes) words → words ≡ words_in bytes
read_words_in bytes words count read = same_number_lists words (words_in bytes) (omega (arith, length-words_in bytes))
    (λ k less. read k less ∙ front_number bytes (4 * (length bytes / 4)) k (omega arith) ∙ sym (words_in_at bytes k (omega (arith, length-words_in bytes))))
