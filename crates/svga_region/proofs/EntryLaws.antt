-- The page numbers that a remap names.
use Rattle.std.proofs.Common.{◌≡◌, ℕ, zero, suc, ◌+◌, ◌*◌, ◌<◌, ◌≤◌, refl, sym, ap, ◌∙◌, List, [], ◌∷◌, length, slice_index, arith, Bool, true, false, nat_le, ◌||◌}
use Rattle.std.proofs.lemmas.Bool.Decides.{nat_tests}
use Rattle.std.proofs.lemmas.List.FromFn.{get_or-map-range_with_len, length-map-range_with_len}
use Rattle.std.specs.List.{list_any}
use Rattle.svga_model.specs.Regions.{joined_words, joined_list}

-- no element passes the test, so the one at k doesn't
none_at : (p : ℕ → Bool) (xs : List ℕ) (k : ℕ) → list_any p xs ≡ false → k < length xs → p (slice_index xs k) ≡ false
none_at p [] k none l = absurd (omega arith)
none_at p (x ∷ xs) zero none l = first (p x) refl none where
  first : (b : Bool) → p x ≡ b → (p x || list_any p xs) ≡ false → p x ≡ false
  first true e none = absurd (cc (none, ap (λ b. b || list_any p xs) e))
  first false e none = e
none_at p (x ∷ xs) (suc k) none l = none_at p xs k (rest (p x) (list_any p xs) none) (omega arith) where
  rest : (b c : Bool) → (b || c) ≡ false → c ≡ false
  rest true c e = cc
  rest false c e = e

-- a number for each place
pub length-joined_list : (ws : List ℕ) (count : ℕ) → length (joined_list ws count) ≡ count
length-joined_list ws count = length-map-range_with_len (λ k. joined_words (slice_index ws (2 * k)) (slice_index ws (2 * k + 1))) 0 count

-- one of the numbers
pub get_or-joined_list : (ws : List ℕ) (count k : ℕ) → k < count → slice_index (joined_list ws count) k ≡ joined_words (slice_index ws (2 * k)) (slice_index ws (2 * k + 1))
get_or-joined_list ws count k l = get_or-map-range_with_len (λ k. joined_words (slice_index ws (2 * k)) (slice_index ws (2 * k + 1))) 0 count k k 0 l (omega arith)

-- a good number has no high word
pub low_word : (guest low high : ℕ) → guest ≤ 16384 → nat_le guest (joined_words low high) ≡ false → low ≡ joined_words low high
low_word guest low high small good = grind (arith, nat_tests)

-- a good list by its low words
pub good_low : (guest : ℕ) (ws : List ℕ) (count k : ℕ) → guest ≤ 16384 → k < count → list_any (λ n. nat_le guest n) (joined_list ws count) ≡ false → slice_index ws (2 * k) ≡ slice_index (joined_list ws count) k
good_low guest ws count k small l good = low_word guest (slice_index ws (2 * k)) (slice_index ws (2 * k + 1)) small
    (ap (λ n. nat_le guest n) (sym (get_or-joined_list ws count k l)) ∙ none_at (λ n. nat_le guest n) (joined_list ws count) k good (omega (arith, length-joined_list ws count)))
    ∙ sym (get_or-joined_list ws count k l)
