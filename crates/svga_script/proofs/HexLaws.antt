-- Pairs of hexadecimal digits, and their bytes.
use Rattle.std.proofs.Common.{◌≡◌, ℕ, zero, suc, ◌+◌, ◌*◌, ◌<◌, ◌≤◌, ◌%◌, List, [], ◌∷◌, ◌++◌, length, drop, slice_index, slice_index_or, Bool, true, false, nat_eq, ◌==◌, ◌&&◌, if◌then◌else◌, Some, None, refl, sym, ap, ◌∙◌, arith, append-nil}
use Rattle.std.proofs.lemmas.Bool.Decides.{nat_tests}
use Rattle.std.proofs.lemmas.List.{drop_more}
use Rattle.std.specs.List.{list_all}
use Rattle.svga_model.specs.ScriptWords.{are_pairs, hex_in, hex_value, is_hex_byte, is_hex_digit}

both : (a b : Bool) → (a && b) ≡ true → (a ≡ true) × (b ≡ true)
both true b e = (refl, e)
both false b e = absurd (cc e)

no_more : (a : Bool) → (a && false) ≡ false
no_more true = refl
no_more false = refl

-- each of them is a digit
pub digit_at : (letters : List ℕ) (k : ℕ) → are_pairs letters ≡ true → k < length letters → is_hex_digit (slice_index letters k) ≡ true
digit_at [] k good low = absurd (omega (arith, low))
digit_at (high ∷ []) k good low = absurd (cc good)
digit_at (high ∷ other ∷ letters) zero good low = (both (is_hex_digit high) (is_hex_digit other) (both (is_hex_digit high && is_hex_digit other) (are_pairs letters) good).0).0
digit_at (high ∷ other ∷ letters) (suc zero) good low = (both (is_hex_digit high) (is_hex_digit other) (both (is_hex_digit high && is_hex_digit other) (are_pairs letters) good).0).1
digit_at (high ∷ other ∷ letters) (suc (suc k)) good low = digit_at letters k (both (is_hex_digit high && is_hex_digit other) (are_pairs letters) good).1 (omega (arith, low))

-- a letter that is no digit
pub no_pairs : (letters : List ℕ) (k : ℕ) → k < length letters → is_hex_digit (slice_index letters k) ≡ false → are_pairs letters ≡ false
no_pairs letters k low bad = go (are_pairs letters) refl where
  go : (b : Bool) → are_pairs letters ≡ b → b ≡ false
  go false e = refl
  go true e = absurd (let is = digit_at letters k e low in cc (is, bad))

-- digits are pairs where their number is even
pub pairs_by_length : (letters : List ℕ) → list_all is_hex_digit letters ≡ true → nat_eq (length letters % 2) 0 ≡ are_pairs letters
pairs_by_length [] all = refl
pairs_by_length (high ∷ []) all = refl
pairs_by_length (high ∷ other ∷ letters) all =
    let first = both (is_hex_digit high) (is_hex_digit other && list_all is_hex_digit letters) all in
    let second = both (is_hex_digit other) (list_all is_hex_digit letters) first.1 in
    let less : suc (suc (length letters)) % 2 ≡ length letters % 2 = omega arith in
    ap (λ n. nat_eq n 0) less ∙ pairs_by_length letters second.1
    ∙ sym (ap (λ a. (a && is_hex_digit other) && are_pairs letters) first.0 ∙ ap (λ a. a && are_pairs letters) second.0)

-- the byte of two digits, and those behind
pub bytes_more : (letters : List ℕ) (i : ℕ) → 2 * i + 1 < length letters
    → hex_in (drop (2 * i) letters) ≡ (16 * hex_value (slice_index letters (2 * i)) + hex_value (slice_index letters (2 * i + 1))) ∷ hex_in (drop (2 * (i + 1)) letters)
bytes_more letters i low =
    let first : drop (2 * i) letters ≡ slice_index letters (2 * i) ∷ drop (2 * i + 1) letters = drop_more letters (2 * i) 0 (omega (arith, low)) in
    let second : drop (2 * i + 1) letters ≡ slice_index letters (2 * i + 1) ∷ drop (2 * i + 1 + 1) letters = drop_more letters (2 * i + 1) 0 low in
    let next : 2 * i + 1 + 1 ≡ 2 * (i + 1) = omega arith in
    ap hex_in (first ∙ ap (λ l. slice_index letters (2 * i) ∷ l) (second ∙ ap (λ n. slice_index letters (2 * i + 1) ∷ drop n letters) next))

pub bytes_done : (bytes letters : List ℕ) → length letters ≤ 1 → bytes ++ hex_in letters ≡ bytes
bytes_done bytes [] few = append-nil bytes
bytes_done bytes (high ∷ []) few = append-nil bytes
bytes_done bytes (high ∷ other ∷ letters) few = absurd (omega (arith, few))

-- three letters and more are no byte
pub no_byte : (letters : List ℕ) → 3 ≤ length letters → None ≡ (if is_hex_byte letters then Some (slice_index_or (hex_in letters) 0 0) else None)
no_byte letters long =
    let test : (length letters == 2) ≡ false = grind (arith, nat_tests, long) in
    let none : is_hex_byte letters ≡ false = ap (λ b. are_pairs letters && b) test ∙ no_more (are_pairs letters) in
    sym (ap (λ b. if b then Some (slice_index_or (hex_in letters) 0 0) else None) none)
