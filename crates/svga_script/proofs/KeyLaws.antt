-- Letters before and behind the first `+`.
use Rattle.std.proofs.Common.{◌≡◌, ◌≢◌, ℕ, zero, suc, ◌+◌, ◌<◌, ◌≤◌, List, [], ◌∷◌, length, take, drop, slice_index, Bool, true, false, if◌then◌else◌, ◌==◌, refl, sym, ap, ◌∙◌, Some, None, arith}
use Rattle.std.proofs.lemmas.Bool.Decides.{nat_tests}
use Rattle.svga_cmd.specs.Pages.{number_in_kind}
use Rattle.svga_cmd.specs.declared.script_cause.ScriptCause.TheVariants.{Limit, Word as OtherWord}
use Rattle.svga_model.specs.ScriptLines.{ends_within, keys, unless}
use Rattle.svga_model.specs.ScriptWords.{are_keys, before_plus, behind_plus, plus}
use Rattle.svga_script.specs.Acts.{keys_read}
use Rattle.svga_script.specs.declared.key.Keys.{Keys}

-- the first `+` stands at this number, or the letters end there
pub record IsPlusAt (letters : List ℕ) (n : ℕ) : Type 0 where
  pub within : n ≤ length letters
  pub others : (k : ℕ) → k < n → slice_index letters k ≢ 43
  pub there : n < length letters → slice_index letters n ≡ 43

less : (letter : ℕ) (letters : List ℕ) (n : ℕ) → IsPlusAt (letter ∷ letters) (suc n) → IsPlusAt letters n
less letter letters n o = record {
  within = (let within = o.within in omega (arith, within));
  others = λ k low. o.others (suc k) (omega (arith, low));
  there = λ low. o.there (omega (arith, low));
}

other : (letter : ℕ) (letters : List ℕ) (n : ℕ) → IsPlusAt (letter ∷ letters) (suc n) → (letter == plus) ≡ false
other letter letters n o = let ne : letter ≢ 43 = o.others 0 (omega arith) in grind (arith, nat_tests, ne)

pub before_first : (letters : List ℕ) (n : ℕ) → IsPlusAt letters n → take n letters ≡ before_plus letters
before_first [] zero o = refl
before_first [] (suc n) o = refl
before_first (letter ∷ letters) zero o =
    let is : letter ≡ 43 = o.there (omega arith) in
    let test : (letter == plus) ≡ true = grind (arith, nat_tests) in
    sym (ap (λ b. if b then [] else letter ∷ before_plus letters) test)
before_first (letter ∷ letters) (suc n) o =
    ap (λ l. letter ∷ l) (before_first letters n (less letter letters n o))
    ∙ sym (ap (λ b. if b then [] else letter ∷ before_plus letters) (other letter letters n o))

-- what stands behind it, by whether it is there
pub behind_some : (letters : List ℕ) (n : ℕ) → IsPlusAt letters n → n < length letters → behind_plus letters ≡ Some (drop (n + 1) letters)
behind_some [] n o low = absurd (omega (arith, low))
behind_some (letter ∷ letters) zero o low =
    let is : letter ≡ 43 = o.there (omega arith) in
    let test : (letter == plus) ≡ true = grind (arith, nat_tests) in
    ap (λ b. if b then Some letters else behind_plus letters) test
behind_some (letter ∷ letters) (suc n) o low =
    ap (λ b. if b then Some letters else behind_plus letters) (other letter letters n o)
    ∙ behind_some letters n (less letter letters n o) (omega (arith, low))
    ∙ (let next : n + 1 ≡ suc n = omega arith in let next_more : suc n + 1 ≡ suc (suc n) = omega arith in ap (λ m. Some (drop m letters)) next ∙ sym (ap (λ m. Some (drop m (letter ∷ letters))) next_more))

pub behind_none : (letters : List ℕ) (n : ℕ) → IsPlusAt letters n → length letters ≤ n → behind_plus letters ≡ None
behind_none [] n o past = refl
behind_none (letter ∷ letters) zero o past = absurd (omega (arith, past))
behind_none (letter ∷ letters) (suc n) o past =
    ap (λ b. if b then Some letters else behind_plus letters) (other letter letters n o)
    ∙ behind_none letters n (less letter letters n o) (omega (arith, past))

-- what is read of letters, by their rules
pub keys_good : (letters : List ℕ) (k : Keys) (b : Bool) → Some k ≡ (if are_keys letters then Some (keys_read letters) else None)
    → b ≡ ends_within (number_in_kind k.first) k.count → b ≡ true → (keys letters ≡ None) × (k ≡ keys_read letters)
keys_good letters k b read ends good = go (are_keys letters) refl where
  go : (a : Bool) → are_keys letters ≡ a → (keys letters ≡ None) × (k ≡ keys_read letters)
  go false e = absurd (let f = read ∙ ap (λ x. if x then Some (keys_read letters) else None) e in cc f)
  go true e =
      let same : k ≡ keys_read letters = (let f = read ∙ ap (λ x. if x then Some (keys_read letters) else None) e in cc f) in
      let within : ends_within (number_in_kind (keys_read letters).first) (keys_read letters).count ≡ true = sym (ap (λ (l : Keys). ends_within (number_in_kind l.first) l.count) same) ∙ sym ends ∙ good in (
        ap (λ x. if x then unless (ends_within (number_in_kind (keys_read letters).first) (keys_read letters).count) Limit else Some OtherWord) e
            ∙ ap (λ x. unless x Limit) within,
        same,
      )

pub keys_over : (letters : List ℕ) (k : Keys) (b : Bool) → Some k ≡ (if are_keys letters then Some (keys_read letters) else None)
    → b ≡ ends_within (number_in_kind k.first) k.count → b ≡ false → keys letters ≡ Some Limit
keys_over letters k b read ends bad = go (are_keys letters) refl where
  go : (a : Bool) → are_keys letters ≡ a → keys letters ≡ Some Limit
  go false e = absurd (let f = read ∙ ap (λ x. if x then Some (keys_read letters) else None) e in cc f)
  go true e =
      let same : k ≡ keys_read letters = (let f = read ∙ ap (λ x. if x then Some (keys_read letters) else None) e in cc f) in
      let within : ends_within (number_in_kind (keys_read letters).first) (keys_read letters).count ≡ false = sym (ap (λ (l : Keys). ends_within (number_in_kind l.first) l.count) same) ∙ sym ends ∙ bad in
      ap (λ x. if x then unless (ends_within (number_in_kind (keys_read letters).first) (keys_read letters).count) Limit else Some OtherWord) e
      ∙ ap (λ x. unless x Limit) within
