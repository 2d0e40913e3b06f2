-- Ranges of numbers, and texts of their members one after another.
use Rattle.std.proofs.Common.{◌≡◌, ℕ, zero, suc, ◌+◌, ◌-◌, ◌<◌, List, [], ◌∷◌, ◌++◌, refl, sym, ap, subst, ◌∙◌, append-nil, arith, flat_map}
use Rattle.std.proofs.lemmas.Grind.{flat_map-append}
use Rattle.std.specs.List.{range_with_len}
use Rattle.std.specs.Prelude.{Option}
use Rattle.svga_io.proofs.Chains.{Grows-then, GrowsByPrefix-first, GrowsByPrefix-then}
use Rattle.svga_io.specs.Growing.{Grows, GrowsByPrefix}

range-suc : (a n : ℕ) → range_with_len a (suc n) ≡ range_with_len a n ++ (a + n) ∷ []
range-suc a zero = ap (λ m. m ∷ []) (let e : a ≡ a + 0 = omega arith in e)
range-suc a (suc n) = ap (λ t. a ∷ t)
    (range-suc (a + 1) n ∙ ap (λ m. range_with_len (a + 1) n ++ m ∷ [])
    (let e : (a + 1) + n ≡ a + suc n = omega arith in e))

-- one number more
pub range-next : (n : ℕ) → range_with_len 0 (n + 1) ≡ range_with_len 0 n ++ n ∷ []
range-next n = ap (range_with_len 0) (let e : n + 1 ≡ suc n = omega arith in e) ∙ range-suc 0 n
    ∙ ap (λ m. range_with_len 0 n ++ m ∷ []) (let e : 0 + n ≡ n = omega arith in e)

-- some numbers and then others
range-split : (a n m : ℕ) → range_with_len a (n + m) ≡ range_with_len a n ++ range_with_len (a + n) m
range-split a zero m = (λ i. range_with_len ((let e : a ≡ a + 0 = omega arith in e) i)
    ((let e : 0 + m ≡ m = omega arith in e) i))
range-split a (suc n) m = ap (range_with_len a) (let e : suc n + m ≡ suc (n + m) = omega arith in e)
    ∙ ap (λ t. a ∷ t) (range-split (a + 1) n m
    ∙ ap (λ b. range_with_len (a + 1) n ++ range_with_len b m) (let e : (a + 1) + n ≡ a + suc n = omega arith in e))

-- the text of one number more
pub text-next : (f : ℕ → List ℕ) (n : ℕ)
    → flat_map f (range_with_len 0 (n + 1)) ≡ flat_map f (range_with_len 0 n) ++ f n
text-next f n = ap (flat_map f) (range-next n) ∙ flat_map-append f (range_with_len 0 n) (n ∷ [])
    ∙ ap (λ t. flat_map f (range_with_len 0 n) ++ t) (append-nil (f n))

-- the texts of all numbers, from that of one on
text-whole : (f : ℕ → List ℕ) (n rest count : ℕ) → count ≡ (n + 1) + rest
    → flat_map f (range_with_len 0 count) ≡ (flat_map f (range_with_len 0 n) ++ f n)
    ++ flat_map f (range_with_len (0 + (n + 1)) rest)
text-whole f n rest count is = ap (λ c. flat_map f (range_with_len 0 c)) is
    ∙ ap (flat_map f) (range-split 0 (n + 1) rest)
    ∙ flat_map-append f (range_with_len 0 (n + 1)) (range_with_len (0 + (n + 1)) rest)
    ∙ ap (λ t. t ++ flat_map f (range_with_len (0 + (n + 1)) rest)) (text-next f n)

-- texts that agree on the numbers
pub text-same : (f h : ℕ → List ℕ) (a n : ℕ) → ((p : ℕ) → p < a + n → f p ≡ h p)
    → flat_map f (range_with_len a n) ≡ flat_map h (range_with_len a n)
text-same f h a zero same = refl
text-same f h a (suc n) same = (λ i. same a (omega arith) i ++ flat_map f (range_with_len (a + 1) n))
    ∙ ap (λ t. h a ++ t) (text-same f h (a + 1) n (λ p less. same p (omega (arith, less))))

module _ {K : Type 0} {held : K → Option (List ℕ)} {faults : K → ℕ} where
  -- one text more was written
  pub range_next : {before between now : K} (f : ℕ → List ℕ) (n : ℕ)
      → Grows held faults before between (flat_map f (range_with_len 0 n))
      → Grows held faults between now (f n) → Grows held faults before now (flat_map f (range_with_len 0 (n + 1)))
  range_next {before} {between} {now} f n so_far next =
      subst (Grows held faults before now) (sym (text-next f n)) (Grows-then so_far next)

  -- a text failed, so that only a prefix of all of them arrived
  pub range_fault : {before between now : K} (f : ℕ → List ℕ) (n count : ℕ) → n < count
      → Grows held faults before between (flat_map f (range_with_len 0 n))
      → GrowsByPrefix held faults between now (f n)
      → GrowsByPrefix held faults before now (flat_map f (range_with_len 0 count))
  range_fault {before} {between} {now} f n count less so_far fault =
      let rest = count - (n + 1) in
      subst (GrowsByPrefix held faults before now) (sym (text-whole f n rest count (omega (arith, less))))
      (GrowsByPrefix-first (flat_map f (range_with_len (0 + (n + 1)) rest)) (GrowsByPrefix-then so_far fault))
