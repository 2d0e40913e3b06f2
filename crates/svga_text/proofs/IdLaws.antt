-- Texts of numbers, one after another.
use Rattle.std.proofs.Common.{◌≡◌, ◌+◌, ◌-◌, ◌<◌, ℕ, zero, suc, List, [], ◌∷◌, ◌++◌, arith, ap, append-nil, refl, ◌∙◌}
use Rattle.std.proofs.lemmas.Grind.{flat_map-append}
use Rattle.std.specs.List.{flat_map, range_with_len}

range-split : (a m n k : ℕ) → k ≡ m + n → range_with_len a k ≡ range_with_len a m ++ range_with_len (a + m) n
range-split a zero n k is = let same : k ≡ n = omega arith in let here : a ≡ a + 0 = omega arith in λ i.
    range_with_len (here i) (same i)
range-split a (suc m) n zero is = absurd (omega arith)
range-split a (suc m) n (suc k) is =
    let here : a + 1 + m ≡ a + suc m = omega arith in
    ap (λ t. a ∷ t) (range-split (a + 1) m n k (omega arith)
    ∙ ap (λ b. range_with_len (a + 1) m ++ range_with_len b n) here)

module _ (text : ℕ → List ℕ) where
  -- the texts of the numbers below n
  abbrev pub texts_below : ℕ → List ℕ
  texts_below n = flat_map text (range_with_len 0 n)

  -- one text more
  pub texts_below-more : (i : ℕ) → texts_below (i + 1) ≡ texts_below i ++ text i
  texts_below-more i = let here : 0 + i ≡ i = omega arith in
      ap (flat_map text) (range-split 0 i 1 (i + 1) refl) ∙ flat_map-append text (range_with_len 0 i) ((0 + i) ∷ [])
      ∙ ap (λ t. texts_below i ++ t) (append-nil (text (0 + i)) ∙ ap text here)

  -- one text more, and those behind it
  pub texts_below-split : (i n : ℕ) → i < n → texts_below n ≡ (texts_below i ++ text i) ++ flat_map text
      (range_with_len (0 + (i + 1)) (n - (i + 1)))
  texts_below-split i n less =
      ap (flat_map text) (range-split 0 (i + 1) (n - (i + 1)) n (omega arith))
      ∙ flat_map-append text (range_with_len 0 (i + 1)) (range_with_len (0 + (i + 1)) (n - (i + 1)))
      ∙ ap (λ t. t ++ flat_map text (range_with_len (0 + (i + 1)) (n - (i + 1)))) (texts_below-more i)
