-- Lists that are made along ranges of whole numbers, part by part.
use Rattle.std.proofs.Common.{◌≡◌, ℕ, zero, suc, ◌+◌, ◌<◌, inl, inr, refl, ap, ◌∙◌, List, [], ◌∷◌, ◌++◌, map, flat_map, append-nil, ℤ, pos, negsuc, ◌+ℤ◌, ◌≤ℤ◌, ◌<ℤ◌, arith}
use Rattle.std.proofs.lemmas.Grind.{flat_map-append}
use Rattle.std.proofs.lemmas.Int.{ints}
use Rattle.std.proofs.lemmas.List.{map-append}
use Rattle.std.specs.Int.{int_gap}
use Rattle.std.specs.List.{range_with_len}
use Rattle.svga_model.proofs.PaintedMembers.{in_int_range}
use Rattle.svga_model.specs.BlitPixels.{int_range}
use Rattle.svga_model.specs.Members.{IsIn}
use Rattle.svga_transfer.proofs.ListLaws.{range_split}
use Rattle.svga_transfer.proofs.WholeTests.{is_at_most, is_below}

-- so many steps up lead there
gap_reaches : (from to : ℤ) → from ≤ℤ to → from +ℤ pos (int_gap from to) ≡ to
gap_reaches (pos a) (pos b) low = omega (arith, ints)
gap_reaches (pos a) (negsuc b) low = absurd (omega (arith, ints))
gap_reaches (negsuc a) (pos b) low = omega (arith, ints)
gap_reaches (negsuc a) (negsuc b) low = omega (arith, ints)

-- and no other number of steps does
steps_to : (from to : ℤ) (n : ℕ) → from +ℤ pos n ≡ to → int_gap from to ≡ n
steps_to (pos a) (pos b) n e = omega (arith, ints)
steps_to (pos a) (negsuc b) n e = absurd (omega (arith, ints))
steps_to (negsuc a) (pos b) n e = omega (arith, ints)
steps_to (negsuc a) (negsuc b) n e = omega (arith, ints)

pub gap_steps : (from : ℤ) (n : ℕ) → int_gap from (from +ℤ pos n) ≡ n
gap_steps from n = steps_to from (from +ℤ pos n) n refl

-- as far as to a number between two, and on from there, is as far as from one to the other
gap_sum : (from mid to : ℤ) → from ≤ℤ mid → mid ≤ℤ to → int_gap from to ≡ int_gap from mid + int_gap mid to
gap_sum from mid to low high =
    let first = gap_reaches from mid low in
    let second = gap_reaches mid to high in
    steps_to from to (int_gap from mid + int_gap mid to) (omega (arith, ints))

-- so from a number further up it is less far
pub gap_less : (from next to : ℤ) → from <ℤ next → next ≤ℤ to → int_gap next to < int_gap from to
gap_less from next to low high =
    let up : from ≤ℤ next = omega (arith, ints) in
    let first = gap_reaches from next up in
    let some : 0 < int_gap from next = omega (arith, ints) in
    omega (arith, gap_sum from next to up high)

-- the same places, counted from two numbers
shifted : (X Z : ℤ) (a b n : ℕ) → X +ℤ pos a ≡ Z +ℤ pos b
    → map (λ k. X +ℤ pos k) (range_with_len a n) ≡ map (λ k. Z +ℤ pos k) (range_with_len b n)
shifted X Z a b zero e = refl
shifted X Z a b (suc n) e =
    let next : X +ℤ pos (a + 1) ≡ Z +ℤ pos (b + 1) = omega (arith, ints) in
    let rest = shifted X Z (a + 1) (b + 1) n next in
    λ i. e i ∷ rest i

-- a range of whole numbers is that up to one between, and that from there on
int_range_split : (from mid to : ℤ) → from ≤ℤ mid → mid ≤ℤ to
    → int_range from to ≡ int_range from mid ++ int_range mid to
int_range_split from mid to low high =
    let n = int_gap from mid in
    let m = int_gap mid to in
    let up : ℕ → ℤ = λ k. from +ℤ pos k in
    let reached = gap_reaches from mid low in
    let begins : from +ℤ pos (0 + n) ≡ mid +ℤ pos 0 = omega (arith, ints) in
    ap (λ count. map up (range_with_len 0 count)) (gap_sum from mid to low high) ∙ ap (map up) (range_split 0 n m)
    ∙ map-append up (range_with_len 0 n) (range_with_len (0 + n) m)
    ∙ ap (λ ys. int_range from mid ++ ys) (shifted from mid (0 + n) 0 m begins)

module _ {X : Type 0} (f : ℤ → List X) where
  -- what is made up to a number between, and from there on
  pub made_split : (from mid to : ℤ) → from ≤ℤ mid → mid ≤ℤ to
      → flat_map f (int_range from to) ≡ flat_map f (int_range from mid) ++ flat_map f (int_range mid to)
  made_split from mid to low high = ap (flat_map f) (int_range_split from mid to low high)
      ∙ flat_map-append f (int_range from mid) (int_range mid to)

  made_of_none : (xs : List ℤ) → ((x : ℤ) → IsIn x xs → f x ≡ []) → flat_map f xs ≡ []
  made_of_none [] none = refl
  made_of_none (x ∷ xs) none =
      (λ i. none x (inl refl) i ++ flat_map f xs) ∙ made_of_none xs (λ y there. none y (inr there))

  -- nothing is made where no number makes anything
  pub made_none : (from to : ℤ) → ((x : ℤ) → from ≤ℤ x → x <ℤ to → f x ≡ []) → flat_map f (int_range from to) ≡ []
  made_none from to none = made_of_none (int_range from to)
      (λ x there. let sides = in_int_range from to x there in
      none x (is_at_most from x sides.0) (is_below x to sides.1))

  -- what one number makes
  pub made_one : (from : ℤ) → flat_map f (int_range from (from +ℤ pos 1)) ≡ f from
  made_one from =
      let here : from +ℤ pos 0 ≡ from = omega (arith, ints) in
      ap (λ n. flat_map f (map (λ k. from +ℤ pos k) (range_with_len 0 n))) (gap_steps from 1)
      ∙ append-nil (f (from +ℤ pos 0)) ∙ ap f here
