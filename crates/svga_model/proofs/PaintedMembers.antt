-- What stands in lists that are made of other lists, and in a range of whole numbers.
use Rattle.std.proofs.Common.{◌≡◌, ℕ, zero, suc, ◌+◌, ◌<◌, ◌≤◌, ◌⊎◌, inl, inr, refl, sym, ap, ◌∙◌, subst, List, [], ◌∷◌, ◌++◌, map, flat_map, filter_map, Option, Some, None, true, ℤ, pos, negsuc, ◌+ℤ◌, int_lt, int_le, arith}
use Rattle.std.proofs.lemmas.Bool.{cases_lt}
use Rattle.std.proofs.lemmas.Int.{ints}
use Rattle.std.specs.Int.{int_gap}
use Rattle.std.specs.List.{cons_option, range_with_len}
use Rattle.svga_model.specs.BlitPixels.{int_range}
use Rattle.svga_model.specs.Members.{IsIn}

-- what stands in a list that may have one more in front
in_cons_option : {X : Type 0} (o : Option X) (xs : List X) (x : X) → IsIn x (cons_option o xs)
    → (o ≡ Some x) ⊎ IsIn x xs
in_cons_option None xs x h = inr h
in_cons_option (Some y) xs x (inl e) = inl (ap Some e)
in_cons_option (Some y) xs x (inr h) = inr h

-- and that one, and the rest, stand in it
cons_option_first : {X : Type 0} (o : Option X) (xs : List X) (x : X) → o ≡ Some x → IsIn x (cons_option o xs)
cons_option_first o xs x e = subst (λ r. IsIn x (cons_option r xs)) (sym e) (inl refl)

cons_option_rest : {X : Type 0} (o : Option X) (xs : List X) (x : X) → IsIn x xs → IsIn x (cons_option o xs)
cons_option_rest None xs x h = h
cons_option_rest (Some y) xs x h = inr h

-- what f gives of the items is given of one of them
pub in_filter_map : {X Y : Type 0} (f : X → Option Y) (xs : List X) (y : Y) → IsIn y (filter_map f xs)
    → (x : X) × IsIn x xs × (f x ≡ Some y)
in_filter_map f [] y h = absurd h
in_filter_map f (x ∷ xs) y h = elim (in_cons_option (f x) (filter_map f xs) y h) [
  | inl e ↦ (x, inl refl, e)
  | inr more ↦ let r = in_filter_map f xs y more in (r.0, inr r.1, r.2)
]

-- and what f gives of an item is there
pub filter_map_has : {X Y : Type 0} (f : X → Option Y) (xs : List X) (x : X) (y : Y) → IsIn x xs → f x ≡ Some y
    → IsIn y (filter_map f xs)
filter_map_has f [] x y h e = absurd h
filter_map_has f (z ∷ xs) x y (inl same) e = cons_option_first (f z) (filter_map f xs) y (ap f same ∙ e)
filter_map_has f (z ∷ xs) x y (inr h) e = cons_option_rest (f z) (filter_map f xs) y (filter_map_has f xs x y h e)

-- what stands in two lists one behind the other
in_append : {X : Type 0} (xs ys : List X) (x : X) → IsIn x (xs ++ ys) → IsIn x xs ⊎ IsIn x ys
in_append [] ys x h = inr h
in_append (z ∷ xs) ys x (inl e) = inl (inl e)
in_append (z ∷ xs) ys x (inr h) = elim (in_append xs ys x h) [ inl a ↦ inl (inr a) | inr b ↦ inr b ]

-- what stands in the front, and what stands behind it, stands in both
append_left : {X : Type 0} (xs ys : List X) (x : X) → IsIn x xs → IsIn x (xs ++ ys)
append_left [] ys x h = absurd h
append_left (z ∷ xs) ys x (inl e) = inl e
append_left (z ∷ xs) ys x (inr h) = inr (append_left xs ys x h)

append_right : {X : Type 0} (xs ys : List X) (x : X) → IsIn x ys → IsIn x (xs ++ ys)
append_right [] ys x h = h
append_right (z ∷ xs) ys x h = inr (append_right xs ys x h)

-- what stands in the lists of the items stands in the list of one of them
pub in_flat_map : {X Y : Type 0} (f : X → List Y) (xs : List X) (y : Y) → IsIn y (flat_map f xs)
    → (x : X) × IsIn x xs × IsIn y (f x)
in_flat_map f [] y h = absurd h
in_flat_map f (x ∷ xs) y h = elim (in_append (f x) (flat_map f xs) y h) [
  | inl here ↦ (x, inl refl, here)
  | inr more ↦ let r = in_flat_map f xs y more in (r.0, inr r.1, r.2)
]

-- and what stands in the list of an item is there
pub flat_map_has : {X Y : Type 0} (f : X → List Y) (xs : List X) (x : X) (y : Y) → IsIn x xs → IsIn y (f x)
    → IsIn y (flat_map f xs)
flat_map_has f [] x y h there = absurd h
flat_map_has f (z ∷ xs) x y (inl same) there =
    append_left (f z) (flat_map f xs) y (subst (λ w. IsIn y (f w)) (sym same) there)
flat_map_has f (z ∷ xs) x y (inr h) there = append_right (f z) (flat_map f xs) y (flat_map_has f xs x y h there)

-- what f makes of the items it makes of one of them, and what it makes of an item is there
in_map : {X Y : Type 0} (f : X → Y) (xs : List X) (y : Y) → IsIn y (map f xs) → (x : X) × IsIn x xs × (f x ≡ y)
in_map f [] y h = absurd h
in_map f (x ∷ xs) y (inl e) = (x, inl refl, e)
in_map f (x ∷ xs) y (inr h) = let r = in_map f xs y h in (r.0, inr r.1, r.2)

map_has : {X Y : Type 0} (f : X → Y) (xs : List X) (x : X) → IsIn x xs → IsIn (f x) (map f xs)
map_has f [] x h = absurd h
map_has f (z ∷ xs) x (inl same) = inl (ap f same)
map_has f (z ∷ xs) x (inr h) = inr (map_has f xs x h)

-- the numbers from one on
pub in_range : (from count n : ℕ) → IsIn n (range_with_len from count) → (from ≤ n) × (n < from + count)
in_range from zero n h = absurd h
in_range from (suc count) n (inl e) = (omega arith, omega arith)
in_range from (suc count) n (inr h) = let r = in_range (from + 1) count n h in (omega arith, omega arith)

pub range_has : (from count n : ℕ) → from ≤ n → n < from + count → IsIn n (range_with_len from count)
range_has from zero n low high = absurd (omega arith)
range_has from (suc count) n low high = elim (cases_lt from n) [
  | inl less ↦ inr (range_has (from + 1) count n (omega arith) (omega arith))
  | inr past ↦ inl (omega arith)
]

-- a number of steps up from a whole number, that don't reach another
steps_below : (from to : ℤ) (k : ℕ) → k < int_gap from to
    → (int_le from (from +ℤ pos k) ≡ true) × (int_lt (from +ℤ pos k) to ≡ true)
steps_below (pos a) (pos b) k l = (grind (arith, ints), grind (arith, ints))
steps_below (pos a) (negsuc b) k l = absurd (omega arith)
steps_below (negsuc a) (pos b) k l = (grind (arith, ints), grind (arith, ints))
steps_below (negsuc a) (negsuc b) k l = (grind (arith, ints), grind (arith, ints))

-- the steps up to a whole number lead there
gap_reaches : (from to : ℤ) → int_le from to ≡ true → from +ℤ pos (int_gap from to) ≡ to
gap_reaches (pos a) (pos b) l = grind (arith, ints)
gap_reaches (pos a) (negsuc b) l = grind (arith, ints)
gap_reaches (negsuc a) (pos b) l = grind (arith, ints)
gap_reaches (negsuc a) (negsuc b) l = grind (arith, ints)

-- and they are fewer than those to a higher one
gap_below : (from to X : ℤ) → int_le from X ≡ true → int_lt X to ≡ true → int_gap from X < int_gap from to
gap_below (pos a) (pos b) (pos x) low high = grind (arith, ints)
gap_below (pos a) (pos b) (negsuc x) low high = grind (arith, ints)
gap_below (pos a) (negsuc b) (pos x) low high = grind (arith, ints)
gap_below (pos a) (negsuc b) (negsuc x) low high = grind (arith, ints)
gap_below (negsuc a) (pos b) (pos x) low high = grind (arith, ints)
gap_below (negsuc a) (pos b) (negsuc x) low high = grind (arith, ints)
gap_below (negsuc a) (negsuc b) (pos x) low high = grind (arith, ints)
gap_below (negsuc a) (negsuc b) (negsuc x) low high = grind (arith, ints)

-- the whole numbers of a range are those from one up to below the other
pub in_int_range : (from to X : ℤ) → IsIn X (int_range from to) → (int_le from X ≡ true) × (int_lt X to ≡ true)
in_int_range from to X h =
    let r = in_map (λ k. from +ℤ pos k) (range_with_len 0 (int_gap from to)) X h in
    let s = in_range 0 (int_gap from to) r.0 r.1 in
    subst (λ Z. (int_le from Z ≡ true) × (int_lt Z to ≡ true)) r.2 (steps_below from to r.0 (omega arith))

pub int_range_has : (from to X : ℤ) → int_le from X ≡ true → int_lt X to ≡ true → IsIn X (int_range from to)
int_range_has from to X low high =
    let below = gap_below from to X low high in
    let there = range_has 0 (int_gap from to) (int_gap from X) (omega arith) (omega arith) in
    let up : ℕ → ℤ = λ k. from +ℤ pos k in
    let reached = map_has up (range_with_len 0 (int_gap from to)) (int_gap from X) there in
    subst (λ Z. IsIn Z (int_range from to)) (gap_reaches from X low) reached
