-- The rows of pixels, after some are written too.
use Rattle.std.proofs.Common.{◌≡◌, ◌≢◌, ℕ, zero, suc, ◌+◌, ◌-◌, ◌*◌, ◌<◌, ◌≤◌, refl, sym, ap, subst, ◌∙◌, List, [], ◌∷◌, length, replicate, slice_index_or, slice_set, slice_range, slice_get, arith, ◌⊎◌, inl, inr, Bool, true, false, cond, nat_lt, get_or-set_same, get_or-set_other, Some, None}
use Rattle.std.proofs.Math.Nat.{mul-le-mul_left}
use Rattle.std.proofs.lemmas.Bool.Decides.{nat_tests}
use Rattle.std.proofs.lemmas.Bool.{cases_lt}
use Rattle.std.proofs.lemmas.Grind.{same_number_lists}
use Rattle.std.proofs.lemmas.List.Edits.{length-between, get_or-between}
use Rattle.std.proofs.lemmas.List.FromFn.{length-map-range_with_len, get_or-map-range_with_len}
use Rattle.std.proofs.lemmas.List.{same_lists, length-set, get_or-replicate, length-replicate}
use Rattle.svga_model.specs.Screens.{painted_row}
use Rattle.svga_rows.proofs.RowsLaws.{value_at, length-with_values}
use Rattle.svga_rows.specs.Rows.{with_values}
use Rattle.svga_screen.specs.Kept.{rows_from}

pub length-rows_from : (w h : ℕ) (px : List ℕ) → length (rows_from w h px) ≡ h
length-rows_from w h px = length-map-range_with_len (λ y. slice_range px (y * w) (y * w + w)) 0 h

pub get_or-rows_from : (w h : ℕ) (px : List ℕ) (r : ℕ) (d : List ℕ) → r < h → slice_index_or (rows_from w h px) r d ≡ slice_range px (r * w) (r * w + w)
get_or-rows_from w h px r d l = get_or-map-range_with_len (λ y. slice_range px (y * w) (y * w + w)) 0 h r r d l (omega arith)

-- two places are one or not
either : (i k : ℕ) → (i ≡ k) ⊎ (i ≢ k)
either i k = go (cases_lt i k) (cases_lt k i) where
  go : (i < k) ⊎ (k ≤ i) → (k < i) ⊎ (i ≤ k) → (i ≡ k) ⊎ (i ≢ k)
  go (inl a) b = inr (λ e. absurd (omega arith))
  go (inr a) (inl b) = inr (λ e. absurd (omega arith))
  go (inr a) (inr b) = inl (omega arith)

-- row r ends before row q begins
before_row : (w r q : ℕ) → r < q → r * w + w ≤ q * w
before_row w r q l = grind (arith, mul-le-mul_left)

-- row r ends within the pixels
pub inside_rows : (w h r : ℕ) → r < h → r * w + w ≤ w * h
inside_rows w h r l = grind (arith, mul-le-mul_left)

pub length-row : (w h : ℕ) (px : List ℕ) (r : ℕ) → length px ≡ w * h → r < h → length (slice_range px (r * w) (r * w + w)) ≡ w
length-row w h px r sized l = length-between px (r * w) (r * w + w) (omega (arith, inside_rows w h r l, sized)) ∙ (let e : (r * w + w) - r * w ≡ w = omega arith in e)

-- what a list has at a place within it, and that it has nothing past its end
slice_get-within : (xs : List (List ℕ)) (i : ℕ) (x : List ℕ) → i < length xs → slice_index_or xs i x ≡ x → slice_get xs i ≡ Some x
slice_get-within [] i x l e = absurd (omega arith)
slice_get-within (z ∷ zs) zero x l e = ap Some e
slice_get-within (z ∷ zs) (suc i) x l e = slice_get-within zs i x (omega arith) e

slice_get-past : (xs : List (List ℕ)) (i : ℕ) → length xs ≤ i → slice_get xs i ≡ None
slice_get-past [] i l = refl
slice_get-past (z ∷ zs) zero l = absurd (omega arith)
slice_get-past (z ∷ zs) (suc i) l = slice_get-past zs i (omega arith)

pub slice_get-rows_from : (w h : ℕ) (px : List ℕ) (y : ℕ) → y < h → slice_get (rows_from w h px) y ≡ Some (slice_range px (y * w) (y * w + w))
slice_get-rows_from w h px y l = slice_get-within (rows_from w h px) y (slice_range px (y * w) (y * w + w)) (omega (arith, length-rows_from w h px)) (get_or-rows_from w h px y (slice_range px (y * w) (y * w + w)) l)

pub slice_get-rows_from_past : (w h : ℕ) (px : List ℕ) (y : ℕ) → h ≤ y → slice_get (rows_from w h px) y ≡ None
slice_get-rows_from_past w h px y l = slice_get-past (rows_from w h px) y (omega (arith, length-rows_from w h px))

-- pixels of one colour make rows of it
pub rows_from-replicate : (w h c : ℕ) → rows_from w h (replicate (w * h) c) ≡ replicate h (replicate w c)
rows_from-replicate w h c = same_lists (rows_from w h (replicate (w * h) c)) (replicate h (replicate w c))
    (length-rows_from w h (replicate (w * h) c) ∙ sym (length-replicate h (replicate w c)))
    (λ r d l. let high : r < h = omega (arith, length-rows_from w h (replicate (w * h) c)) in
    get_or-rows_from w h (replicate (w * h) c) r d high ∙ plain r high ∙ sym (get_or-replicate h r (replicate w c) d high))
  where
    plain : (r : ℕ) → r < h → slice_range (replicate (w * h) c) (r * w) (r * w + w) ≡ replicate w c
    plain r high = same_number_lists (slice_range (replicate (w * h) c) (r * w) (r * w + w)) (replicate w c)
        (length-row w h (replicate (w * h) c) r (length-replicate (w * h) c) high ∙ sym (length-replicate w c))
        (λ j m. let short : j < w = omega (arith, length-row w h (replicate (w * h) c) r (length-replicate (w * h) c) high) in
        get_or-between (replicate (w * h) c) (r * w) (r * w + w) j 0 (omega arith)
        ∙ get_or-replicate (w * h) (r * w + j) c 0 (omega (arith, inside_rows w h r high))
        ∙ sym (get_or-replicate w j c 0 short))

module _ (w h : ℕ) (px : List ℕ) (x y : ℕ) (cs : List ℕ) (sized : length px ≡ w * h) (high : y < h) (fits : x + length cs ≤ w) where
  abbrev pub new : List ℕ
  new = with_values px (y * w + x) cs

  pub inside : y * w + x + length cs ≤ length px
  inside = omega (arith, inside_rows w h y high, sized)

  pub length-new : length new ≡ length px
  length-new = length-with_values px (y * w + x) cs inside

  -- a pixel before the written ones, or behind them
  outside : (k d : ℕ) → k < length px → (k < y * w + x) ⊎ (y * w + x + length cs ≤ k) → slice_index_or new k d ≡ slice_index_or px k d
  outside k d l (inl less) = value_at px (y * w + x) cs k d inside l true true (grind (arith, nat_tests)) (grind (arith, nat_tests))
  outside k d l (inr more) = value_at px (y * w + x) cs k d inside l false false (grind (arith, nat_tests)) (grind (arith, nat_tests))

  abbrev pub row : ℕ → List ℕ
  row r = slice_range px (r * w) (r * w + w)

  -- another row
  kept_row : (r : ℕ) → r < h → r ≢ y → slice_range new (r * w) (r * w + w) ≡ row r
  kept_row r l ne = same_number_lists (slice_range new (r * w) (r * w + w)) (row r)
      (length-row w h new r (length-new ∙ sized) l ∙ sym (length-row w h px r sized l))
      (λ j m. let short : j < w = omega (arith, length-row w h new r (length-new ∙ sized) l) in
      get_or-between new (r * w) (r * w + w) j 0 (omega arith)
      ∙ outside (r * w + j) 0 (omega (arith, inside_rows w h r l, sized)) (side j short (cases_lt r y))
      ∙ sym (get_or-between px (r * w) (r * w + w) j 0 (omega arith)))
    where
      side : (j : ℕ) → j < w → (r < y) ⊎ (y ≤ r) → (r * w + j < y * w + x) ⊎ (y * w + x + length cs ≤ r * w + j)
      side j s (inl less) = inl (omega (arith, before_row w r y less))
      side j s (inr more) = inr (let greater : y < r = omega arith in omega (arith, before_row w y r greater))

  -- the written row
  written_row : slice_range new (y * w) (y * w + w) ≡ painted_row (row y) x cs
  written_row = same_number_lists (slice_range new (y * w) (y * w + w)) (painted_row (row y) x cs)
      (length-row w h new y (length-new ∙ sized) high
      ∙ sym (length-row w h px y sized high) ∙ sym (length-with_values (row y) x cs (omega (arith, length-row w h px y sized high))))
      (λ j m. let short : j < w = omega (arith, length-row w h new y (length-new ∙ sized) high) in
      get_or-between new (y * w) (y * w + w) j 0 (omega arith) ∙ cell j short (nat_lt j x) (nat_lt j (x + length cs)) refl refl)
    where
      old : (j : ℕ) → j < w → slice_index_or (row y) j 0 ≡ slice_index_or px (y * w + j) 0
      old j s = get_or-between px (y * w) (y * w + w) j 0 (omega arith)

      cell : (j : ℕ) → j < w → (t u : Bool) → nat_lt j x ≡ t → nat_lt j (x + length cs) ≡ u → slice_index_or new (y * w + j) 0 ≡ slice_index_or (painted_row (row y) x cs) j 0
      cell j s t u e f = value_at px (y * w + x) cs (y * w + j) 0 inside (omega (arith, inside_rows w h y high, sized)) t u
          ((let g : nat_lt (y * w + j) (y * w + x) ≡ nat_lt j x = grind (arith, nat_tests) in g) ∙ e) ((let g : nat_lt (y * w + j) (y * w + x + length cs) ≡ nat_lt j (x + length cs) = grind (arith, nat_tests) in g) ∙ f)
          ∙ (λ i. cond t (sym (old j s) i) (cond u (slice_index_or cs ((let g : (y * w + j) - (y * w + x) ≡ j - x = omega arith in g) i) 0) (sym (old j s) i)))
          ∙ sym (value_at (row y) x cs j 0 (omega (arith, length-row w h px y sized high)) (omega (arith, length-row w h px y sized high)) t u e f)

  pub rows_from-with_values : rows_from w h new ≡ slice_set (rows_from w h px) y (painted_row (slice_index_or (rows_from w h px) y []) x cs)
  rows_from-with_values = same_lists (rows_from w h new) (slice_set (rows_from w h px) y painted)
      (length-rows_from w h new ∙ sym (length-rows_from w h px) ∙ sym (length-set (rows_from w h px) y painted))
      (λ r d l. let k : r < h = omega (arith, length-rows_from w h new) in get_or-rows_from w h new r d k ∙ at r d k)
    where
      painted : List ℕ
      painted = painted_row (slice_index_or (rows_from w h px) y []) x cs

      at : (r : ℕ) (d : List ℕ) → r < h → slice_range new (r * w) (r * w + w) ≡ slice_index_or (slice_set (rows_from w h px) y painted) r d
      at r d k = elim (either r y) as (λ _. slice_range new (r * w) (r * w + w) ≡ slice_index_or (slice_set (rows_from w h px) y painted) r d) [
        | inl e ↦ subst (λ q. slice_range new (q * w) (q * w + w) ≡ slice_index_or (slice_set (rows_from w h px) y painted) q d) (sym e)
            (written_row ∙ ap (λ xs. painted_row xs x cs) (sym (get_or-rows_from w h px y [] high)) ∙ sym (get_or-set_same (rows_from w h px) y painted d (omega (arith, length-rows_from w h px))))
        | inr ne ↦ kept_row r k ne ∙ sym (get_or-rows_from w h px r d k) ∙ sym (get_or-set_other (rows_from w h px) y r painted d ne)
      ]
