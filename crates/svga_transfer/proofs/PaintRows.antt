-- A screen that gets its new colours row by row.
use Rattle.std.proofs.Common.{◌≡◌, ◌≢◌, ℕ, ◌+◌, ◌-◌, ◌<◌, ◌≤◌, ◌⊎◌, inl, inr, sym, ap, subst, ◌∙◌, List, [], ◌++◌, length, length-append, length-take, length-drop, map as map_list, take, drop, slice_index, slice_index_or, slice_set, get_or-set_same, get_or-set_other, Option, Some, None, unwrap_or, arith}
use Rattle.std.proofs.lemmas.Bool.{cases_eq, cases_lt}
use Rattle.std.proofs.lemmas.Grind.{common_steps}
use Rattle.std.proofs.lemmas.List.{length-set}
use Rattle.std.proofs.lemmas.List.FromFn.{fill_by_all, length-map-range_with_len, get_or-map-range_with_len}
use Rattle.std.specs.List.{range_with_len}
use Rattle.svga_model.specs.BlitEffects.{repainted}
use Rattle.svga_model.specs.Screens.{IsScreen, Screen, painted_row, painted_screen, row_at}
use Rattle.svga_transfer.proofs.ListLaws.{same_map}

-- the pixels of a row that is painted from left on
length-painted_row : (row : List ℕ) (left : ℕ) (colours : List ℕ) → left + length colours ≤ length row
    → length (painted_row row left colours) ≡ length row
length-painted_row row left colours fits =
    let behind = drop (left + length colours) row in
    omega (
      arith,
      length-append (take left row ++ colours) behind,
      length-append (take left row) colours,
      length-take left row,
      length-drop (left + length colours) row,
    )

before : (row : List ℕ) (left : ℕ) (colours : List ℕ) (k : ℕ) → left + length colours ≤ length row → k < left
    → slice_index (painted_row row left colours) k ≡ slice_index row k
before row left colours k fits l = grind (arith, common_steps)

inside : (row : List ℕ) (left : ℕ) (colours : List ℕ) (k : ℕ) → left + length colours ≤ length row
    → k < length colours → slice_index (painted_row row left colours) (left + k) ≡ slice_index colours k
inside row left colours k fits l = grind (arith, common_steps)

behind : (row : List ℕ) (left : ℕ) (colours : List ℕ) (k : ℕ) → left + length colours ≤ length row
    → left + length colours ≤ k → slice_index (painted_row row left colours) k ≡ slice_index row k
behind row left colours k fits l = grind (arith, common_steps)

-- The rows of a screen with new colours.
module _ (s : Screen) where
  abbrev pub Colours : Type 0
  Colours = ℕ → ℕ → Option ℕ

  abbrev new_cell : Colours → ℕ → ℕ → ℕ
  new_cell colour y x = unwrap_or (colour x y) (slice_index (row_at s y) x)

  abbrev new_row : Colours → ℕ → List ℕ
  new_row colour y = map_list (new_cell colour y) (range_with_len 0 s.def.width)

  length-new_row : (colour : Colours) (y : ℕ) → length (new_row colour y) ≡ s.def.width
  length-new_row colour y = length-map-range_with_len (new_cell colour y) 0 s.def.width

  cell_is : (colour : Colours) (y x : ℕ) → x < s.def.width
      → slice_index (new_row colour y) x ≡ new_cell colour y x
  cell_is colour y x l = get_or-map-range_with_len (new_cell colour y) 0 s.def.width x x 0 l (omega arith)

  length-repainted : (colour : Colours) → length (repainted colour s).rows ≡ s.def.height
  length-repainted colour = length-map-range_with_len (new_row colour) 0 s.def.height

  row_is : (colour : Colours) (y : ℕ) → y < s.def.height
      → slice_index_or (repainted colour s).rows y [] ≡ new_row colour y
  row_is colour y l = get_or-map-range_with_len (new_row colour) 0 s.def.height y y [] l (omega arith)

  -- the same colours for each pixel of a row, and of the screen
  same_row : (colour new : Colours) (y : ℕ) → ((x : ℕ) → x < s.def.width → colour x y ≡ new x y)
      → new_row colour y ≡ new_row new y
  same_row colour new y same = same_map (new_cell colour y) (new_cell new y) 0 s.def.width
      (λ x low high. ap (λ o. unwrap_or o (slice_index (row_at s y) x)) (same x (omega arith)))

  pub repainted_same : (colour new : Colours)
      → ((x y : ℕ) → x < s.def.width → y < s.def.height → colour x y ≡ new x y)
      → repainted colour s ≡ repainted new s
  repainted_same colour new same = λ i. record {
    def = s.def;
    rows = same_map (new_row colour) (new_row new) 0 s.def.height
        (λ y low high. same_row colour new y (λ x wide. same x y wide (omega arith))) i;
  }

  -- where no pixel has a new colour the screen stays
  pub repainted_none : (id : ℕ) → IsScreen id s → (colour : Colours)
      → ((x y : ℕ) → x < s.def.width → y < s.def.height → colour x y ≡ None) → repainted colour s ≡ s
  repainted_none id is colour none = λ i. record { def = s.def; rows = rows i } where
    row_stays : (y : ℕ) → y < s.def.height → row_at s y ≡ new_row colour y
    row_stays y high =
        fill_by_all (new_cell colour y) (row_at s y) s.def.width 0 (is.columns y [] (omega (arith, is.rows)))
        (λ x wide. sym (ap (λ o. unwrap_or o (slice_index (row_at s y) x)) (none x y wide high)))

    rows : (repainted colour s).rows ≡ s.rows
    rows = sym (fill_by_all (new_row colour) s.rows s.def.height [] is.rows row_stays)

  -- Where one row more is painted from `left` on, the screen has the new colours of that row too.
  module _ (colour new : Colours) (left y : ℕ) (colours : List ℕ) (high : y < s.def.height)
      (fits : left + length colours ≤ s.def.width)
      (others : (u v : ℕ) → u < s.def.width → v < s.def.height → v ≢ y → colour u v ≡ new u v)
      (outside : (u : ℕ) → u < s.def.width → (u < left) ⊎ (left + length colours ≤ u) → colour u y ≡ new u y)
      (within : (k : ℕ) → k < length colours → new (left + k) y ≡ Some (slice_index colours k)) where
    abbrev row : List ℕ
    row = painted_row (new_row colour y) left colours

    fits_row : left + length colours ≤ length (new_row colour y)
    fits_row = omega (arith, fits, length-new_row colour y)

    length-row : length row ≡ s.def.width
    length-row = length-painted_row (new_row colour y) left colours fits_row ∙ length-new_row colour y

    -- a pixel whose colour stays
    stays : (x : ℕ) → x < s.def.width → colour x y ≡ new x y
        → slice_index (new_row colour y) x ≡ new_cell new y x
    stays x l same = cell_is colour y x l ∙ ap (λ o. unwrap_or o (slice_index (row_at s y) x)) same

    -- and one that is painted
    changes : (k : ℕ) → k < length colours → slice_index row (left + k) ≡ new_cell new y (left + k)
    changes k l =
        inside (new_row colour y) left colours k fits_row l
        ∙ ap (λ o. unwrap_or o (slice_index (row_at s y) (left + k))) (sym (within k l))

    pixel : (x : ℕ) → x < s.def.width → slice_index row x ≡ new_cell new y x
    pixel x l = elim (cases_lt x left) as (λ _. slice_index row x ≡ new_cell new y x) [
      | inl less ↦ before (new_row colour y) left colours x fits_row less ∙ stays x l (outside x l (inl less))
      | inr from ↦ elim (cases_lt x (left + length colours)) as (λ _. slice_index row x ≡ new_cell new y x) [
        | inl short ↦ subst (λ u. slice_index row u ≡ new_cell new y u)
            (let e : left + (x - left) ≡ x = omega arith in e) (changes (x - left) (omega arith))
        | inr past ↦ behind (new_row colour y) left colours x fits_row past ∙ stays x l (outside x l (inr past))
      ]
    ]

    row_painted : row ≡ new_row new y
    row_painted = fill_by_all (new_cell new y) row s.def.width 0 length-row pixel

    abbrev old_rows : List (List ℕ)
    old_rows = (repainted colour s).rows

    abbrev painted_over : List ℕ
    painted_over = painted_row (slice_index_or old_rows y []) left colours

    rows_at : (r : ℕ) → r < s.def.height → slice_index_or (slice_set old_rows y painted_over) r [] ≡ new_row new r
    rows_at r l = elim (cases_eq r y)
        as (λ _. slice_index_or (slice_set old_rows y painted_over) r [] ≡ new_row new r) [
          | inl is ↦ subst (λ q. slice_index_or (slice_set old_rows y painted_over) q [] ≡ new_row new q) (sym is)
              (get_or-set_same old_rows y painted_over [] (omega (arith, high, length-repainted colour))
              ∙ ap (λ xs. painted_row xs left colours) (row_is colour y high) ∙ row_painted)
          | inr ne ↦ get_or-set_other old_rows y r painted_over [] ne ∙ row_is colour r l
              ∙ same_row colour new r (λ x wide. others x r wide l ne)
        ]

    pub painted_more : painted_screen (repainted colour s) left y colours ≡ repainted new s
    painted_more = λ i. record { def = s.def; rows = rows i } where
      rows : slice_set old_rows y painted_over ≡ (repainted new s).rows
      rows = fill_by_all (new_row new) (slice_set old_rows y painted_over) s.def.height []
          (length-set old_rows y painted_over ∙ length-repainted colour) rows_at
