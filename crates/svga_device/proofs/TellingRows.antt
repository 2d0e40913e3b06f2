-- An area of a screen that was painted is told row by row.
use Rattle.std.proofs.Common.{◌≡◌, ◌≢◌, ℕ, ◌+◌, ◌<◌, ◌≤◌, ◌⊎◌, inl, inr, refl, sym, ap, subst, ◌∙◌, List, [], length, map as map_list, slice_index, slice_index_or, slice_range, Option, Some, None, IsSome, is_some, unwrap_or, Bool, true, false, cond, nat_lt, arith}
use Rattle.std.proofs.lemmas.Bool.Decides.{nat_tests}
use Rattle.std.proofs.lemmas.Grind.{common_steps}
use Rattle.std.proofs.lemmas.List.FromFn.{length-map-range_with_len, get_or-map-range_with_len}
use Rattle.std.proofs.lemmas.Option.{unwrap_or-slice_get}
use Rattle.std.specs.Cmp.{nat_cmp_total as total}
use Rattle.std.specs.FinMap as map
use Rattle.std.specs.FinMap.{nat_cmp-IsAntisymmetric as exact}
use Rattle.std.specs.List.{range_with_len}
use Rattle.std.specs.Prelude.{option_and_then, option_map, slice_get}
use Rattle.svga_cmd.proofs.Maps.{get_same, insert_twice, is_insert}
use Rattle.svga_head.proofs.PictureLaws.{get-pictures_of, pictures_of-painted}
use Rattle.svga_head.specs.Changes.{IsOnPicture, painted_picture}
use Rattle.svga_model.specs.BlitEffects.{repainted}
use Rattle.svga_model.specs.Pictures.{pictures_of}
use Rattle.svga_model.specs.Screens.{IsOnScreen, Screen, Screens, definitions_of, painted, painted_over, painted_screen, row_at, row_of}
use Rattle.svga_screen.specs.Clips.{is_inside}
use Rattle.svga_screen.specs.declared.area.Area.{Area}
use Rattle.svga_transfer.proofs.PaintRows.{painted_more, repainted_none, repainted_same}
use Rattle.svga_device.specs.Telling.{IsRepaintedIn, part_of, rows_above, with_rows}

-- what stands under a test that only holds where there is nothing, and under one that fails only there
chosen_none : (t : Bool) (o : Option ℕ) → (t ≡ true → o ≡ None) → cond t o None ≡ None
chosen_none true o h = h refl
chosen_none false o h = refl

chosen_same : (t : Bool) (o : Option ℕ) → (t ≡ false → o ≡ None) → cond t o None ≡ o
chosen_same true o h = refl
chosen_same false o h = sym (h refl)

-- a colour that isn't there, and one that is
pub no_colour : (o : Option ℕ) → (is_some o ≡ true → ⊥) → o ≡ None
no_colour None h = refl
no_colour (Some c) h = absurd (h refl)

some_colour : (o : Option ℕ) (d : ℕ) → is_some o ≡ true → o ≡ Some (unwrap_or o d)
some_colour None d h = absurd (cc h)
some_colour (Some c) d h = refl

length-part : (row : List ℕ) (left width : ℕ) → left + width ≤ length row
    → length (slice_range row left (left + width)) ≡ width
length-part row left width fits = grind (arith, common_steps)

at-part : (row : List ℕ) (left width k : ℕ) → left + width ≤ length row → k < width
    → slice_index (slice_range row left (left + width)) k ≡ slice_index row (left + k)
at-part row left width k fits l = grind (arith, common_steps)

-- where colours lie on a picture there is one
pub picture_there : (o : Option (List (List ℕ))) (x y len : ℕ) → IsOnPicture o x y len → IsSome o
picture_there None x y len on = absurd on
picture_there (Some rows) x y len on = refl

module _ (a : Area) (before after : Screens) (t : IsRepaintedIn a before after) where
  abbrev s : Screen
  s = t.screen

  abbrev done : ℕ → Screen
  done y = repainted (rows_above y t.colour) s

  abbrev told : ℕ → Screens
  told y = with_rows y a before after t

  -- outside the area no pixel gets a colour, and inside each does
  bare : (u v : ℕ) → u < s.def.width → v < s.def.height → is_inside a u v ≡ false → t.colour u v ≡ None
  bare u v wide high e = no_colour (t.colour u v) (λ is. cc (t.painted.same u v wide high, e, is))

  above_area : (u v : ℕ) → nat_lt v a.top ≡ true → is_inside a u v ≡ false
  above_area u v e = grind (arith, nat_tests)

  below_area : (u v : ℕ) → nat_lt v (a.top + a.height) ≡ false → is_inside a u v ≡ false
  below_area u v e = grind (arith, nat_tests)

  beside_area : (u v : ℕ) → (u < a.left) ⊎ (a.left + a.width ≤ u) → is_inside a u v ≡ false
  beside_area u v (inl l) = grind (arith, nat_tests)
  beside_area u v (inr l) = grind (arith, nat_tests)

  in_area : (k v : ℕ) → k < a.width → a.top ≤ v → v < a.top + a.height → is_inside a (a.left + k) v ≡ true
  in_area k v l from to = grind (arith, nat_tests)

  -- at the top of the area nothing is told, and behind its last row all is
  done_top : done a.top ≡ s
  done_top = repainted_none s a.screen t.valid (rows_above a.top t.colour)
      (λ u v wide high. chosen_none (nat_lt v a.top) (t.colour u v) (λ e. bare u v wide high (above_area u v e)))

  done_end : done (a.top + a.height) ≡ repainted t.colour s
  done_end = repainted_same s (rows_above (a.top + a.height) t.colour) t.colour
      (λ u v wide high. chosen_same (nat_lt v (a.top + a.height)) (t.colour u v)
      (λ e. bare u v wide high (below_area u v e)))

  pub told_top : told a.top ≡ before
  told_top = sym (is_insert total exact before before a.screen (done a.top)
      (t.here ∙ ap Some (sym done_top)) (λ q ne. refl))

  pub told_end : told (a.top + a.height) ≡ map.insert before a.screen (repainted t.colour s)
  told_end = ap (map.insert before a.screen) done_end

  -- A row of the area, as it is now.
  module _ (y : ℕ) (low : a.top ≤ y) (high : y < a.top + a.height) where
    in_screen : y < s.def.height
    in_screen = omega (arith, t.painted.high)

    abbrev cell : ℕ → ℕ
    cell x = unwrap_or (t.colour x y) (slice_index (row_at s y) x)

    abbrev line : ℕ → List ℕ
    line v =
        map_list (λ x. unwrap_or (t.colour x v) (slice_index (row_at s v) x)) (range_with_len 0 s.def.width)

    abbrev colours : List ℕ
    colours = part_of after a y

    row_is : unwrap_or (row_of after a.screen y) [] ≡ line y
    row_is =
        ap (λ o. unwrap_or (option_and_then (λ r. slice_get r.rows y) o) []) t.there
        ∙ unwrap_or-slice_get (repainted t.colour s).rows y []
        ∙ get_or-map-range_with_len line 0 s.def.height y y [] in_screen (omega arith)

    wide_enough : a.left + a.width ≤ length (line y)
    wide_enough = omega (arith, t.painted.wide, length-map-range_with_len cell 0 s.def.width)

    part_is : colours ≡ slice_range (line y) a.left (a.left + a.width)
    part_is = ap (λ r. slice_range r a.left (a.left + a.width)) row_is

    pub length-colours : length colours ≡ a.width
    length-colours = ap length part_is ∙ length-part (line y) a.left a.width wide_enough

    colour_is : (k : ℕ) → k < a.width → t.colour (a.left + k) y ≡ Some (slice_index colours k)
    colour_is k short =
        let wide : a.left + k < s.def.width = omega (arith, t.painted.wide) in
        let there : is_some (t.colour (a.left + k) y) ≡ true =
        sym (t.painted.same (a.left + k) y wide in_screen) ∙ in_area k y short low high in
        some_colour (t.colour (a.left + k) y) (slice_index (row_at s y) (a.left + k)) there
        ∙ ap Some (sym (get_or-map-range_with_len cell 0 s.def.width (a.left + k) (a.left + k) 0 wide (omega arith)))
        ∙ ap Some (sym (at-part (line y) a.left a.width k wide_enough short))
        ∙ ap (λ cs. Some (slice_index cs k)) (sym part_is)

    other_rows : (u v : ℕ) → u < s.def.width → v < s.def.height → v ≢ y
        → rows_above y t.colour u v ≡ rows_above (y + 1) t.colour u v
    other_rows u v wide tall ne =
        let same : nat_lt v y ≡ nat_lt v (y + 1) = grind (arith, nat_tests) in
        ap (λ e. cond e (t.colour u v) None) same

    beside : (u : ℕ) → u < s.def.width → (u < a.left) ⊎ (a.left + length colours ≤ u)
        → rows_above y t.colour u y ≡ rows_above (y + 1) t.colour u y
    beside u wide out =
        let none = bare u y wide in_screen
        (beside_area u y (subst (λ n. (u < a.left) ⊎ (a.left + n ≤ u)) length-colours out)) in
        chosen_none (nat_lt y y) (t.colour u y) (λ e. none)
        ∙ sym (chosen_none (nat_lt y (y + 1)) (t.colour u y) (λ e. none))

    within : (k : ℕ) → k < length colours
        → rows_above (y + 1) t.colour (a.left + k) y ≡ Some (slice_index colours k)
    within k l =
        let short : k < a.width = omega (arith, length-colours) in
        let now : nat_lt y (y + 1) ≡ true = grind (arith, nat_tests) in
        ap (λ e. cond e (t.colour (a.left + k) y) None) now ∙ colour_is k short

    done_more : painted_screen (done y) a.left y colours ≡ done (y + 1)
    done_more = painted_more s (rows_above y t.colour) (rows_above (y + 1) t.colour) a.left y colours in_screen
        (omega (arith, t.painted.wide, length-colours)) other_rows beside within

    there_now : map.get (told y) a.screen ≡ Some (done y)
    there_now = get_same total exact before a.screen (done y)

    told_more : painted (told y) a.screen a.left y colours ≡ told (y + 1)
    told_more =
        ap (λ o. painted_over (told y) a.screen o a.left y colours) there_now
        ∙ insert_twice total exact before a.screen (done y) (painted_screen (done y) a.left y colours)
        ∙ ap (map.insert before a.screen) done_more

    -- one row more is told
    pub pictures_more : painted_picture a.screen a.left y colours (pictures_of (told y))
        ≡ pictures_of (told (y + 1))
    pictures_more = sym (pictures_of-painted (told y) a.screen a.left y colours) ∙ ap pictures_of told_more

    -- it lies on the screen, and on the picture as it is so far
    pub on_screen : IsOnScreen (definitions_of after a.screen) a.left y a.width
    on_screen = subst (λ o. IsOnScreen (option_map (λ r. r.def) o) a.left y a.width) (sym t.there)
        (record { high = in_screen; wide = t.painted.wide })

    pub on_picture : IsOnPicture (map.get (pictures_of (told y)) a.screen) a.left y a.width
    on_picture =
        subst (λ o. IsOnPicture o a.left y a.width)
        (sym (get-pictures_of (told y) a.screen ∙ ap (option_map (λ r. r.rows)) there_now))
        (record { high = tall; wide = broad })
      where
        old_cell : ℕ → ℕ → ℕ
        old_cell v x = unwrap_or (rows_above y t.colour x v) (slice_index (row_at s v) x)

        old_line : ℕ → List ℕ
        old_line v = map_list (old_cell v) (range_with_len 0 s.def.width)

        tall : y < length (done y).rows
        tall = omega (arith, in_screen, length-map-range_with_len old_line 0 s.def.height)

        broad : a.left + a.width ≤ length (slice_index_or (done y).rows y [])
        broad = subst (λ row. a.left + a.width ≤ length row)
            (sym (get_or-map-range_with_len old_line 0 s.def.height y y [] in_screen (omega arith)))
            (omega (arith, t.painted.wide, length-map-range_with_len (old_cell y) 0 s.def.width))
