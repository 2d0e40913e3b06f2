-- The area of a screen that a blit paints, row by row.
use Rattle.std.proofs.Common.{◌≡◌, ◌≢◌, ℕ, ◌+◌, ◌*◌, ◌<◌, ◌≤◌, ◌⊎◌, inl, inr, refl, sym, ap, subst, ◌∙◌, List, length, slice_index, Option, Some, None, is_some, Bool, true, false, ◌&&◌, cond, ℤ, pos, ◌+ℤ◌, nat_lt, unsigned_abs, arith}
use Rattle.std.proofs.lemmas.Bool.{cond-true, not_from_false}
use Rattle.std.proofs.lemmas.Bool.Decides.{nat_tests}
use Rattle.std.proofs.lemmas.Int.{ints}
use Rattle.std.proofs.lemmas.List.FromFn.{length-map-range_with_len, get_or-map-range_with_len}
use Rattle.svga_cmd.specs.Pages.{Memory}
use Rattle.svga_cmd.specs.declared.blit.Blit.{Blit}
use Rattle.svga_cmd.specs.declared.gmrfb.Gmrfb.{Gmrfb}
use Rattle.svga_cmd.specs.declared.screen.ScreenDef.{ScreenDef}
use Rattle.svga_model.proofs.ActLaws.{none_is}
use Rattle.svga_model.proofs.PaintedPlaces.{IsAt, is_covered}
use Rattle.svga_model.proofs.PaintedTests.{both}
use Rattle.svga_model.specs.BlitEffects.{blit_colour, colour_at, repainted}
use Rattle.svga_model.specs.BlitFaults.{is_outside}
use Rattle.svga_model.specs.BlitPixels.{ScreenPixel, blit_offset, corner_x, corner_y, covers, is_in_rect, is_meant}
use Rattle.svga_model.specs.Colours.{pixel_length}
use Rattle.svga_model.specs.Members.{IsIn}
use Rattle.svga_model.specs.Regions.{Places}
use Rattle.svga_model.specs.Screens.{IsScreen, Screen, painted_screen}
use Rattle.svga_screen.specs.Clips.{is_inside}
use Rattle.svga_screen.specs.declared.area.Area.{Area}
use Rattle.svga_transfer.proofs.AreaLaws.{some_under}
use Rattle.svga_transfer.proofs.PaintRows.{painted_more, repainted_none, repainted_same}
use Rattle.svga_model.proofs.PixelSteps.{pixel_begins}
use Rattle.svga_transfer.proofs.Reached.{IsReached, byte_reached, row_there, row_within}
use Rattle.svga_transfer.specs.Areas.{IsPainted}
use Rattle.svga_transfer.specs.Painting.{above, colours_from}
use Rattle.svga_transfer.specs.Reach.{AreMapped, HasBytes, HasPages}

-- what stands under a test that only holds where there is nothing, and under one that fails only there
chosen_none : (t : Bool) (o : Option ℕ) → (t ≡ true → o ≡ None) → cond t o None ≡ None
chosen_none true o h = h refl
chosen_none false o h = refl

chosen_same : (t : Bool) (o : Option ℕ) → (t ≡ false → o ≡ None) → cond t o None ≡ o
chosen_same true o h = refl
chosen_same false o h = sym (h refl)

-- The area of a blit's pixels on a screen.
module _ (bytes : ℕ → ℕ) (g : Gmrfb) (b : Blit) (id : ℕ) (s : Screen) (a : Area) (is : IsScreen id s)
    (area : IsPainted (blit_colour bytes g b id s.def) s.def a) where
  abbrev colour : ℕ → ℕ → Option ℕ
  colour = blit_colour bytes g b id s.def

  -- the new colours of the rows above one
  abbrev done : ℕ → ℕ → ℕ → Option ℕ
  done y = above y (blit_colour bytes g b id) s.def

  abbrev X_of : ℕ → ℤ
  X_of u = corner_x b.screen s.def +ℤ pos u

  abbrev Y_of : ℕ → ℤ
  Y_of v = corner_y b.screen s.def +ℤ pos v

  abbrev source : ℕ → ℕ → ℕ
  source u v = colour_at bytes g.format (unsigned_abs (blit_offset g b (X_of u) (Y_of v)))

  -- outside the area no pixel gets a colour, and inside the blit shows each
  bare : (u v : ℕ) → u < s.def.width → v < s.def.height → is_inside a u v ≡ false → colour u v ≡ None
  bare u v wide high e =
      none_is (colour u v) (not_from_false (is_some (colour u v)) (sym (area.same u v wide high) ∙ e))

  shown : (u v : ℕ) → u < s.def.width → v < s.def.height → is_inside a u v ≡ true
      → (is_meant b.screen id && is_in_rect b.rect (X_of u) (Y_of v)) ≡ true
  shown u v wide high e =
      sym (some_under (is_meant b.screen id && is_in_rect b.rect (X_of u) (Y_of v)) (source u v))
      ∙ sym (area.same u v wide high) ∙ e

  above_area : (u v : ℕ) → nat_lt v a.top ≡ true → is_inside a u v ≡ false
  above_area u v e = grind (arith, nat_tests)

  below_area : (u v : ℕ) → nat_lt v (a.top + a.height) ≡ false → is_inside a u v ≡ false
  below_area u v e = grind (arith, nat_tests)

  beside_area : (u v : ℕ) → (u < a.left) ⊎ (a.left + a.width ≤ u) → is_inside a u v ≡ false
  beside_area u v (inl l) = grind (arith, nat_tests)
  beside_area u v (inr l) = grind (arith, nat_tests)

  in_area : (k v : ℕ) → k < a.width → a.top ≤ v → v < a.top + a.height → is_inside a (a.left + k) v ≡ true
  in_area k v l from to = grind (arith, nat_tests)

  -- at the top of the area nothing is done
  pub done_top : repainted (done a.top) s ≡ s
  done_top = repainted_none s id is (done a.top)
      (λ u v wide high. chosen_none (nat_lt v a.top) (colour u v) (λ t. bare u v wide high (above_area u v t)))

  -- and at its end all is
  pub done_end : repainted (done (a.top + a.height)) s ≡ repainted colour s
  done_end = repainted_same s (done (a.top + a.height)) colour
      (λ u v wide high. chosen_same (nat_lt v (a.top + a.height)) (colour u v)
      (λ t. bare u v wide high (below_area u v t)))

  -- a row of the area
  module _ (y : ℕ) (low : a.top ≤ y) (high : y < a.top + a.height) where
    in_screen : y < s.def.height
    in_screen = omega (arith, area.high)

    further : (k : ℕ) → X_of a.left +ℤ pos k ≡ X_of (a.left + k)
    further k = omega (arith, ints)

    module _ (from : ℕ) (first : pos from ≡ blit_offset g b (X_of a.left) (Y_of y)) where
      abbrev colours : List ℕ
      colours = colours_from bytes g.format from a.width

      abbrev read_colour : ℕ → ℕ
      read_colour k = colour_at bytes g.format (from + k * pixel_length g.format)

      starts : (k : ℕ) → unsigned_abs (blit_offset g b (X_of (a.left + k)) (Y_of y)) ≡ from + k * pixel_length g.format
      starts k =
          ap (λ X. unsigned_abs (blit_offset g b X (Y_of y))) (sym (further k))
          ∙ pixel_begins g b (X_of a.left) (Y_of y) from k first

      sized : length colours ≡ a.width
      sized = length-map-range_with_len read_colour 0 a.width

      other_rows : (u v : ℕ) → u < s.def.width → v < s.def.height → v ≢ y → done y u v ≡ done (y + 1) u v
      other_rows u v wide tall ne =
          let same : nat_lt v y ≡ nat_lt v (y + 1) = grind (arith, nat_tests) in
          ap (λ t. cond t (colour u v) None) same

      beside : (u : ℕ) → u < s.def.width → (u < a.left) ⊎ (a.left + length colours ≤ u)
          → done y u y ≡ done (y + 1) u y
      beside u wide out =
          let none = bare u y wide in_screen
          (beside_area u y (subst (λ n. (u < a.left) ⊎ (a.left + n ≤ u)) sized out)) in
          chosen_none (nat_lt y y) (colour u y) (λ t. none)
          ∙ sym (chosen_none (nat_lt y (y + 1)) (colour u y) (λ t. none))

      read : (k : ℕ) → k < length colours → done (y + 1) (a.left + k) y ≡ Some (slice_index colours k)
      read k l =
          let short : k < a.width = omega (arith, sized) in
          let now : nat_lt y (y + 1) ≡ true = grind (arith, nat_tests) in
          let wide : a.left + k < s.def.width = omega (arith, area.wide) in
          let test = is_meant b.screen id && is_in_rect b.rect (X_of (a.left + k)) (Y_of y) in
          ap (λ t. cond t (colour (a.left + k) y) None) now
          ∙ cond-true test (Some (source (a.left + k) y)) None
          (shown (a.left + k) y wide in_screen (in_area k y short low high))
          ∙ ap (λ i. Some (colour_at bytes g.format i)) (starts k)
          ∙ ap Some (sym (get_or-map-range_with_len read_colour 0 a.width k k 0 short (omega arith)))

      -- one row more is done
      pub done_more : painted_screen (repainted (done y) s) a.left y colours ≡ repainted (done (y + 1)) s
      done_more = painted_more s (done y) (done (y + 1)) a.left y colours in_screen
          (omega (arith, area.wide, sized)) other_rows beside read

    -- The bytes of the row, where the blit may be done.
    module _ (definitions : ℕ → Option ScreenDef) (defined : definitions id ≡ Some s.def) (small : id < 16)
        (places : Places) (mapped : AreMapped definitions g b places) where
      shown_there : (k : ℕ) → k < a.width
          → (is_meant b.screen id ≡ true) × (is_in_rect b.rect (X_of (a.left + k)) (Y_of y) ≡ true)
      shown_there k l =
          both (is_meant b.screen id) (is_in_rect b.rect (X_of (a.left + k)) (Y_of y))
          (shown (a.left + k) y (omega (arith, area.wide)) in_screen (in_area k y l low high))

      covered : (k : ℕ) → k < a.width
          → IsIn (record { screen = id; x = a.left + k; y = y })
          (covers definitions b.screen (X_of (a.left + k)) (Y_of y))
      covered k l =
          let q : ScreenPixel = record { screen = id; x = a.left + k; y = y } in
          let at : IsAt s.def b.screen (X_of (a.left + k)) (Y_of y) q = record {
            meant = (shown_there k l).0;
            x = refl;
            y = refl;
            in_width = omega (arith, area.wide);
            in_height = in_screen;
          } in
          is_covered definitions b.screen (X_of (a.left + k)) (Y_of y) q s.def small defined at

      -- each is one of the region's, on a mapped place
      each_reached : (k : ℕ) → k < a.width → (j : ℕ) → j < pixel_length g.format
          → IsReached places (blit_offset g b (X_of a.left +ℤ pos k) (Y_of y) +ℤ pos j)
      each_reached k l j below =
          subst (λ X. IsReached places (blit_offset g b X (Y_of y) +ℤ pos j)) (sym (further k))
          (byte_reached definitions g b places mapped (X_of (a.left + k)) (Y_of y)
          (record { screen = id; x = a.left + k; y = y }) (shown_there k l).1 (covered k l) j below)

      -- the first of them is one
      pub first_within : is_outside places (blit_offset g b (X_of a.left) (Y_of y)) ≡ false
      first_within = row_within g b places (X_of a.left) (Y_of y) a.width each_reached area.columns

      -- and each lies on a page that is there
      pub bytes_there : (m : Memory) (from : ℕ) → HasPages m places
          → pos from ≡ blit_offset g b (X_of a.left) (Y_of y)
          → HasBytes m places from (a.width * pixel_length g.format)
      bytes_there = row_there g b places (X_of a.left) (Y_of y) a.width each_reached
