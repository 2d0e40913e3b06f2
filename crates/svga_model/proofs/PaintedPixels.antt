-- A blit's pixels, and the pixels of screens that it paints.
use Rattle.std.proofs.Common.{◌≡◌, ℕ, ◌<◌, refl, sym, ap, ◌∙◌, subst, List, [], ◌∷◌, flat_map, filter_map, Option, Some, None, true, ◌&&◌, cond, ℤ, pos, ◌+ℤ◌, int_lt, int_le, unsigned_abs}
use Rattle.svga_cmd.specs.declared.blit.Blit.{Blit}
use Rattle.svga_cmd.specs.declared.gmrfb.Gmrfb.{Gmrfb}
use Rattle.svga_cmd.specs.declared.screen.ScreenDef.{ScreenDef}
use Rattle.svga_model.proofs.PaintedMembers.{filter_map_has, flat_map_has, in_filter_map, in_flat_map, in_int_range, int_range_has}
use Rattle.svga_model.proofs.PaintedPlaces.{IsAt, covered_pixel, is_covered}
use Rattle.svga_model.proofs.PaintedTests.{all_four, both, chosen}
use Rattle.svga_model.specs.BlitEffects.{blit_colour, colour_at}
use Rattle.svga_model.specs.BlitPixels.{BlitPixel, ScreenPixel, blit_offset, blit_pixels, corner_x, corner_y, covers, int_range, is_in_rect, is_meant, pixel_there}
use Rattle.svga_model.specs.Members.{IsIn}

-- where a place covers some pixel there is a pixel of the blit
there : (ss : List ScreenPixel) (p q : BlitPixel) → pixel_there ss p ≡ Some q
    → (first : ScreenPixel) × (others : List ScreenPixel) × (ss ≡ first ∷ others) × (p ≡ q)
there [] p q e = absurd (cc)
there (s ∷ ss) p q e = (s, ss, refl, cc)

there_has : (ss : List ScreenPixel) (s : ScreenPixel) (p : BlitPixel) → IsIn s ss → pixel_there ss p ≡ Some p
there_has [] s p h = absurd h
there_has (r ∷ ss) s p h = refl

-- p is a pixel of the blit, where each place covers these pixels of screens
pub record IsPixel (cover : ℤ → ℤ → List ScreenPixel) (g : Gmrfb) (b : Blit) (p : BlitPixel) : Type 0 where
  pub first : ScreenPixel
  pub others : List ScreenPixel
  pub covered : cover p.x p.y ≡ first ∷ others
  pub in_rect : is_in_rect b.rect p.x p.y ≡ true
  pub offset : p.offset ≡ blit_offset g b p.x p.y

-- the pixels of a blit, for places that cover any pixels
module _ (cover : ℤ → ℤ → List ScreenPixel) (g : Gmrfb) (b : Blit) where
  abbrev pixel_at : ℤ → ℤ → BlitPixel
  pixel_at X Y = record { x = X; y = Y; offset = blit_offset g b X Y }

  abbrev optional : ℤ → ℤ → Option BlitPixel
  optional Y X = pixel_there (cover X Y) (pixel_at X Y)

  abbrev row : ℤ → List BlitPixel
  row Y = filter_map (optional Y) (int_range b.rect.left b.rect.right)

  abbrev pixels : List BlitPixel
  pixels = flat_map row (int_range b.rect.top b.rect.bottom)

  in_pixels : (p : BlitPixel) → IsIn p pixels → IsPixel cover g b p
  in_pixels p h =
      let down = in_flat_map row (int_range b.rect.top b.rect.bottom) p h in
      let across = in_filter_map (optional down.0) (int_range b.rect.left b.rect.right) p down.2 in
      let it = there (cover across.0 down.0) (pixel_at across.0 down.0) p across.2 in
      let x = in_int_range b.rect.left b.rect.right across.0 across.1 in
      let y = in_int_range b.rect.top b.rect.bottom down.0 down.1 in
      let inside : is_in_rect b.rect across.0 down.0 ≡ true = λ i. x.0 i && x.1 i && y.0 i && y.1 i in
      subst (IsPixel cover g b) it.3 (record {
        first = it.0;
        others = it.1;
        covered = it.2;
        in_rect = inside;
        offset = refl;
      })

  pixels_has : (X Y : ℤ) (s : ScreenPixel) → is_in_rect b.rect X Y ≡ true → IsIn s (cover X Y)
      → IsIn (pixel_at X Y) pixels
  pixels_has X Y s inside covered =
      let r = b.rect in
      let sides = all_four (int_le r.left X) (int_lt X r.right) (int_le r.top Y) (int_lt Y r.bottom) inside in
      let x = int_range_has b.rect.left b.rect.right X sides.0 sides.1 in
      let y = int_range_has b.rect.top b.rect.bottom Y sides.2 sides.3 in
      let there = there_has (cover X Y) s (pixel_at X Y) covered in
      let in_row = filter_map_has (optional Y) (int_range b.rect.left b.rect.right) X (pixel_at X Y) x there in
      flat_map_has row (int_range b.rect.top b.rect.bottom) Y (pixel_at X Y) y in_row

same_some : {X : Type 0} (o : Option X) (a b : X) → o ≡ Some a → o ≡ Some b → a ≡ b
same_some o a b e f = cc

module _ (definitions : ℕ → Option ScreenDef) where
  -- each pixel of a blit lies in its rectangle and covers some pixel of a screen
  pub blit_pixel_is : (g : Gmrfb) (b : Blit) (p : BlitPixel) → IsIn p (blit_pixels definitions g b)
      → IsPixel (covers definitions b.screen) g b p
  blit_pixel_is = λ g b. in_pixels (covers definitions b.screen) g b

  -- and where a place of the rectangle covers one there is a pixel of the blit
  pub blit_pixel_has : (g : Gmrfb) (b : Blit) (X Y : ℤ) (s : ScreenPixel) → is_in_rect b.rect X Y ≡ true
      → IsIn s (covers definitions b.screen X Y)
      → IsIn (record { x = X; y = Y; offset = blit_offset g b X Y }) (blit_pixels definitions g b)
  blit_pixel_has g b = pixels_has (covers definitions b.screen) g b

  module _ (bytes : ℕ → ℕ) (g : Gmrfb) (b : Blit) where
    -- the colour that a blit takes for place (X, Y), and the one that it gives to a pixel of a screen there
    abbrev source_colour : ℤ → ℕ
    source_colour offset = colour_at bytes g.format (unsigned_abs offset)

    abbrev given : ℕ → ℤ → ℤ → Option ℕ
    given id X Y =
        cond (is_meant b.screen id && is_in_rect b.rect X Y) (Some (source_colour (blit_offset g b X Y))) None

    -- a pixel of a screen that some pixel of the blit covers has the colour of that pixel's bytes
    pub painted : (p : BlitPixel) (q : ScreenPixel) (d : ScreenDef) → IsIn p (blit_pixels definitions g b)
        → IsIn q (covers definitions b.screen p.x p.y) → definitions q.screen ≡ Some d
        → blit_colour bytes g b q.screen d q.x q.y ≡ Some (source_colour p.offset)
    painted p q d pixel covered is =
        let it = blit_pixel_is g b p pixel in
        let on = covered_pixel definitions b.screen p.x p.y q covered in
        let same = same_some (definitions q.screen) on.0 d on.1 is in
        let at = subst (λ e. IsAt e b.screen p.x p.y q) same on.2 in
        (λ i. given q.screen (at.x i) (at.y i))
        ∙ (λ i. cond (at.meant i && it.in_rect i) (Some (source_colour (blit_offset g b p.x p.y))) None)
        ∙ ap (λ o. Some (source_colour o)) (sym it.offset)

    -- a pixel of a screen that has a new colour is covered by some pixel of the blit
    pub covered_by_pixel : (q : ScreenPixel) (d : ScreenDef) (colour : ℕ) → q.screen < 16
        → definitions q.screen ≡ Some d → q.x < d.width → q.y < d.height
        → blit_colour bytes g b q.screen d q.x q.y ≡ Some colour
        → (p : BlitPixel) × IsIn p (blit_pixels definitions g b) × IsIn q (covers definitions b.screen p.x p.y)
    covered_by_pixel q d colour low is width height new =
        let X = corner_x b.screen d +ℤ pos q.x in
        let Y = corner_y b.screen d +ℤ pos q.y in
        let meant = is_meant b.screen q.screen in
        let inside = is_in_rect b.rect X Y in
        let tests = both meant inside (chosen (meant && inside) (source_colour (blit_offset g b X Y)) colour new).0 in
        let at : IsAt d b.screen X Y q = record {
          meant = tests.0;
          x = refl;
          y = refl;
          in_width = width;
          in_height = height;
        } in
        let cover = covers definitions b.screen in
        let on = is_covered definitions b.screen X Y q d low is at in
        (pixel_at cover g b X Y, pixels_has cover g b X Y q tests.1 on, on)
