-- The pixels of a blit, and the blit's part on each screen.
use Rattle.std.proofs.Common.{◌≡◌, ℕ, ◌<◌, inl, refl, sym, ap, ◌∙◌, subst, Option, Some, None, Bool, true, ◌&&◌, ℤ, pos, ◌+ℤ◌, arith}
use Rattle.std.specs.List.{list_any, range_with_len}
use Rattle.svga_cmd.specs.declared.blit.Blit.{Blit}
use Rattle.svga_cmd.specs.declared.gmrfb.Gmrfb.{Gmrfb}
use Rattle.svga_cmd.specs.declared.screen.ScreenDef.{ScreenDef}
use Rattle.svga_model.proofs.PaintedMembers.{in_filter_map}
use Rattle.svga_model.proofs.PaintedPixels.{IsPixel, blit_pixel_has, blit_pixel_is}
use Rattle.svga_model.proofs.PaintedPlaces.{IsAt, is_covered, on_screen}
use Rattle.svga_model.proofs.PaintedTests.{both}
use Rattle.svga_model.specs.BlitFaults.{some_byte}
use Rattle.svga_model.specs.BlitPixels.{BlitPixel, ScreenPixel, blit_offset, blit_pixels, corner_x, corner_y, covered_on, covers, is_in_rect, is_meant}
use Rattle.svga_model.specs.Colours.{pixel_length}
use Rattle.svga_model.specs.Members.{IsIn}
use Rattle.svga_shape.proofs.SpanMembers.{item_passes, number_passes, same_tests, some_item, some_number}
use Rattle.svga_shape.specs.Spans.{area_passes, pixel_passes, row_passes, screen_passes, some_in_span}

module _ (test : ℤ → Bool) (g : Gmrfb) (b : Blit) where
  -- a pixel of the blit that lies on a screen is one of the screen's part
  on_area : (d : ScreenDef) (X Y : ℤ) (q : ScreenPixel) → IsAt d b.screen X Y q → pixel_passes test g b X Y ≡ true
      → screen_passes test g b q.screen (Some d) ≡ true
  unfolding area_passes row_passes
  on_area d X Y q at h =
      let x = corner_x b.screen d in
      let y = corner_y b.screen d in
      let pixel : pixel_passes test g b (x +ℤ pos q.x) (y +ℤ pos q.y) ≡ true =
      (λ i. pixel_passes test g b (at.x i) (at.y i)) ∙ h in
      let row = number_passes (λ u. pixel_passes test g b (x +ℤ pos u) (y +ℤ pos q.y)) 0 d.width q.x (omega arith)
      (omega (arith, at.in_width)) pixel in
      let area = number_passes (λ v. row_passes test g b x d.width (y +ℤ pos v)) 0 d.height q.y (omega arith)
      (omega (arith, at.in_height)) row in
      λ i. at.meant i && area i

  -- and each pixel of that part is one
  from_area : (d : ScreenDef) (id : ℕ) → screen_passes test g b id (Some d) ≡ true
      → (X : ℤ) × (Y : ℤ) × (q : ScreenPixel) × (q.screen ≡ id) × IsAt d b.screen X Y q
      × (pixel_passes test g b X Y ≡ true)
  unfolding area_passes row_passes
  from_area d id h =
      let x = corner_x b.screen d in
      let y = corner_y b.screen d in
      let tests = both (is_meant b.screen id) (area_passes test g b x y d.width d.height) h in
      let row = some_number (λ v. row_passes test g b x d.width (y +ℤ pos v)) 0 d.height tests.1 in
      let pixel = some_number (λ u. pixel_passes test g b (x +ℤ pos u) (y +ℤ pos row.0)) 0 d.width row.3 in
      let q : ScreenPixel = record { screen = id; x = pixel.0; y = row.0 } in
      let at : IsAt d b.screen (x +ℤ pos pixel.0) (y +ℤ pos row.0) q = record {
        meant = tests.0;
        x = refl;
        y = refl;
        in_width = omega arith;
        in_height = omega arith;
      } in
      (x +ℤ pos pixel.0, y +ℤ pos row.0, q, refl, at, pixel.3)

  -- only a screen that is defined has a part
  from_screen : (o : Option ScreenDef) (id : ℕ) → screen_passes test g b id o ≡ true
      → (d : ScreenDef) × (o ≡ Some d) × (screen_passes test g b id (Some d) ≡ true)
  from_screen None id h = absurd (cc)
  from_screen (Some d) id h = (d, refl, h)

  -- All pixels of the blit lie on the screens that are defined.
  module _ (definitions : ℕ → Option ScreenDef) where
    abbrev on_screens : Bool
    on_screens = list_any (λ id. screen_passes test g b id (definitions id)) (range_with_len 0 16)

    abbrev pixel_breaks : BlitPixel → Bool
    pixel_breaks p = list_any (λ j. test (p.offset +ℤ pos j)) (range_with_len 0 (pixel_length g.format))

    -- where a pixel of the blit has a byte that passes, some screen's part has one
    on_some_screen : (p : BlitPixel) → IsPixel (covers definitions b.screen) g b p → pixel_breaks p ≡ true
        → on_screens ≡ true
    unfolding some_in_span
    on_some_screen p is h =
        let first : IsIn is.first (covers definitions b.screen p.x p.y) =
        subst (λ ss. IsIn is.first ss) (sym is.covered) (inl refl) in
        let covered = λ (id : ℕ). covered_on (definitions id) id b.screen p.x p.y in
        let r = in_filter_map covered (range_with_len 0 16) is.first first in
        let on = on_screen (definitions r.0) r.0 b.screen p.x p.y is.first r.2 in
        let bytes : some_in_span test (blit_offset g b p.x p.y) (pixel_length g.format) ≡ true =
        ap (λ o. some_in_span test o (pixel_length g.format)) (sym is.offset) ∙ h in
        let passes = on_area on.0 p.x p.y is.first on.3 (λ i. is.in_rect i && bytes i) in
        let here : screen_passes test g b r.0 (definitions r.0) ≡ true =
        (λ i. screen_passes test g b (on.2 i) (on.1 i)) ∙ passes in
        item_passes (λ id. screen_passes test g b id (definitions id)) (range_with_len 0 16) r.0 r.1 here

    abbrev pixel_at : ℤ → ℤ → BlitPixel
    pixel_at X Y = record { x = X; y = Y; offset = blit_offset g b X Y }

    -- a pixel that lies on a screen, in the blit's rectangle, is one of the blit
    is_pixel : (X Y : ℤ) (q : ScreenPixel) (d : ScreenDef) → q.screen < 16 → definitions q.screen ≡ Some d
        → IsAt d b.screen X Y q → is_in_rect b.rect X Y ≡ true → IsIn (pixel_at X Y) (blit_pixels definitions g b)
    is_pixel X Y q d low is at inside =
        blit_pixel_has definitions g b X Y q inside (is_covered definitions b.screen X Y q d low is at)

    blit_there : on_screens ≡ true → some_byte definitions g b test ≡ true
    unfolding some_byte some_in_span
    blit_there h =
        let r = some_number (λ id. screen_passes test g b id (definitions id)) 0 16 h in
        let s = from_screen (definitions r.0) r.0 r.3 in
        let a = from_area s.0 r.0 s.2 in
        let X = a.0 in
        let Y = a.1 in
        let q = a.2 in
        let bytes = some_in_span test (blit_offset g b X Y) (pixel_length g.format) in
        let tests = both (is_in_rect b.rect X Y) bytes a.5 in
        let low : q.screen < 16 = omega (arith, a.3) in
        let is : definitions q.screen ≡ Some s.0 = ap definitions a.3 ∙ s.1 in
        let pixel = is_pixel X Y q s.0 low is a.4 tests.0 in
        item_passes pixel_breaks (blit_pixels definitions g b) (pixel_at X Y) pixel tests.1

    blit_back : some_byte definitions g b test ≡ true → on_screens ≡ true
    unfolding some_byte
    blit_back h =
        let r = some_item pixel_breaks (blit_pixels definitions g b) h in
        on_some_screen r.0 (blit_pixel_is definitions g b r.0 r.1) r.2

    pub blit_screens : on_screens ≡ some_byte definitions g b test
    blit_screens = same_tests on_screens (some_byte definitions g b test) blit_there blit_back
