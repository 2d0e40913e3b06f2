-- The bytes of an UPDATE's blit lie on the guest framebuffer, all of whose places are mapped.
use Rattle.std.proofs.Common.{◌≡◌, ℕ, ◌+◌, ◌*◌, ◌/◌, ◌<◌, ◌≤◌, sym, ◌∙◌, subst, Option, Some, Bool, false, ◌&&◌, ◌||◌, not, ℤ, pos, ◌+ℤ◌, int_lt, unsigned_abs, is_none, arith}
use Rattle.std.proofs.Math.Nat.{mul-le-mul_right}
use Rattle.std.proofs.lemmas.Bool.Decides.{nat_tests}
use Rattle.std.specs.List.{list_any, range_with_len}
use Rattle.svga_cmd.specs.Limits.{frame_page_count}
use Rattle.svga_cmd.specs.declared.blit.Blit.{Blit}
use Rattle.svga_cmd.specs.declared.gmrfb.Gmrfb.{Gmrfb}
use Rattle.svga_cmd.specs.declared.limits.Limits.{Limits}
use Rattle.svga_cmd.specs.declared.page.PageKey.TheVariants.{Frame}
use Rattle.svga_cmd.specs.declared.screen.ScreenDef.{ScreenDef}
use Rattle.svga_model.proofs.PaintedMembers.{in_range}
use Rattle.svga_model.proofs.PaintedPixels.{blit_pixel_is}
use Rattle.svga_model.proofs.PaintedTests.{both}
use Rattle.svga_model.specs.BlitFaults.{is_on_unmapped, is_outside, some_byte}
use Rattle.svga_model.specs.BlitPixels.{BlitPixel, blit_pixels, is_in_area}
use Rattle.svga_model.specs.Members.{IsIn}
use Rattle.svga_model.specs.RegionBytes.{is_beyond, page_of_byte}
use Rattle.svga_model.specs.Regions.{Regions, frame_places, region_places}
use Rattle.svga_region.proofs.PlaceLaws.{frame_place, length-frame_places, within as bytes_within}
use Rattle.svga_transfer.proofs.ListLaws.{each_fails}
use Rattle.svga_transfer.proofs.UpdatePlaces.{IsOnFrame, in_cut, offset_at, on_frame}
use Rattle.svga_transfer.specs.Reach.{AreMapped}
use Rattle.svga_transfer.specs.Updates.{frame_gmrfb, update_blit}

-- a number isn't below 0
not_negative : (i : ℕ) → int_lt (pos i) (pos 0) ≡ false
not_negative i = grind (arith, nat_tests)

-- a byte of the framebuffer's pages is one of its region's, and lies on a mapped place
module _ (frame i : ℕ) (inside : i < 4096 * frame) where
  not_beyond : is_beyond (frame_places frame) i ≡ false
  not_beyond = bytes_within (frame_places frame) i (omega (arith, length-frame_places frame))

  page_is : page_of_byte (frame_places frame) i ≡ Some (Frame (i / 4096))
  page_is = frame_place frame (i / 4096) (omega arith)

  not_outside : is_outside (frame_places frame) (pos i) ≡ false
  not_outside = λ t. not_negative i t || not_beyond t

  not_on_unmapped : is_on_unmapped (frame_places frame) (pos i) ≡ false
  not_on_unmapped = λ t. not (not_negative i t) && (not (not_beyond t) && is_none (page_is t))

-- the bytes of a pixel lie below those of so many rows of pixels
within_rows : (columns rows X Y k : ℕ) → X < columns → Y < rows → k < 4
    → 4 * (Y * columns + X) + k < 4 * columns * rows
within_rows columns rows X Y k column row byte =
    let below : (Y + 1) * columns ≤ rows * columns = mul-le-mul_right columns (omega arith) in
    grind (arith, below)

-- a byte of one of the framebuffer's pixels lies on its pages
on_pages : (l : Limits) (X Y k : ℕ) → X < l.gfb_width → Y < l.gfb_height → k < 4
    → 4 * (Y * l.gfb_width + X) + k < 4096 * frame_page_count l
on_pages l X Y k column row byte =
    let below = within_rows l.gfb_width l.gfb_height X Y k column row byte in
    omega (arith, below)

module _ (definitions : ℕ → Option ScreenDef) (l : Limits) (x y width height : ℕ) where
  abbrev gmrfb : Gmrfb
  gmrfb = frame_gmrfb l

  abbrev blit : Blit
  blit = update_blit l x y width height

  -- each pixel of the blit is one of the framebuffer's, and its bytes begin where that one's do
  on_framebuffer : (p : BlitPixel) → IsIn p (blit_pixels definitions gmrfb blit)
      → IsOnFrame l p.x p.y × (p.offset ≡ pos (4 * (unsigned_abs p.y * l.gfb_width + unsigned_abs p.x)))
  on_framebuffer p there =
      let is = blit_pixel_is definitions gmrfb blit p there in
      let area = is_in_area (pos x) (pos y) width height p.x p.y in
      let frame = is_in_area (pos 0) (pos 0) l.gfb_width l.gfb_height p.x p.y in
      let inside = both area frame (sym (in_cut l x y width height p.x p.y) ∙ is.in_rect) in
      let at = on_frame l p.x p.y inside.1 in
      (at, is.offset ∙ offset_at l x y width height p.x p.y at)

  -- no byte of the blit passes a test that each byte of the framebuffer's pages fails
  none_of_blit : (test : ℤ → Bool) → ((i : ℕ) → i < 4096 * frame_page_count l → test (pos i) ≡ false)
      → some_byte definitions gmrfb blit test ≡ false
  unfolding some_byte
  none_of_blit test fails = each_fails _ (blit_pixels definitions gmrfb blit) pixel where
    pixel : (p : BlitPixel) → IsIn p (blit_pixels definitions gmrfb blit)
        → list_any (λ j. test (p.offset +ℤ pos j)) (range_with_len 0 4) ≡ false
    pixel p there = each_fails (λ j. test (p.offset +ℤ pos j)) (range_with_len 0 4) byte where
      byte : (j : ℕ) → IsIn j (range_with_len 0 4) → test (p.offset +ℤ pos j) ≡ false
      byte j one_of_four =
          let on = on_framebuffer p there in
          let r = in_range 0 4 j one_of_four in
          let few = on_pages l (unsigned_abs p.x) (unsigned_abs p.y) j on.0.in_width on.0.in_height r.1 in
          (λ i. test (on.1 i +ℤ pos j)) ∙ fails _ few

  -- so each of its bytes is one of those pages', and each of their places is mapped
  blit_is_mapped : AreMapped definitions gmrfb blit (frame_places (frame_page_count l))
  blit_is_mapped = record {
    mapped = none_of_blit (is_on_unmapped (frame_places (frame_page_count l))) (not_on_unmapped (frame_page_count l));
    within = none_of_blit (is_outside (frame_places (frame_page_count l))) (not_outside (frame_page_count l));
  }

-- The same of the GMRFB and the blit that an UPDATE makes, with the places of the framebuffer's region.
pub update_is_mapped : (definitions : ℕ → Option ScreenDef) (frame : ℕ) (regions : Regions) (l : Limits)
    (x y width height : ℕ) (g : Gmrfb) (b : Blit) → frame ≡ frame_page_count l → g ≡ frame_gmrfb l
    → b ≡ update_blit l x y width height → AreMapped definitions g b (region_places frame regions g.region)
update_is_mapped definitions frame regions l x y width height g b pages is_frame is_cut =
    subst (λ n. AreMapped definitions g b (region_places n regions g.region)) (sym pages)
    (subst (λ h. AreMapped definitions h b (region_places (frame_page_count l) regions h.region)) (sym is_frame)
    (subst (λ c. AreMapped definitions (frame_gmrfb l) c (frame_places (frame_page_count l))) (sym is_cut)
    (blit_is_mapped definitions l x y width height)))
