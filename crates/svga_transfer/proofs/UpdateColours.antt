-- An UPDATE's blit gives each pixel of a screen the colour that the UPDATE gives it.
use Rattle.std.proofs.Common.{◌≡◌, ℕ, ◌+◌, ◌*◌, refl, ap, ◌∙◌, Some, None, Bool, true, false, ◌&&◌, cond, ℤ, pos, ◌+ℤ◌, unsigned_abs}
use Rattle.svga_cmd.specs.Pages.{Memory}
use Rattle.svga_cmd.specs.declared.blit.Blit.{Blit}
use Rattle.svga_cmd.specs.declared.format.Format.TheVariants.{Bgrx32}
use Rattle.svga_cmd.specs.declared.gmrfb.Gmrfb.{Gmrfb}
use Rattle.svga_cmd.specs.declared.limits.Limits.{Limits}
use Rattle.svga_cmd.specs.declared.screen.ScreenDef.{ScreenDef}
use Rattle.svga_model.proofs.PaintedTests.{both}
use Rattle.svga_model.specs.BlitEffects.{blit_colour, colour_at, update_colour}
use Rattle.svga_model.specs.BlitPixels.{blit_offset, is_in_area}
use Rattle.svga_model.specs.Memories.{region_byte}
use Rattle.svga_model.specs.Regions.{Regions, frame_places, region_places}
use Rattle.svga_transfer.proofs.UpdatePlaces.{in_cut, offset_at, on_frame}
use Rattle.svga_transfer.specs.Updates.{frame_gmrfb, update_blit}

-- two values under tests that are the same, where the values are the same as far as the tests hold
same_under : {X : Type 0} (s t : Bool) (a b : X) → s ≡ t → (t ≡ true → a ≡ b)
    → cond s (Some a) None ≡ cond t (Some b) None
same_under s true a b e same = λ i. cond (e i) (Some (same refl i)) None
same_under s false a b e same = ap (λ r. cond r (Some a) None) e

module _ (bytes : ℕ → ℕ) (l : Limits) (x y width height : ℕ) where
  -- both take the colour of the same bytes, where the blit's rectangle has the place
  same_source : (X Y : ℤ)
      → (is_in_area (pos x) (pos y) width height X Y && is_in_area (pos 0) (pos 0) l.gfb_width l.gfb_height X Y) ≡ true
      → colour_at bytes Bgrx32 (unsigned_abs (blit_offset (frame_gmrfb l) (update_blit l x y width height) X Y))
      ≡ colour_at bytes Bgrx32 (4 * (unsigned_abs Y * l.gfb_width + unsigned_abs X))
  same_source X Y inside =
      let area = is_in_area (pos x) (pos y) width height X Y in
      let frame = is_in_area (pos 0) (pos 0) l.gfb_width l.gfb_height X Y in
      let at = on_frame l X Y (both area frame inside).1 in
      ap (λ o. colour_at bytes Bgrx32 (unsigned_abs o)) (offset_at l x y width height X Y at)

  -- so they give each pixel of a screen the same colour, if they give it one
  same_colour : (id : ℕ) (d : ScreenDef) (u v : ℕ)
      → blit_colour bytes (frame_gmrfb l) (update_blit l x y width height) id d u v
      ≡ update_colour bytes l x y width height d u v
  same_colour id d u v =
      let X = d.x +ℤ pos u in
      let Y = d.y +ℤ pos v in
      same_under _ _ _ _ (in_cut l x y width height X Y) (same_source X Y)

-- The same of the GMRFB and the blit that an UPDATE makes: the bytes are those of the framebuffer's region.
pub same_colours : (memory : Memory) (frame : ℕ) (regions : Regions) (l : Limits) (x y width height : ℕ) (g : Gmrfb)
    (b : Blit) → g ≡ frame_gmrfb l → b ≡ update_blit l x y width height
    → blit_colour (region_byte memory (region_places frame regions g.region)) g b
    ≡ (λ id. update_colour (region_byte memory (frame_places frame)) l x y width height)
same_colours memory frame regions l x y width height g b is_frame is_cut =
    (λ i. blit_colour (region_byte memory (region_places frame regions (is_frame i).region)) (is_frame i) (is_cut i))
    ∙ (λ i id d u v. same_colour (region_byte memory (frame_places frame)) l x y width height id d u v i)
