-- Where the pixels of a row of a blit begin among the bytes of the GMRFB's region.
use Rattle.std.proofs.Common.{◌≡◌, ℕ, zero, suc, ◌+◌, ◌*◌, ◌<◌, sym, ap, ◌∙◌, ℤ, pos, ◌+ℤ◌, ◌-ℤ◌, ◌*ℤ◌, unsigned_abs, arith}
use Rattle.std.proofs.lemmas.Int.{ints}
use Rattle.std.proofs.Math.IntN.{+ℤ-suc_ℤ, +ℤ_idr, suc_ℤ, suc_ℤ-*ℤ}
use Rattle.std.proofs.Math.Nat.{suc-mul, zero-mul}
use Rattle.svga_cmd.specs.declared.blit.Blit.{Blit}
use Rattle.svga_cmd.specs.declared.format.Format.{Format}
use Rattle.svga_cmd.specs.declared.format.Format.TheVariants.{Bgrx32, Bgr24, Rgb565, Rgb555}
use Rattle.svga_cmd.specs.declared.gmrfb.Gmrfb.{Gmrfb}
use Rattle.svga_model.specs.BlitPixels.{blit_offset}
use Rattle.svga_model.specs.Colours.{pixel_length}

-- a pixel has at least one byte
pub some_bytes : (f : Format) → 0 < pixel_length f
some_bytes Bgrx32 = omega arith
some_bytes Bgr24 = omega arith
some_bytes Rgb565 = omega arith
some_bytes Rgb555 = omega arith

-- so many steps more are as many lengths more
scaled : (z : ℤ) (n u : ℕ) → (z +ℤ pos u) *ℤ pos n ≡ z *ℤ pos n +ℤ pos (u * n)
scaled z n zero =
    ap (λ w. w *ℤ pos n) (+ℤ_idr z) ∙ sym (+ℤ_idr (z *ℤ pos n)) ∙ ap (λ k. z *ℤ pos n +ℤ pos k) (sym (zero-mul n))
scaled z n (suc u) =
    let one_more : z +ℤ pos (suc u) ≡ suc_ℤ (z +ℤ pos u) = +ℤ-suc_ℤ z (pos u) in
    ap (λ w. w *ℤ pos n) one_more ∙ suc_ℤ-*ℤ (z +ℤ pos u) (pos n) ∙ ap (λ w. w +ℤ pos n) (scaled z n u)
    ∙ further (z *ℤ pos n) (u * n) n ∙ ap (λ k. z *ℤ pos n +ℤ pos k) (sym (suc-mul u n))
  where
    further : (w : ℤ) (a b : ℕ) → w +ℤ pos a +ℤ pos b ≡ w +ℤ pos (a + b)
    further w a b = omega (arith, ints)

module _ (g : Gmrfb) (b : Blit) (X Y : ℤ) where
  -- the pixel so many steps to the right begins as many lengths further
  pub offset_steps : (u : ℕ) → blit_offset g b (X +ℤ pos u) Y ≡ blit_offset g b X Y +ℤ pos (u * pixel_length g.format)
  offset_steps u =
      let column = b.point.x +ℤ (X -ℤ b.rect.left) in
      let row = pos g.offset +ℤ ((b.point.y +ℤ (Y -ℤ b.rect.top)) *ℤ pos g.pitch) in
      let n = pixel_length g.format in
      let further : b.point.x +ℤ (X +ℤ pos u -ℤ b.rect.left) ≡ column +ℤ pos u = omega (arith, ints) in
      ap (λ z. row +ℤ z *ℤ pos n) further ∙ ap (λ z. row +ℤ z) (scaled column n u)
      ∙ omega (arith, ints)

  -- so do its bytes behind byte i, where the first of them begins
  pub pixel_begins : (i u : ℕ) → pos i ≡ blit_offset g b X Y
      → unsigned_abs (blit_offset g b (X +ℤ pos u) Y) ≡ i + u * pixel_length g.format
  pixel_begins i u first =
      let k = u * pixel_length g.format in
      ap unsigned_abs (offset_steps u ∙ ap (λ z. z +ℤ pos k) (sym first)) ∙ omega (arith, ints)
