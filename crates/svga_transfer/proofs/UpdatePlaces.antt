-- The places of an UPDATE's blit are those of its rectangle that the guest framebuffer has, and where its
-- bytes begin.
use Rattle.std.proofs.Common.{◌≡◌, ℕ, ◌+◌, ◌*◌, ◌<◌, refl, sym, ap, ◌∙◌, Bool, true, false, ◌&&◌, ℤ, pos, negsuc, ◌+ℤ◌, ◌-ℤ◌, ◌*ℤ◌, int_lt, int_le, unsigned_abs, arith}
use Rattle.std.proofs.lemmas.Bool.Decides.{nat_tests}
use Rattle.std.proofs.lemmas.Int.{ints}
use Rattle.std.proofs.Math.Bool.{and_assoc}
use Rattle.svga_cmd.specs.declared.limits.Limits.{Limits}
use Rattle.svga_model.proofs.PaintedTests.{all_four}
use Rattle.svga_model.specs.BlitPixels.{blit_offset, is_in_area, is_in_rect}
use Rattle.svga_transfer.specs.Updates.{frame_gmrfb, up_to, update_blit}

-- along one side, what is cut at the framebuffer's end lies on the rectangle and on the framebuffer
side : (end from count : ℕ) (X : ℤ) → (int_le (pos (up_to end from)) X && int_lt X (pos (up_to end (from + count))))
    ≡ ((int_le (pos from) X && int_lt X (pos from +ℤ pos count)) && (int_le (pos 0) X && int_lt X (pos 0 +ℤ pos end)))
side end from count (pos X) = grind (arith, nat_tests)
side end from count (negsuc X) = refl

-- tests that are joined by && in another order
crossed : (a b c d : Bool) → ((a && b) && (c && d)) ≡ ((a && c) && (b && d))
crossed true true c d = refl
crossed true false true d = refl
crossed true false false d = refl
crossed false b c d = refl

-- a place of a side of the framebuffer is a number below its length
on_side : (end : ℕ) (X : ℤ) → int_le (pos 0) X ≡ true → int_lt X (pos 0 +ℤ pos end) ≡ true
    → (X ≡ pos (unsigned_abs X)) × (unsigned_abs X < end)
on_side end (pos X) low high = (refl, grind (arith, nat_tests))
on_side end (negsuc X) low high = absurd (cc)

-- the steps from one number to another lead there
behind : (from n : ℕ) → pos from +ℤ (pos n -ℤ pos from) ≡ pos n
behind from n = grind (arith, ints)

-- place (X, Y) is one of the framebuffer's pixels
pub record IsOnFrame (l : Limits) (X Y : ℤ) : Type 0 where
  pub column : X ≡ pos (unsigned_abs X)
  pub row : Y ≡ pos (unsigned_abs Y)
  pub in_width : unsigned_abs X < l.gfb_width
  pub in_height : unsigned_abs Y < l.gfb_height

pub on_frame : (l : Limits) (X Y : ℤ) → is_in_area (pos 0) (pos 0) l.gfb_width l.gfb_height X Y ≡ true → IsOnFrame l X Y
on_frame l X Y inside =
    let right = pos 0 +ℤ pos l.gfb_width in
    let bottom = pos 0 +ℤ pos l.gfb_height in
    let sides = all_four (int_le (pos 0) X) (int_lt X right) (int_le (pos 0) Y) (int_lt Y bottom) inside in
    let across = on_side l.gfb_width X sides.0 sides.1 in
    let down = on_side l.gfb_height Y sides.2 sides.3 in
    record { column = across.0; row = down.0; in_width = across.1; in_height = down.1 }

module _ (l : Limits) (x y width height : ℕ) where
  -- the blit's rectangle is what UPDATE's rectangle and the framebuffer have in common
  pub in_cut : (X Y : ℤ) → is_in_rect (update_blit l x y width height).rect X Y
      ≡ (is_in_area (pos x) (pos y) width height X Y && is_in_area (pos 0) (pos 0) l.gfb_width l.gfb_height X Y)
  in_cut X Y =
      let r = (update_blit l x y width height).rect in
      let right = pos x +ℤ pos width in
      let bottom = pos y +ℤ pos height in
      let frame_right = pos 0 +ℤ pos l.gfb_width in
      let frame_bottom = pos 0 +ℤ pos l.gfb_height in
      let across = int_le (pos x) X && int_lt X right in
      let down = int_le (pos y) Y && int_lt Y bottom in
      let frame_across = int_le (pos 0) X && int_lt X frame_right in
      let frame_down = int_le (pos 0) Y && int_lt Y frame_bottom in
      let here = and_assoc across (int_le (pos y) Y) (int_lt Y bottom) in
      let there = and_assoc frame_across (int_le (pos 0) Y) (int_lt Y frame_bottom) in
      and_assoc (int_le r.left X && int_lt X r.right) (int_le r.top Y) (int_lt Y r.bottom)
      ∙ (λ i. side l.gfb_width x width X i && side l.gfb_height y height Y i)
      ∙ crossed across frame_across down frame_down
      ∙ sym (λ i. here i && there i)

  -- the bytes of the framebuffer's pixel at a place begin behind those of the rows above and of the pixels
  -- before it
  pub offset_at : (X Y : ℤ) → IsOnFrame l X Y → blit_offset (frame_gmrfb l) (update_blit l x y width height) X Y
      ≡ pos (4 * (unsigned_abs Y * l.gfb_width + unsigned_abs X))
  offset_at X Y at =
      let left = pos (up_to l.gfb_width x) in
      let top = pos (up_to l.gfb_height y) in
      let column = (λ i. left +ℤ (at.column i -ℤ left)) ∙ behind (up_to l.gfb_width x) (unsigned_abs X) in
      let row = (λ i. top +ℤ (at.row i -ℤ top)) ∙ behind (up_to l.gfb_height y) (unsigned_abs Y) in
      (λ i. pos 0 +ℤ (row i *ℤ pos (4 * l.gfb_width)) +ℤ (column i *ℤ pos 4)) ∙ ap pos (grind arith)
