-- Rows where screens show nothing.
use Rattle.std.proofs.Common.{◌≡◌, ℕ, ◌+◌, false, ◌&&◌, ℤ, pos, ◌+ℤ◌, ◌≤ℤ◌, ◌<ℤ◌, int_lt, Option, Some, arith}
use Rattle.std.proofs.lemmas.Int.{by_lt_z, clamps, ints}
use Rattle.std.specs.Int.{int_max, int_min}
use Rattle.svga_cmd.specs.declared.blit.Blit.{Blit}
use Rattle.svga_cmd.specs.declared.screen.ScreenDef.{ScreenDef}
use Rattle.svga_transfer.proofs.StretchJoins.{both_bare}
use Rattle.svga_transfer.proofs.StretchPixels.{bare_beside, bare_off}
use Rattle.svga_transfer.proofs.WholeTests.{not_both}
use Rattle.svga_transfer.specs.Stretches.{AreBareOf, HasNoColumn, HasNoRow, site_of}
use Rattle.svga_transfer.specs.declared.runs.Site.{Site}

-- no row from one on is a screen's before both that one and its first
pub above : (s : Site) (y : ℤ) → HasNoRow s y (int_max y s.y)
above s y = λ Y low high. not_both s.y (s.y +ℤ pos s.height) Y (λ on off. omega (arith, ints, clamps))

-- a screen that begins right of a rectangle, or ends left of it, has none of its columns
no_columns : (s : Site) (left right : ℤ) → (int_lt s.x right && int_lt left (s.x +ℤ pos s.width)) ≡ false
    → HasNoColumn s left right
no_columns s left right e = λ X low high. not_both s.x (s.x +ℤ pos s.width) X (λ on off. grind (arith, ints))

module _ (definitions : ℕ → Option ScreenDef) (b : Blit) where
  pub rows_off : (id : ℕ) (s : Site) → site_of (definitions id) b.screen id ≡ Some s → (from to : ℤ)
      → HasNoRow s from to → AreBareOf definitions b id (id + 1) from to
  rows_off id s there from to h Y low high = bare_off definitions b id s there Y b.rect.left b.rect.right (h Y low high)

  pub rows_beside : (id : ℕ) (s : Site) → site_of (definitions id) b.screen id ≡ Some s → (from to : ℤ)
      → (int_lt s.x b.rect.right && int_lt b.rect.left (s.x +ℤ pos s.width)) ≡ false
      → AreBareOf definitions b id (id + 1) from to
  rows_beside id s there from to e Y low high =
      bare_beside definitions b id s there Y b.rect.left b.rect.right (no_columns s b.rect.left b.rect.right e)

  -- the lesser of two rows: none before it has a place of the screens of either
  pub lesser_row : (id : ℕ) (y row found least : ℤ) → least ≡ int_min row found
      → row ≤ℤ b.rect.bottom → (row <ℤ b.rect.bottom → y ≤ℤ row) → (found <ℤ b.rect.bottom → y ≤ℤ found)
      → AreBareOf definitions b 0 id y row → AreBareOf definitions b id (id + 1) y found
      → (least ≤ℤ b.rect.bottom) × (least <ℤ b.rect.bottom → y ≤ℤ least) × AreBareOf definitions b 0 (id + 1) y least
  lesser_row id y row found least is low from_row from_found below here = (omega (arith, ints, clamps), from, bare)
    where
      from : least <ℤ b.rect.bottom → y ≤ℤ least
      from l = by_lt_z found row
          (λ less. let same : least ≡ found = omega (arith, ints, clamps) in
          let h : y ≤ℤ found = from_found (omega (arith, ints)) in omega (arith, ints, h))
          (λ past. let same : least ≡ row = omega (arith, ints, clamps) in
          let h : y ≤ℤ row = from_row (omega (arith, ints)) in omega (arith, ints, h))

      bare : AreBareOf definitions b 0 (id + 1) y least
      bare Y start stop = both_bare definitions b id Y b.rect.left b.rect.right
          (below Y start (omega (arith, ints, clamps))) (here Y start (omega (arith, ints, clamps)))
