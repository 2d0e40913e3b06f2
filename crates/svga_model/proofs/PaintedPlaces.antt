-- The screens' pixels that a place covers, by the ids of the screens and by their corners.
use Rattle.std.proofs.Common.{◌≡◌, ℕ, ◌<◌, refl, ap, ◌∙◌, subst, List, filter_map, Option, Some, None, true, ◌&&◌, cond, ℤ, pos, ◌+ℤ◌, ◌-ℤ◌, int_lt, int_le, unsigned_abs, arith}
use Rattle.std.proofs.lemmas.Int.{ints}
use Rattle.std.specs.List.{range_with_len}
use Rattle.svga_cmd.specs.declared.screen.ScreenDef.{ScreenDef}
use Rattle.svga_model.proofs.PaintedMembers.{filter_map_has, in_filter_map, range_has}
use Rattle.svga_model.proofs.PaintedTests.{all_four, both, chosen}
use Rattle.svga_model.specs.BlitPixels.{ScreenPixel, corner_x, corner_y, covered_on, covers, is_in_area, is_meant}
use Rattle.svga_model.specs.Members.{IsIn}

-- pixel q of a screen with the definition d lies at place (X, Y), in the coordinates that are meant
pub record IsAt (d : ScreenDef) (screen : ℕ) (X Y : ℤ) (q : ScreenPixel) : Type 0 where
  pub meant : is_meant screen q.screen ≡ true
  pub x : corner_x screen d +ℤ pos q.x ≡ X
  pub y : corner_y screen d +ℤ pos q.y ≡ Y
  pub in_width : q.x < d.width
  pub in_height : q.y < d.height

-- place X of a side lies as many steps behind its corner, fewer than the side is long
on_side : (corner X : ℤ) (length : ℕ) → int_le corner X ≡ true → int_lt X (corner +ℤ pos length) ≡ true
    → (corner +ℤ pos (unsigned_abs (X -ℤ corner)) ≡ X) × (unsigned_abs (X -ℤ corner) < length)
on_side corner X length low high = (grind (arith, ints), grind (arith, ints))

-- and the place so many steps behind the corner is on the side
from_side : (corner X : ℤ) (length n : ℕ) → corner +ℤ pos n ≡ X → n < length
    → (int_le corner X ≡ true) × (int_lt X (corner +ℤ pos length) ≡ true) × (unsigned_abs (X -ℤ corner) ≡ n)
from_side corner X length n at l = (grind (arith, ints), grind (arith, ints), grind (arith, ints))

-- a pixel that a place covers is that of a screen with a definition, and lies there
pub on_screen : (o : Option ScreenDef) (id screen : ℕ) (X Y : ℤ) (q : ScreenPixel) → covered_on o id screen X Y ≡ Some q
    → (d : ScreenDef) × (o ≡ Some d) × (id ≡ q.screen) × IsAt d screen X Y q
on_screen None id screen X Y q e = absurd (cc)
on_screen (Some d) id screen X Y q e =
    let x = corner_x screen d in
    let y = corner_y screen d in
    let area = is_in_area x y d.width d.height X Y in
    let it : ScreenPixel = record { screen = id; x = unsigned_abs (X -ℤ x); y = unsigned_abs (Y -ℤ y) } in
    let is = chosen (is_meant screen id && area) it q e in
    let tests = both (is_meant screen id) area is.0 in
    let right = x +ℤ pos d.width in
    let bottom = y +ℤ pos d.height in
    let sides = all_four (int_le x X) (int_lt X right) (int_le y Y) (int_lt Y bottom) tests.1 in
    let across = on_side x X d.width sides.0 sides.1 in
    let down = on_side y Y d.height sides.2 sides.3 in
    let at : IsAt d screen X Y it = record {
      meant = tests.0;
      x = across.0;
      y = down.0;
      in_width = across.1;
      in_height = down.1;
    } in
    (d, refl, ap (λ r. r.screen) is.1, subst (IsAt d screen X Y) is.1 at)

-- and a pixel that lies there is covered
at_place : (d : ScreenDef) (screen : ℕ) (X Y : ℤ) (q : ScreenPixel) → IsAt d screen X Y q
    → covered_on (Some d) q.screen screen X Y ≡ Some q
at_place d screen X Y q at =
    let across = from_side (corner_x screen d) X d.width q.x at.x at.in_width in
    let down = from_side (corner_y screen d) Y d.height q.y at.y at.in_height in
    let area : is_in_area (corner_x screen d) (corner_y screen d) d.width d.height X Y ≡ true =
    λ i. across.0 i && across.1 i && down.0 i && down.1 i in
    λ i. cond (at.meant i && area i) (Some (record { screen = q.screen; x = across.2 i; y = down.2 i })) None

module _ (definitions : ℕ → Option ScreenDef) where
  -- what a place covers of the screens with some ids
  abbrev covered_among : List ℕ → ℕ → ℤ → ℤ → List ScreenPixel
  covered_among ids screen X Y = filter_map (λ id. covered_on (definitions id) id screen X Y) ids

  in_covered_among : (ids : List ℕ) (screen : ℕ) (X Y : ℤ) (q : ScreenPixel) → IsIn q (covered_among ids screen X Y)
      → (d : ScreenDef) × (definitions q.screen ≡ Some d) × IsAt d screen X Y q
  in_covered_among ids screen X Y q h =
      let r = in_filter_map (λ id. covered_on (definitions id) id screen X Y) ids q h in
      let s = on_screen (definitions r.0) r.0 screen X Y q r.2 in
      (s.0, subst (λ id. definitions id ≡ Some s.0) s.2 s.1, s.3)

  covered_among_has : (ids : List ℕ) (screen : ℕ) (X Y : ℤ) (q : ScreenPixel) (d : ScreenDef) → IsIn q.screen ids
      → definitions q.screen ≡ Some d → IsAt d screen X Y q → IsIn q (covered_among ids screen X Y)
  covered_among_has ids screen X Y q d there is at =
      let here : covered_on (definitions q.screen) q.screen screen X Y ≡ Some q =
      ap (λ o. covered_on o q.screen screen X Y) is ∙ at_place d screen X Y q at in
      filter_map_has (λ id. covered_on (definitions id) id screen X Y) ids q.screen q there here

  -- each pixel that a place covers is one of a screen, and lies there
  pub covered_pixel : (screen : ℕ) (X Y : ℤ) (q : ScreenPixel) → IsIn q (covers definitions screen X Y)
      → (d : ScreenDef) × (definitions q.screen ≡ Some d) × IsAt d screen X Y q
  covered_pixel = in_covered_among (range_with_len 0 16)

  -- and each pixel of a screen that lies there is covered
  pub is_covered : (screen : ℕ) (X Y : ℤ) (q : ScreenPixel) (d : ScreenDef) → q.screen < 16
      → definitions q.screen ≡ Some d → IsAt d screen X Y q → IsIn q (covers definitions screen X Y)
  is_covered screen X Y q d low =
      covered_among_has (range_with_len 0 16) screen X Y q d (range_has 0 16 q.screen (omega arith) (omega arith))
