-- The bytes of a row's pixels are one span, and those of an area the spans of its rows.
use Rattle.std.proofs.Common.{◌≡◌, ℕ, ◌+◌, ◌-◌, ◌*◌, ◌/◌, ◌%◌, ◌<◌, ◌≤◌, refl, sym, ap, ◌∙◌, Bool, true, false, ◌&&◌, nat_le, nat_lt, ℤ, pos, ◌+ℤ◌, arith}
use Rattle.std.proofs.lemmas.Bool.Decides.{nat_tests}
use Rattle.std.proofs.lemmas.Int.{ints}
use Rattle.std.proofs.lemmas.Nat.{div-add-mod', div_below, mod_below, mul-add-lt}
use Rattle.std.proofs.Math.Nat.{mul_comm}
use Rattle.std.specs.List.{list_any, range_with_len}
use Rattle.svga_cmd.specs.declared.blit.Blit.{Blit}
use Rattle.svga_cmd.specs.declared.gmrfb.Gmrfb.{Gmrfb}
use Rattle.svga_model.proofs.PaintedTests.{both}
use Rattle.svga_model.proofs.PixelSteps.{offset_steps, some_bytes}
use Rattle.svga_model.specs.BlitPixels.{blit_offset, is_in_rect}
use Rattle.svga_model.specs.Colours.{pixel_length}
use Rattle.svga_screen.specs.Clips.{IsClip}
use Rattle.svga_screen.specs.declared.area.Area.{Area}
use Rattle.svga_shape.proofs.SpanMembers.{byte_passes, number_passes, same_tests, some_byte_of, some_number}
use Rattle.svga_shape.specs.Spans.{area_passes, pixel_passes, row_passes, some_in_span}

-- A row of pixels of `count` bytes, of which `wide` from `left` on are inside: where each pixel begins
-- behind the one before it, the bytes of the pixels inside are one span.
module _ (test : ℤ → Bool) (inside : ℕ → Bool) (start : ℕ → ℤ) (count width left wide : ℕ)
    (some : 0 < count) (within : left + wide ≤ width)
    (steps : (u : ℕ) → start (left + u) ≡ start left +ℤ pos (u * count))
    (columns : (u : ℕ) → u < width → inside u ≡ (nat_le left u && nat_lt u (left + wide))) where
  abbrev passes : ℕ → Bool
  passes u = inside u && some_in_span test (start u) count

  row_there : list_any passes (range_with_len 0 width) ≡ true → some_in_span test (start left) (wide * count) ≡ true
  row_there h =
      let r = some_number passes 0 width h in
      let u = r.0 in
      let tests = both (inside u) (some_in_span test (start u) count) r.3 in
      let column = sym (columns u (omega arith)) ∙ tests.0 in
      let low : left ≤ u = grind (arith, nat_tests) in
      let high : u < left + wide = grind (arith, nat_tests) in
      let s = some_byte_of test (start u) count tests.1 in
      let same : left + (u - left) ≡ u = omega arith in
      let begins : start u ≡ start left +ℤ pos ((u - left) * count) = ap start (sym same) ∙ steps (u - left) in
      let at : start u +ℤ pos s.0 ≡ start left +ℤ pos ((u - left) * count + s.0) =
      ap (λ z. z +ℤ pos s.0) begins ∙ omega (arith, ints) in
      let below = mul-add-lt (u - left) count s.0 wide (omega arith) s.1 in
      byte_passes test (start left) (wide * count) ((u - left) * count + s.0) (omega (arith, mul_comm wide count))
      (ap test (sym at) ∙ s.2)

  row_back : some_in_span test (start left) (wide * count) ≡ true → list_any passes (range_with_len 0 width) ≡ true
  row_back h =
      let s = some_byte_of test (start left) (wide * count) h in
      let u = s.0 / count in
      let j = s.0 % count in
      let column : u < wide = div_below s.0 count wide some s.1 in
      let low : nat_le left (left + u) ≡ true = grind (arith, nat_tests) in
      let high : nat_lt (left + u) (left + wide) ≡ true = grind (arith, nat_tests) in
      let is : inside (left + u) ≡ true = columns (left + u) (omega arith) ∙ (λ i. low i && high i) in
      let split : u * count + j ≡ s.0 = div-add-mod' s.0 count in
      let at : start (left + u) +ℤ pos j ≡ start left +ℤ pos s.0 =
      ap (λ z. z +ℤ pos j) (steps u) ∙ omega (arith, ints) in
      let here = byte_passes test (start (left + u)) count j (mod_below s.0 count some) (ap test at ∙ s.2) in
      number_passes passes 0 width (left + u) (omega arith) (omega arith) (λ i. is i && here i)

  pub row_span : list_any passes (range_with_len 0 width) ≡ some_in_span test (start left) (wide * count)
  row_span = same_tests (list_any passes (range_with_len 0 width)) (some_in_span test (start left) (wide * count))
      row_there row_back

-- so many steps, and some more
further : (z : ℤ) (a b : ℕ) → z +ℤ pos (a + b) ≡ z +ℤ pos a +ℤ pos b
further z a b = omega (arith, ints)

-- a test beside one that holds
and_true : (a : Bool) → (a && true) ≡ a
and_true true = refl
and_true false = refl

-- The bytes of the blit's pixels on a screen whose corner is at (X, Y), and those of the rows of what the
-- blit's rectangle shares with it.
module _ (test : ℤ → Bool) (g : Gmrfb) (b : Blit) (X Y : ℤ) (width height : ℕ) (area : Area)
    (clip : IsClip b.rect X Y width height area) where
  abbrev span_passes : ℕ → Bool
  span_passes v =
      some_in_span test (blit_offset g b (X +ℤ pos area.left) (Y +ℤ pos v)) (area.width * pixel_length g.format)

  abbrev in_columns : ℕ → Bool
  in_columns u = nat_le area.left u && nat_lt u (area.left + area.width)

  abbrev in_rows : ℕ → Bool
  in_rows v = nat_le area.top v && nat_lt v (area.top + area.height)

  -- the bytes of a row of the screen that is one of the area's
  row_is : (v : ℕ) → area.top ≤ v → v < area.top + area.height
      → row_passes test g b X width (Y +ℤ pos v) ≡ span_passes v
  unfolding row_passes
  row_is v low high =
      row_span test (λ u. is_in_rect b.rect (X +ℤ pos u) (Y +ℤ pos v)) (λ u. blit_offset g b (X +ℤ pos u) (Y +ℤ pos v))
      (pixel_length g.format) width area.left area.width (some_bytes g.format) clip.wide
      (λ u. ap (λ z. blit_offset g b z (Y +ℤ pos v)) (further X area.left u) ∙ offset_steps g b (X +ℤ pos area.left) (Y +ℤ pos v) u) columns
    where
      columns : (u : ℕ) → u < width → is_in_rect b.rect (X +ℤ pos u) (Y +ℤ pos v) ≡ in_columns u
      columns u l =
          let from_top : nat_le area.top v ≡ true = grind (arith, nat_tests) in
          let below_bottom : nat_lt v (area.top + area.height) ≡ true = grind (arith, nat_tests) in
          sym (clip.same u v l (omega (arith, clip.high)))
          ∙ (λ i. in_columns u && (from_top i && below_bottom i)) ∙ and_true (in_columns u)

  -- a row with a byte that passes is one of the area's
  row_in : (v : ℕ) → v < height → row_passes test g b X width (Y +ℤ pos v) ≡ true → in_rows v ≡ true
  unfolding row_passes
  row_in v l h =
      let r = some_number (λ u. pixel_passes test g b (X +ℤ pos u) (Y +ℤ pos v)) 0 width h in
      let begins = blit_offset g b (X +ℤ pos r.0) (Y +ℤ pos v) in
      let inside = is_in_rect b.rect (X +ℤ pos r.0) (Y +ℤ pos v) in
      let tests = both inside (some_in_span test begins (pixel_length g.format)) r.3 in
      (both (in_columns r.0) (in_rows v) (clip.same r.0 v (omega arith) l ∙ tests.0)).1

  in_rows_is : (v : ℕ) → in_rows v ≡ true → (area.top ≤ v) × (v < area.top + area.height)
  in_rows_is v h = (grind (arith, nat_tests), grind (arith, nat_tests))

  area_there : list_any span_passes (range_with_len area.top area.height) ≡ true
      → area_passes test g b X Y width height ≡ true
  unfolding area_passes
  area_there h =
      let r = some_number span_passes area.top area.height h in
      number_passes (λ v. row_passes test g b X width (Y +ℤ pos v)) 0 height r.0 (omega arith)
      (omega (arith, clip.high)) (row_is r.0 r.1 r.2 ∙ r.3)

  area_back : area_passes test g b X Y width height ≡ true
      → list_any span_passes (range_with_len area.top area.height) ≡ true
  unfolding area_passes
  area_back h =
      let r = some_number (λ v. row_passes test g b X width (Y +ℤ pos v)) 0 height h in
      let at = in_rows_is r.0 (row_in r.0 (omega arith) r.3) in
      number_passes span_passes area.top area.height r.0 at.0 at.1 (sym (row_is r.0 at.0 at.1) ∙ r.3)

  pub area_rows : list_any span_passes (range_with_len area.top area.height) ≡ area_passes test g b X Y width height
  area_rows = same_tests (list_any span_passes (range_with_len area.top area.height))
      (area_passes test g b X Y width height) area_there area_back
