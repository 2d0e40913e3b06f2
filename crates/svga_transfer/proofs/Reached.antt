-- Each byte of a blit's pixels is one of the region's, and lies on a page that the memory has.
use Rattle.std.proofs.Common.{◌≡◌, ℕ, ◌+◌, ◌-◌, ◌*◌, ◌/◌, ◌%◌, ◌<◌, ◌^◌, sym, ap, ◌∙◌, subst, [], length, Option, Some, None, IfSome, IsSomeAnd, unwrap_or, is_none, Bool, true, false, not, ◌&&◌, ◌||◌, nat_le, ℤ, pos, ◌+ℤ◌, ◌≤ℤ◌, int_lt, unsigned_abs, arith}
use Rattle.std.proofs.lemmas.Bool.Decides.{nat_tests}
use Rattle.std.proofs.lemmas.Int.{ints}
use Rattle.std.proofs.lemmas.Nat.{div-add-mod', div_below, mod_below}
use Rattle.std.proofs.Math.IntN.{+ℤ_idr}
use Rattle.std.proofs.Math.Nat.{mul-le-mul_left}
use Rattle.std.specs.List.{list_any, range_with_len}
use Rattle.std.specs.Prelude.{option_map}
use Rattle.svga_cmd.specs.Pages.{HasPage, Memory}
use Rattle.svga_cmd.specs.declared.blit.Blit.{Blit}
use Rattle.svga_cmd.specs.declared.gmrfb.Gmrfb.{Gmrfb}
use Rattle.svga_cmd.specs.declared.page.PageKey.{PageKey}
use Rattle.svga_cmd.specs.declared.screen.ScreenDef.{ScreenDef}
use Rattle.svga_model.proofs.PaintedMembers.{range_has}
use Rattle.svga_model.proofs.PaintedPixels.{blit_pixel_has}
use Rattle.svga_model.specs.BlitFaults.{is_on_unmapped, is_outside, some_byte}
use Rattle.svga_model.specs.BlitPixels.{BlitPixel, ScreenPixel, blit_offset, blit_pixels, covers, is_in_rect}
use Rattle.svga_model.specs.Colours.{pixel_length}
use Rattle.svga_model.specs.Members.{IsIn}
use Rattle.svga_model.specs.RegionBytes.{is_beyond, page_of_byte}
use Rattle.svga_model.specs.Regions.{Places}
use Rattle.svga_transfer.proofs.ListLaws.{none_passes}
use Rattle.svga_model.proofs.PixelSteps.{offset_steps, some_bytes}
use Rattle.svga_transfer.specs.Reach.{AreMapped, HasBytes, HasPages}

-- the number of a byte of the region, on a mapped place
pub record IsReached (places : Places) (z : ℤ) : Type 0 where
  pub within : is_outside places z ≡ false
  pub mapped : is_on_unmapped places z ≡ false

module _ (definitions : ℕ → Option ScreenDef) (g : Gmrfb) (b : Blit) where
  abbrev pixel_at : ℤ → ℤ → BlitPixel
  pixel_at X Y = record { x = X; y = Y; offset = blit_offset g b X Y }

  abbrev passes : (ℤ → Bool) → BlitPixel → Bool
  passes test p = list_any (λ j. test (p.offset +ℤ pos j)) (range_with_len 0 (pixel_length g.format))

  -- no byte of a pixel of the blit passes a test that no byte of the blit does
  no_byte : (test : ℤ → Bool) → some_byte definitions g b test ≡ false → (X Y : ℤ) (s : ScreenPixel)
      → is_in_rect b.rect X Y ≡ true → IsIn s (covers definitions b.screen X Y)
      → (j : ℕ) → j < pixel_length g.format → test (blit_offset g b X Y +ℤ pos j) ≡ false
  unfolding some_byte
  no_byte test none X Y s inside covered j l =
      let of_pixel = none_passes (passes test) (blit_pixels definitions g b) (pixel_at X Y) none
      (blit_pixel_has definitions g b X Y s inside covered) in
      none_passes (λ j. test (blit_offset g b X Y +ℤ pos j)) (range_with_len 0 (pixel_length g.format)) j of_pixel
      (range_has 0 (pixel_length g.format) j (omega arith) (omega arith))

  -- so each byte of such a pixel is one of the region's, on a mapped place, where the blit may be done
  pub byte_reached : (places : Places) → AreMapped definitions g b places → (X Y : ℤ) (s : ScreenPixel)
      → is_in_rect b.rect X Y ≡ true → IsIn s (covers definitions b.screen X Y)
      → (j : ℕ) → j < pixel_length g.format → IsReached places (blit_offset g b X Y +ℤ pos j)
  byte_reached places are X Y s inside covered j l = record {
    within = no_byte (is_outside places) are.within X Y s inside covered j l;
    mapped = no_byte (is_on_unmapped places) are.mapped X Y s inside covered j l;
  }

-- the page of a byte that is neither outside nor on an unmapped place is there
page_there : (m : Memory) (o : Option PageKey) (negative beyond : Bool) → (negative || beyond) ≡ false
    → (not negative && (not beyond && is_none o)) ≡ false → IfSome o (HasPage m) → IsSomeAnd o (HasPage m)
page_there m (Some key) negative beyond inside mapped has = has
page_there m None false false inside mapped has = absurd (cc)
page_there m None false true inside mapped has = absurd (cc)
page_there m None true beyond inside mapped has = absurd (cc)

-- so many pixels from place (X, Y) to the right, of which each byte is reached
module _ (g : Gmrfb) (b : Blit) (places : Places) (X Y : ℤ) (count : ℕ)
    (each : (k : ℕ) → k < count → (j : ℕ) → j < pixel_length g.format
    → IsReached places (blit_offset g b (X +ℤ pos k) Y +ℤ pos j)) where
  abbrev n : ℕ
  n = pixel_length g.format

  -- each byte behind the first is reached
  row_reached : (o : ℕ) → o < count * n → IsReached places (blit_offset g b X Y +ℤ pos o)
  row_reached o l =
      let some = some_bytes g.format in
      let k = o / n in
      let j = o % n in
      let at : blit_offset g b (X +ℤ pos k) Y +ℤ pos j ≡ blit_offset g b X Y +ℤ pos o =
      ap (λ z. z +ℤ pos j) (offset_steps g b X Y k)
      ∙ further (blit_offset g b X Y) (k * n) j o (div-add-mod' o n) in
      subst (IsReached places) at (each k (div_below o n count some l) j (mod_below o n some))
    where
      further : (w : ℤ) (a b c : ℕ) → a + b ≡ c → w +ℤ pos a +ℤ pos b ≡ w +ℤ pos c
      further w a b c e = omega (arith, ints)

  -- the first is one of the region's
  pub row_within : 0 < count → is_outside places (blit_offset g b X Y) ≡ false
  row_within some =
      let first = row_reached 0 (some_of count n some (some_bytes g.format)) in
      ap (is_outside places) (sym (+ℤ_idr (blit_offset g b X Y))) ∙ first.within
    where
      some_of : (a c : ℕ) → 0 < a → 0 < c → 0 < a * c
      some_of a c l k = grind (arith, mul-le-mul_left)

  -- and the memory has all of them where it has the pages of all mapped places
  pub row_there : (m : Memory) (i : ℕ) → HasPages m places → pos i ≡ blit_offset g b X Y
      → HasBytes m places i (count * n)
  row_there m i has begins h low high =
      let o = h - i in
      let at : blit_offset g b X Y +ℤ pos o ≡ pos h = steps (blit_offset g b X Y) begins in
      let is = subst (IsReached places) at (row_reached o (omega arith)) in
      page_there m (page_of_byte places h) (int_lt (pos h) (pos 0)) (is_beyond places h) is.within is.mapped
      (has (h / 4096))
    where
      steps : (z : ℤ) → pos i ≡ z → z +ℤ pos (h - i) ≡ pos h
      steps z e = omega (arith, ints, low)

-- a number that is none outside a region whose length fits 32 bits fits 64 bits
pub start_fits : (known : Option Places) (n : Option ℕ) (z : ℤ) → n ≡ option_map length known
    → IfSome n (λ k. k < 2 ^ 32) → is_outside (unwrap_or known []) z ≡ false
    → (pos 0 ≤ℤ z) × (unsigned_abs z < 2 ^ 64)
start_fits None n z e small within = grind (arith, ints, nat_tests)
start_fits (Some places) n z e small within =
    let few : length places < 2 ^ 32 = subst (λ o. IfSome o (λ k. k < 2 ^ 32)) e small in
    number_fits (length places) z few within
  where
    number_fits : (n : ℕ) (z : ℤ) → n < 2 ^ 32
        → (int_lt z (pos 0) || nat_le (4096 * n) (unsigned_abs z)) ≡ false
        → (pos 0 ≤ℤ z) × (unsigned_abs z < 2 ^ 64)
    number_fits n z few h = (grind (arith, ints, nat_tests), grind (arith, ints, nat_tests))
