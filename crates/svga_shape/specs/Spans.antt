-- Rules on the bytes of a region, and where a span of bytes or a screen's part of a blit breaks one.
use Rattle.std.specs.Prelude.{ℕ, ℤ, pos, ◌+ℤ◌, Bool, false, ◌&&◌, Option, Some, None}
use Rattle.std.specs.List.{list_any, range_with_len}
use Rattle.svga_cmd.specs.declared.blit.Blit.{Blit}
use Rattle.svga_cmd.specs.declared.gmrfb.Gmrfb.{Gmrfb}
use Rattle.svga_cmd.specs.declared.screen.ScreenDef.{ScreenDef}
use Rattle.svga_model.specs.BlitFaults.{is_on_unmapped, is_outside}
use Rattle.svga_model.specs.BlitPixels.{blit_offset, corner_x, corner_y, is_in_rect, is_meant}
use Rattle.svga_model.specs.Colours.{pixel_length}
use Rattle.svga_model.specs.Regions.{Places}
use Rattle.svga_shape.specs.declared.span.ByteRule.{ByteRule}
use Rattle.svga_shape.specs.declared.span.ByteRule.TheVariants.{Unmapped, Beyond}

-- a byte with this number breaks the rule, in a region with these places
abbrev pub breaks : ByteRule → Places → ℤ → Bool
breaks Unmapped places i = is_on_unmapped places i
breaks Beyond places i = is_outside places i

-- one of so many bytes from a number on passes a test
unfoldable pub some_in_span : (ℤ → Bool) → ℤ → ℕ → Bool
some_in_span test from count = list_any (λ k. test (from +ℤ pos k)) (range_with_len 0 count)

-- a byte of the pixel for place (X, Y) passes it, where the place is one of the blit's
abbrev pub pixel_passes : (ℤ → Bool) → Gmrfb → Blit → ℤ → ℤ → Bool
pixel_passes test g b X Y = is_in_rect b.rect X Y && some_in_span test (blit_offset g b X Y)
    (pixel_length g.format)

-- a byte of so many pixels from place (X, Y) to the right passes it
unfoldable pub row_passes : (ℤ → Bool) → Gmrfb → Blit → ℤ → ℕ → ℤ → Bool
row_passes test g b X width Y = list_any (λ u. pixel_passes test g b (X +ℤ pos u) Y) (range_with_len 0 width)

-- a byte of the area whose left top corner is at (X, Y) passes it
unfoldable pub area_passes : (ℤ → Bool) → Gmrfb → Blit → ℤ → ℤ → ℕ → ℕ → Bool
area_passes test g b X Y width height =
    list_any (λ v. row_passes test g b X width (Y +ℤ pos v)) (range_with_len 0 height)

-- a byte of the screen with this id passes it, where the screen is meant
abbrev pub screen_passes : (ℤ → Bool) → Gmrfb → Blit → ℕ → Option ScreenDef → Bool
screen_passes test g b id None = false
screen_passes test g b id (Some d) =
    is_meant b.screen id && area_passes test g b (corner_x b.screen d) (corner_y b.screen d) d.width d.height
