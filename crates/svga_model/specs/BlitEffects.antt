-- What the commands that move pixels do to screens and to a region's bytes.
use Rattle.std.specs.Prelude.{ℕ, ◌+◌, ◌*◌, pos, ◌+ℤ◌, unsigned_abs, List, [], ◌∷◌, map as map_list, slice_index, ◌&&◌, if◌then◌else◌, Option, Some, None, option_map, unwrap_or}
use Rattle.std.specs.FinMap as map
use Rattle.std.specs.List.{flat_map, range_with_len}
use Rattle.svga_cmd.specs.declared.blit.Blit.{Blit}
use Rattle.svga_cmd.specs.declared.constants.TheConstants.{SCREEN_IDS}
use Rattle.svga_cmd.specs.declared.format.Format.{Format}
use Rattle.svga_cmd.specs.declared.format.Format.TheVariants.{Bgrx32}
use Rattle.svga_cmd.specs.declared.gmrfb.Gmrfb.{Gmrfb}
use Rattle.svga_cmd.specs.declared.limits.Limits.{Limits}
use Rattle.svga_cmd.specs.declared.screen.ScreenDef.{ScreenDef}
use Rattle.svga_model.specs.BlitPixels.{ScreenPixel, blit_offset, blit_pixels, corner_x, corner_y, covers, is_in_area, is_in_rect, is_meant}
use Rattle.svga_model.specs.Colours.{bytes_of, colour_of, pixel_length}
use Rattle.svga_model.specs.Memories.{ByteWrite, writes_from}
use Rattle.svga_model.specs.Screens.{Screen, Screens, definitions_of, row_at}
use Rattle.svga_model.specs.Tabulated.{tabulated}

-- the colour of the pixel whose bytes begin at byte i of a region
abbrev pub colour_at : (ℕ → ℕ) → Format → ℕ → ℕ
colour_at bytes format i = colour_of format (map_list bytes (range_with_len i (pixel_length format)))

-- the colour that a blit to the screen gives to pixel (x, y) of the screen with this id, if it gives it one
abbrev pub blit_colour : (ℕ → ℕ) → Gmrfb → Blit → ℕ → ScreenDef → ℕ → ℕ → Option ℕ
blit_colour bytes g b id d x y =
    let X = corner_x b.screen d +ℤ pos x in
    let Y = corner_y b.screen d +ℤ pos y in
    if is_meant b.screen id && is_in_rect b.rect X Y then
    Some (colour_at bytes g.format (unsigned_abs (blit_offset g b X Y))) else None

-- the colour that an UPDATE gives to pixel (x, y) of a screen, if it gives it one: that of the
-- framebuffer's pixel at its virtual point
abbrev pub update_colour : (ℕ → ℕ) → Limits → ℕ → ℕ → ℕ → ℕ → ScreenDef → ℕ → ℕ → Option ℕ
update_colour bytes l left top width height d x y =
    let X = d.x +ℤ pos x in
    let Y = d.y +ℤ pos y in
    if is_in_area (pos left) (pos top) width height X Y
    && is_in_area (pos 0) (pos 0) l.gfb_width l.gfb_height X Y
    then Some (colour_at bytes Bgrx32 (4 * (unsigned_abs Y * l.gfb_width + unsigned_abs X))) else None

-- a picture whose pixels have new colours where there are any
abbrev pub repainted : (ℕ → ℕ → Option ℕ) → Screen → Screen
repainted colour s = record s {
  rows = map_list
      (λ y. map_list (λ x. unwrap_or (colour x y) (slice_index (row_at s y) x))
      (range_with_len 0 s.def.width)) (range_with_len 0 s.def.height);
}

-- for each pixel of each screen its new colour, if it gets one
abbrev pub NewColours : Type 0
NewColours = ℕ → ScreenDef → ℕ → ℕ → Option ℕ

-- each screen with its new colours; ids end at 15
unfoldable pub repainted_screens : NewColours → Screens → Screens
repainted_screens colour screens =
    tabulated SCREEN_IDS (λ id. option_map (λ s. repainted (colour id s.def) s) (map.get screens id))

-- the colour of pixel (x, y) of a screen, 0 where there is none
abbrev pub colour_on : Option Screen → ℕ → ℕ → ℕ
colour_on None x y = 0
colour_on (Some s) x y = slice_index (row_at s y) x

-- the colour of the first of these pixels, 0 where there is none
abbrev pub first_colour : Screens → List ScreenPixel → ℕ
first_colour screens [] = 0
first_colour screens (p ∷ ps) = colour_on (map.get screens p.screen) p.x p.y

-- What a blit back writes: for each of its pixels in order the bytes of the colour there, which is that of
-- the covering screen with the least id.
unfoldable pub blit_writes : Screens → Gmrfb → Blit → List ByteWrite
blit_writes screens g b =
    let definitions = definitions_of screens in
    flat_map (λ p.
    writes_from (unsigned_abs p.offset)
    (bytes_of g.format (first_colour screens (covers definitions b.screen p.x p.y))))
    (blit_pixels definitions g b)
