-- The pixels of a blit. Coordinates are whole numbers, so that no sum or product wraps.
use Rattle.std.specs.Prelude.{ℕ, ℤ, pos, ◌+ℤ◌, ◌-ℤ◌, ◌*ℤ◌, int_lt, int_le, unsigned_abs, List, [], ◌∷◌, map, Bool, ◌==◌, ◌&&◌, ◌||◌, if◌then◌else◌, Option, Some, None}
use Rattle.std.specs.Int.{int_gap}
use Rattle.std.specs.List.{filter_map, flat_map, range_with_len}
use Rattle.svga_cmd.specs.declared.blit.Blit.{Blit}
use Rattle.svga_cmd.specs.declared.blit.Rect.{Rect}
use Rattle.svga_cmd.specs.declared.constants.TheConstants.{SCREEN_IDS, SVGA_ID_INVALID}
use Rattle.svga_cmd.specs.declared.gmrfb.Gmrfb.{Gmrfb}
use Rattle.svga_cmd.specs.declared.screen.ScreenDef.{ScreenDef}
use Rattle.svga_model.specs.Colours.{pixel_length}

-- point (X, Y) lies in the rectangle
abbrev pub is_in_rect : Rect → ℤ → ℤ → Bool
is_in_rect r X Y = int_le r.left X && int_lt X r.right && int_le r.top Y && int_lt Y r.bottom

-- where a screen's left top corner lies: at its root in virtual coordinates, and at (0, 0) in its own
abbrev pub corner_x : ℕ → ScreenDef → ℤ
corner_x screen d = if screen == SVGA_ID_INVALID then d.x else pos 0

abbrev pub corner_y : ℕ → ScreenDef → ℤ
corner_y screen d = if screen == SVGA_ID_INVALID then d.y else pos 0

-- a point of the area that begins at (x, y)
abbrev pub is_in_area : ℤ → ℤ → ℕ → ℕ → ℤ → ℤ → Bool
is_in_area x y width height X Y =
    int_le x X && int_lt X (x +ℤ pos width) && int_le y Y && int_lt Y (y +ℤ pos height)

-- a screen's pixel
pub record ScreenPixel : Type 0 where
  pub screen : ℕ
  pub x : ℕ
  pub y : ℕ

-- the screen with this id is meant
abbrev pub is_meant : ℕ → ℕ → Bool
is_meant screen id = screen == SVGA_ID_INVALID || screen == id

-- the pixel of this screen at point (X, Y), if the screen is meant and lies there
abbrev pub covered_on : Option ScreenDef → ℕ → ℕ → ℤ → ℤ → Option ScreenPixel
covered_on None id screen X Y = None
covered_on (Some d) id screen X Y =
    let x = corner_x screen d in
    let y = corner_y screen d in
    if is_meant screen id && is_in_area x y d.width d.height X Y
    then Some (record { screen = id; x = unsigned_abs (X -ℤ x); y = unsigned_abs (Y -ℤ y) }) else None

-- the screens' pixels that point (X, Y) covers, by ascending id
abbrev pub covers : (ℕ → Option ScreenDef) → ℕ → ℤ → ℤ → List ScreenPixel
covers definitions screen X Y =
    filter_map (λ id. covered_on (definitions id) id screen X Y) (range_with_len 0 SCREEN_IDS)

-- where the bytes of the GMRFB's pixel for point (X, Y) begin in its region
abbrev pub blit_offset : Gmrfb → Blit → ℤ → ℤ → ℤ
blit_offset g b X Y =
    let x = b.point.x +ℤ (X -ℤ b.rect.left) in
    let y = b.point.y +ℤ (Y -ℤ b.rect.top) in
    pos g.offset +ℤ (y *ℤ pos g.pitch) +ℤ (x *ℤ pos (pixel_length g.format))

-- a pixel of a blit: its point, and where its bytes begin
pub record BlitPixel : Type 0 where
  pub x : ℤ
  pub y : ℤ
  pub offset : ℤ

-- the whole numbers from one up to below another
abbrev pub int_range : ℤ → ℤ → List ℤ
int_range from to = map (λ k. from +ℤ pos k) (range_with_len 0 (int_gap from to))

-- the pixel at a point whose screen pixels are these: there is one where there are any
abbrev pub pixel_there : List ScreenPixel → BlitPixel → Option BlitPixel
pixel_there [] p = None
pixel_there (s ∷ ss) p = Some p

abbrev pub blit_pixel : (ℕ → Option ScreenDef) → Gmrfb → Blit → ℤ → ℤ → Option BlitPixel
blit_pixel definitions g b X Y =
    pixel_there (covers definitions b.screen X Y) (record { x = X; y = Y; offset = blit_offset g b X Y })

-- the pixels of a blit, from the top down and along each row from the left
abbrev pub blit_pixels : (ℕ → Option ScreenDef) → Gmrfb → Blit → List BlitPixel
blit_pixels definitions g b =
    flat_map (λ Y. filter_map (λ X. blit_pixel definitions g b X Y) (int_range b.rect.left b.rect.right))
    (int_range b.rect.top b.rect.bottom)
