-- What a rectangle and an area share.
use Rattle.std.specs.Prelude.{◌≡◌, ℕ, ◌+◌, ◌<◌, ◌≤◌, ℤ, pos, ◌+ℤ◌, Bool, nat_le, nat_lt, ◌&&◌}
use Rattle.svga_cmd.specs.declared.blit.Rect.{Rect}
use Rattle.svga_model.specs.BlitPixels.{is_in_rect}
use Rattle.svga_screen.specs.declared.area.Area.{Area}

-- place (u, v) of a screen lies in the area
abbrev pub is_inside : Area → ℕ → ℕ → Bool
is_inside a u v = nat_le a.left u && nat_lt u (a.left + a.width) &&
    (nat_le a.top v && nat_lt v (a.top + a.height))

abbrev pub no_area : Area
no_area = record { screen = 0; left = 0; top = 0; width = 0; height = 0 }

-- the area, in its own coordinates, of what the rectangle shares with an area of these sides whose corner
-- is at (x, y)
pub record IsClip (r : Rect) (x y : ℤ) (width height : ℕ) (a : Area) : Type 0 where
  pub screen : a.screen ≡ 0
  pub wide : a.left + a.width ≤ width
  pub high : a.top + a.height ≤ height
  pub same : (u v : ℕ) → u < width → v < height → is_inside a u v ≡ is_in_rect r (x +ℤ pos u) (y +ℤ pos v)
  -- without a column or a row every number is 0
  pub no_columns : a.width ≡ 0 → a ≡ no_area
  pub no_rows : a.height ≡ 0 → a ≡ no_area
