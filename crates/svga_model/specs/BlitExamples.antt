-- Three worked blits, with which the definition of a blit's pixels is compared.
use Rattle.std.specs.Prelude.{ℕ, ℤ, pos, negsuc, ◌==◌, if◌then◌else◌, Option, Some, None}
use Rattle.svga_cmd.specs.declared.blit.Blit.{Blit}
use Rattle.svga_cmd.specs.declared.constants.TheConstants.{SVGA_ID_INVALID}
use Rattle.svga_cmd.specs.declared.format.Format.TheVariants.{Bgrx32, Bgr24}
use Rattle.svga_cmd.specs.declared.gmrfb.Gmrfb.{Gmrfb}
use Rattle.svga_cmd.specs.declared.screen.ScreenDef.{ScreenDef}

abbrev pub screen_def : ℕ → ℕ → ℕ → ℤ → ℤ → ScreenDef
screen_def id width height x y =
    record { id = id; flags = 1; width = width; height = height; x = x; y = y; backing = None }

-- screen 0 alone, of 4 by 4 pixels
abbrev pub one_screen : ℕ → Option ScreenDef
one_screen id = if id == 0 then Some (screen_def 0 4 4 (pos 0) (pos 0)) else None

-- screens 0 and 1, of 2 by 1 pixels each, which share one virtual point
abbrev pub two_screens : ℕ → Option ScreenDef
two_screens id =
    if id == 0 then Some (screen_def 0 2 1 (pos 0) (pos 0)) else
    if id == 1 then Some (screen_def 1 2 1 (pos 1) (pos 0)) else None

-- rows of 100 bytes
abbrev pub gmrfb : Gmrfb
gmrfb = record { region = 1; offset = 0; pitch = 100; format = Bgrx32 }

-- from GMRFB pixel (0, 0) to a rectangle that begins one pixel outside screen 0
abbrev pub corner_blit : Blit
corner_blit = record {
  point = record { x = pos 0; y = pos 0 };
  rect = record { left = negsuc 0; top = negsuc 0; right = pos 2; bottom = pos 2 };
  screen = 0;
}

-- to the points that two screens cover
abbrev pub virtual_blit : Blit
virtual_blit = record {
  point = record { x = pos 0; y = pos 0 };
  rect = record { left = pos 0; top = pos 0; right = pos 3; bottom = pos 1 };
  screen = SVGA_ID_INVALID;
}

-- screen 2 alone, of 3 by 2 pixels, left of the origin and below it
abbrev pub far_screen : ℕ → Option ScreenDef
far_screen id = if id == 2 then Some (screen_def 2 3 2 (negsuc 4) (pos 7)) else None

-- pixels of three bytes, from byte 10 on in rows of 64
abbrev pub narrow_gmrfb : Gmrfb
narrow_gmrfb = record { region = 1; offset = 10; pitch = 64; format = Bgr24 }

-- from GMRFB pixel (2, 3) to a rectangle that begins one pixel outside that screen
abbrev pub far_blit : Blit
far_blit = record {
  point = record { x = pos 2; y = pos 3 };
  rect = record { left = negsuc 5; top = pos 6; right = negsuc 2; bottom = pos 8 };
  screen = SVGA_ID_INVALID;
}
