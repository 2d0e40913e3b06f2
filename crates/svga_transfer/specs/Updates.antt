-- UPDATE as a blit: the guest framebuffer is a GMRFB whose places are those of virtual coordinates.
use Rattle.std.specs.Prelude.{ℕ, ◌+◌, ◌*◌, pos, nat_le, if◌then◌else◌}
use Rattle.svga_cmd.specs.declared.blit.Blit.{Blit}
use Rattle.svga_cmd.specs.declared.constants.TheConstants.{SVGA_GMR_FRAMEBUFFER, SVGA_ID_INVALID}
use Rattle.svga_cmd.specs.declared.format.Format.TheVariants.{Bgrx32}
use Rattle.svga_cmd.specs.declared.gmrfb.Gmrfb.{Gmrfb}
use Rattle.svga_cmd.specs.declared.limits.Limits.{Limits}

-- the guest framebuffer's pixels, row behind row
abbrev pub frame_gmrfb : Limits → Gmrfb
frame_gmrfb l = record { region = SVGA_GMR_FRAMEBUFFER; offset = 0; pitch = 4 * l.gfb_width; format = Bgrx32 }

-- a number, or the end where it lies past it
abbrev pub up_to : ℕ → ℕ → ℕ
up_to end n = if nat_le n end then n else end

-- the blit of the part of an UPDATE's rectangle that lies on the guest framebuffer, to all screens
abbrev pub update_blit : Limits → ℕ → ℕ → ℕ → ℕ → Blit
update_blit l x y width height = record {
  point = record { x = pos (up_to l.gfb_width x); y = pos (up_to l.gfb_height y) };
  rect = record {
    left = pos (up_to l.gfb_width x);
    top = pos (up_to l.gfb_height y);
    right = pos (up_to l.gfb_width (x + width));
    bottom = pos (up_to l.gfb_height (y + height));
  };
  screen = SVGA_ID_INVALID;
}
