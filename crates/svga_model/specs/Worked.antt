-- States and commands of worked examples, with which the definitions of faults and steps are compared.
use Rattle.std.specs.Prelude.{◌≡◌, ℕ, ◌+◌, ◌*◌, pos, List, length, map as map_list, ◌==◌, if◌then◌else◌, Option, Some, None}
use Rattle.std.specs.FinMap as map
use Rattle.std.specs.List.{range_with_len}
use Rattle.svga_cmd.specs.declared.blit.Blit.{Blit}
use Rattle.svga_cmd.specs.declared.blit.Rect.{Rect}
use Rattle.svga_cmd.specs.declared.command.Command.{Command}
use Rattle.svga_cmd.specs.declared.command.Command.TheVariants.{BlitToGmrfb, BlitToScreen, DefineGmr2, RemapGmr2, Update}
use Rattle.svga_cmd.specs.declared.constants.TheConstants.{SVGA_ID_INVALID}
use Rattle.svga_cmd.specs.declared.format.Format.TheVariants.{Bgr24}
use Rattle.svga_cmd.specs.declared.gmrfb.Gmrfb.{Gmrfb}
use Rattle.svga_cmd.specs.declared.remap.RemapData.TheVariants.{SinglePpn32, ViaGmr32, ViaGmr64}
use Rattle.svga_cmd.specs.declared.screen.ScreenDef.{ScreenDef}
use Rattle.svga_model.specs.Acts.{Do}
use Rattle.svga_model.specs.BlitEffects.{colour_on}
use Rattle.svga_model.specs.BlitExamples.{corner_blit, gmrfb, screen_def, two_screens, virtual_blit}
use Rattle.svga_model.specs.Memories.{region_byte}
use Rattle.svga_model.specs.Regions.{Places, places_of}
use Rattle.svga_model.specs.Screens.{definitions_of, row_of}
use Rattle.svga_model.specs.States.{State, frame_pages}
use Rattle.svga_model.specs.Steps.{step}
use Rattle.svga_model.specs.Walks.{word_at}

-- the state after a command
abbrev pub after : State → Command → State
after s c = step s (Do c)

-- the colour of pixel (x, y) of the screen with this id
abbrev pub shown_at : State → ℕ → ℕ → ℕ → ℕ
shown_at s id x y = colour_on (map.get s.kept.screens id) x y

-- the colour whose blue, green and red stand one behind another from byte i on
abbrev pub colour_from : (ℕ → ℕ) → ℕ → ℕ
colour_from bytes i = 65536 * bytes (i + 2) + 256 * bytes (i + 1) + bytes i

-- what a blit begins with: the GMRFB, the places of its region, and the screens' definitions
pub record IsSetUp (s : State) (g : Gmrfb) (places : Places)
    (definitions : ℕ → Option ScreenDef) : Type 0 where
  pub gmrfb : s.kept.gmrfb ≡ Some g
  pub region : places_of (frame_pages s.kept) s.kept.regions g.region ≡ Some places
  pub screens : definitions_of s.kept.screens ≡ definitions

-- the state after the blit to a corner
abbrev pub after_corner : State → State
after_corner s = after s (BlitToScreen corner_blit)

-- two screens that share a point, and the first four colours of the GMRFB's row 0
pub record AreOverlapping (s : State) (places : Places) (a b c d : ℕ) : Type 0 where
  pub set_up : IsSetUp s gmrfb places two_screens
  pub first : colour_from (region_byte s.memory places) 0 ≡ a
  pub second : colour_from (region_byte s.memory places) 4 ≡ b
  pub third : colour_from (region_byte s.memory places) 8 ≡ c
  pub fourth : colour_from (region_byte s.memory places) 12 ≡ d

-- the colours of row 0 of screens 0 and 1
pub record AreShown (s : State) (on_0 on_1 : List ℕ) : Type 0 where
  pub screen_0 : row_of s.kept.screens 0 0 ≡ Some on_0
  pub screen_1 : row_of s.kept.screens 1 0 ≡ Some on_1

-- a rectangle of this size at (0, 0)
abbrev pub rect_of : ℕ → ℕ → Rect
rect_of width height = record { left = pos 0; top = pos 0; right = pos width; bottom = pos height }

-- from GMRFB pixel (3, 0) to pixel (0, 0) of screen 1
abbrev pub inner_blit : Blit
inner_blit = record { point = record { x = pos 3; y = pos 0 }; rect = rect_of 1 1; screen = 1 }

-- between the points that two screens cover and row 1 of the GMRFB
abbrev pub lower_blit : Blit
lower_blit = record { point = record { x = pos 0; y = pos 1 }; rect = rect_of 3 1; screen = SVGA_ID_INVALID }

-- the state after a blit to both screens, one to screen 1, and one back from both
abbrev pub after_both : State → State
after_both s = after s (BlitToScreen virtual_blit)

abbrev pub after_inner : State → State
after_inner s = after (after_both s) (BlitToScreen inner_blit)

abbrev pub after_back : State → State
after_back s = after (after_inner s) (BlitToGmrfb lower_blit)

-- region 1 of two places
abbrev pub define_two : Command
define_two = DefineGmr2 1 2

-- both of its places are page 4
abbrev pub remap_both : Command
remap_both = RemapGmr2 1 0 2 (SinglePpn32 4)

-- the state after both
abbrev pub after_remap : State → State
after_remap s = after (after s define_two) remap_both

-- region 1 has these places, and begins with these words of 32 bits
pub record BeginsWith (s : State) (places : Places) (words : List ℕ) : Type 0 where
  pub region : map.get s.kept.regions 1 ≡ Some places
  pub each : map_list (λ k. word_at (region_byte s.memory places) (4 * k)) (range_with_len 0 (length words))
      ≡ words

-- both places are the pages whose numbers stand in the region's own first bytes
abbrev pub remap_by_own : Command
remap_by_own = RemapGmr2 1 0 2 (ViaGmr32 (record { region = 1; offset = 0 }))

-- the same with numbers of 64 bits
abbrev pub remap_by_own_64 : Command
remap_by_own_64 = RemapGmr2 1 0 2 (ViaGmr64 (record { region = 1; offset = 0 }))

-- pixels of three bytes, of which the first lies across two pages
abbrev pub split_gmrfb : Gmrfb
split_gmrfb = record { region = 1; offset = 4095; pitch = 64; format = Bgr24 }

-- screen 0 alone, of one pixel
abbrev pub one_pixel : ℕ → Option ScreenDef
one_pixel id = if id == 0 then Some (screen_def 0 1 1 (pos 0) (pos 0)) else None

-- from GMRFB pixel (0, 0) to that pixel
abbrev pub pixel_blit : Blit
pixel_blit = record { point = record { x = pos 0; y = pos 0 }; rect = rect_of 1 1; screen = 0 }

-- that GMRFB and that screen
pub record IsSplit (s : State) : Type 0 where
  pub gmrfb : s.kept.gmrfb ≡ Some split_gmrfb
  pub screens : definitions_of s.kept.screens ≡ one_pixel

-- screen 0 alone, of 2 by 2 pixels
abbrev pub small_screen : ℕ → Option ScreenDef
small_screen id = if id == 0 then Some (screen_def 0 2 2 (pos 0) (pos 0)) else None

-- a framebuffer of 2 by 2 pixels, and a screen that shows it
pub record IsSmall (s : State) : Type 0 where
  pub width : s.kept.limits.gfb_width ≡ 2
  pub height : s.kept.limits.gfb_height ≡ 2
  pub screens : definitions_of s.kept.screens ≡ small_screen

-- the colours of the two rows of screen 0
pub record AreRows (s : State) (upper lower : List ℕ) : Type 0 where
  pub upper_row : row_of s.kept.screens 0 0 ≡ Some upper
  pub lower_row : row_of s.kept.screens 0 1 ≡ Some lower

-- the state after an UPDATE of all but the left column, and far past the right and lower edges
abbrev pub after_update : State → State
after_update s = after s (Update 1 0 9 9)
