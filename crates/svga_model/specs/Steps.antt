-- What an admissible act leaves. What isn't named stays.
use Rattle.std.specs.Prelude.{ℕ, List, ◌==◌, if◌then◌else◌, Option, Some, None}
use Rattle.svga_cmd.specs.declared.blit.Blit.{Blit}
use Rattle.svga_cmd.specs.declared.command.Command.{Command}
use Rattle.svga_cmd.specs.declared.command.Command.TheVariants.{Update, Fence, DefineScreen, DestroyScreen, DefineGmrfb, BlitToScreen, BlitToGmrfb, DefineGmr2, RemapGmr2}
use Rattle.svga_cmd.specs.declared.constants.TheConstants.{SVGA_GMR_NULL}
use Rattle.svga_cmd.specs.declared.gmrfb.Gmrfb.{Gmrfb}
use Rattle.svga_cmd.specs.declared.remap.RemapData.{RemapData}
use Rattle.svga_model.specs.Acts.{Act, Do, Put, Chain}
use Rattle.svga_model.specs.BlitEffects.{NewColours, blit_colour, blit_writes, repainted_screens, update_colour}
use Rattle.svga_model.specs.Memories.{region_byte, with_page, written}
use Rattle.svga_model.specs.PointedNumbers.{Pointed, numbers_at, pointed}
use Rattle.svga_model.specs.Regions.{Places, frame_places, range_pages, region_places, with_region, with_remap}
use Rattle.svga_model.specs.Screens.{with_screen, without_screen}
use Rattle.svga_model.specs.States.{State, frame_pages, with_regions, with_screens}
use Rattle.svga_model.specs.Walks.{tables_of, with_chain}

-- the places of the GMRFB's region, none where it isn't defined
abbrev pub places_for : State → Gmrfb → Places
places_for s g = region_places (frame_pages s.kept) s.kept.regions g.region

-- the colours that the guest framebuffer has in this part of virtual coordinates
abbrev pub updated_colours : State → ℕ → ℕ → ℕ → ℕ → NewColours
updated_colours s x y width height =
    λ id. update_colour
    (region_byte s.memory (frame_places (frame_pages s.kept))) s.kept.limits x y width height

-- UPDATE: the screens show them
abbrev pub updated : State → ℕ → ℕ → ℕ → ℕ → State
updated s x y width height =
    with_screens s (repainted_screens (updated_colours s x y width height) s.kept.screens)

-- the GMRFB, or none where its region's id stands for none
abbrev pub new_gmrfb : Gmrfb → Option Gmrfb
new_gmrfb g = if g.region == SVGA_GMR_NULL then None else Some g

-- the colours that the GMRFB has for the pixels of a blit
abbrev pub shown_colours : State → Gmrfb → Blit → NewColours
shown_colours s g b = blit_colour (region_byte s.memory (places_for s g)) g b

-- BLIT_GMRFB_TO_SCREEN: the screens show them
abbrev pub shown : State → Option Gmrfb → Blit → State
shown s None b = s
shown s (Some g) b = with_screens s (repainted_screens (shown_colours s g b) s.kept.screens)

-- BLIT_SCREEN_TO_GMRFB: the GMRFB has what the screens show
abbrev pub read_back : State → Option Gmrfb → Blit → State
read_back s None b = s
read_back s (Some g) b =
    record s { memory = written (places_for s g) s.memory (blit_writes s.kept.screens g b) }

-- the page number for each place of a remap's range, named or read
abbrev pub remap_pages : State → RemapData → Option Pointed → ℕ → List ℕ
remap_pages s entries None pages = range_pages entries pages
remap_pages s entries (Some at) pages = numbers_at (frame_pages s.kept) s.kept.regions s.memory at pages

abbrev pub command_step : State → Command → State
command_step s (Update x y width height) = updated s x y width height
command_step s (Fence value) = record s { kept = record s.kept { fence = value } }
command_step s (DefineScreen d) = with_screens s (with_screen s.kept.screens d)
command_step s (DestroyScreen id) = with_screens s (without_screen s.kept.screens id)
command_step s (DefineGmrfb g) = record s { kept = record s.kept { gmrfb = new_gmrfb g } }
command_step s (BlitToScreen b) = shown s s.kept.gmrfb b
command_step s (BlitToGmrfb b) = read_back s s.kept.gmrfb b
command_step s (DefineGmr2 region pages) = with_regions s (with_region s.kept.regions region pages)
command_step s (RemapGmr2 region offset pages entries) =
    with_regions s (with_remap s.kept.regions region offset (remap_pages s entries (pointed entries) pages))

-- the state after an admissible act
abbrev pub step : State → Act → State
step s (Do c) = command_step s c
step s (Put key bytes) = record s { memory = with_page s.memory key bytes }
step s (Chain id first) =
    with_regions s (with_chain s.kept.limits.pages s.kept.regions (tables_of s.memory) id first)
