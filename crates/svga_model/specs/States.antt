-- The state of a device: its pages, and what it keeps beside them.
use Rattle.std.specs.Prelude.{ℕ, ◌-◌, List, ◌++◌, map as map_list, replicate, Option, None}
use Rattle.std.specs.FinMap as map
use Rattle.std.specs.List.{range_with_len}
use Rattle.svga_cmd.specs.Limits.{frame_page_count}
use Rattle.svga_cmd.specs.Pages.{Memory}
use Rattle.svga_cmd.specs.declared.constants.TheConstants.{PAGE_SIZE}
use Rattle.svga_cmd.specs.declared.gmrfb.Gmrfb.{Gmrfb}
use Rattle.svga_cmd.specs.declared.limits.Limits.{Limits}
use Rattle.svga_cmd.specs.declared.page.PageKey.{PageKey}
use Rattle.svga_cmd.specs.declared.page.PageKey.TheVariants.{Guest, Frame}
use Rattle.svga_cmd.specs.declared.screen.ScreenDef.{ScreenDef}
use Rattle.svga_model.specs.Regions.{Regions}
use Rattle.svga_model.specs.Screens.{Screens, definitions_of}

-- all of the state but its pages; the limits never change
pub record Kept : Type 0 where
  pub limits : Limits
  pub regions : Regions
  pub gmrfb : Option Gmrfb
  pub screens : Screens
  pub fence : ℕ

-- The state. Its memory may be cut down to some of the device's pages.
pub record State : Type 0 where
  pub kept : Kept
  pub memory : Memory

-- what is asked of a state before a command, beside bytes: no picture and no fence
pub record Shape : Type 0 where
  pub limits : Limits
  pub regions : Regions
  pub gmrfb : Option Gmrfb
  pub definitions : ℕ → Option ScreenDef

abbrev pub shape_of : Kept → Shape
shape_of k =
    record { limits = k.limits; regions = k.regions; gmrfb = k.gmrfb; definitions = definitions_of k.screens }

-- how many pages the guest framebuffer has
abbrev pub frame_pages : Kept → ℕ
frame_pages k = frame_page_count k.limits

-- the keys of all pages
abbrev pub all_keys : Limits → List PageKey
all_keys l =
    map_list Guest (range_with_len 0 l.pages) ++ map_list Frame (range_with_len 0 (frame_page_count l))

-- a memory of all pages, each of zeros
unfoldable pub opening_memory : Limits → Memory
opening_memory l = map.from_entries (map_list (λ key. (key, replicate PAGE_SIZE 0)) (all_keys l))

-- no region but the framebuffer's, no GMRFB, no screen, and the number below
-- the first fence's, which is 1 or more
abbrev pub opening_kept : Limits → ℕ → Kept
opening_kept l first =
    record { limits = l; regions = map.empty; gmrfb = None; screens = map.empty; fence = first - 1 }

abbrev pub opening_state : Limits → ℕ → State
opening_state l first = record { kept = opening_kept l first; memory = opening_memory l }

-- the state with other regions
abbrev pub with_regions : State → Regions → State
with_regions s regions = record s { kept = record s.kept { regions = regions } }

-- the state with other screens
abbrev pub with_screens : State → Screens → State
with_screens s screens = record s { kept = record s.kept { screens = screens } }
