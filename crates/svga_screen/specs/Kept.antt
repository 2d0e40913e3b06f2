-- How screens are kept: their definitions, and for each id the pixels of its picture, row behind row.
use Rattle.std.specs.Prelude.{◌≡◌, ℕ, ◌+◌, ◌*◌, ◌<◌, List, [], length, map as map_list, All, slice_index_or, slice_range, Option, Some, None}
use Rattle.std.specs.FinMap as map
use Rattle.std.specs.List.{range_with_len}
use Rattle.svga_cmd.specs.declared.constants.TheConstants.{COLOURS, SCREEN_IDS}
use Rattle.svga_cmd.specs.declared.screen.ScreenDef.{ScreenDef}
use Rattle.svga_model.specs.Screens.{Screen, Screens, pixels_of}
use Rattle.svga_model.specs.Tabulated.{tabulated}
use Rattle.svga_screen.specs.Definitions.{AreScreenDefinitions, DefinitionSet}

-- pixels as rows
abbrev pub rows_from : ℕ → ℕ → List ℕ → List (List ℕ)
rows_from width height pixels = map_list (λ y. slice_range pixels (y * width) (y * width + width))
    (range_with_len 0 height)

abbrev pub screen_from : Option ScreenDef → List ℕ → Option Screen
screen_from None pixels = None
screen_from (Some d) pixels = Some (record { def = d; rows = rows_from d.width d.height pixels })

-- the screen of an id
abbrev pub slot_of : (ℕ → Option ScreenDef) → List (List ℕ) → ℕ → Option Screen
slot_of defs pictures id = screen_from (defs id) (slice_index_or pictures id [])

abbrev pub screens_from : (ℕ → Option ScreenDef) → List (List ℕ) → Screens
screens_from defs pictures = tabulated SCREEN_IDS (slot_of defs pictures)

-- these are the pixels of a screen so defined; without a screen there are none
pub record IsPicture (def : Option ScreenDef) (pixels : List ℕ) : Type 0 where
  pub count : length pixels ≡ pixels_of def
  pub colours : All (λ c. c < COLOURS) pixels

abbrev pub ArePictures : (ℕ → Option ScreenDef) → List (List ℕ) → Type 0
ArePictures defs pictures = (id : ℕ) → id < SCREEN_IDS → IsPicture (defs id) (slice_index_or pictures id [])

-- there is a picture for each id, and room for all pixels that there may be
pub record AreKept (set : DefinitionSet) (pictures : List (List ℕ)) (room : ℕ) : Type 0 where
  pub definitions : AreScreenDefinitions set
  pub count : length pictures ≡ SCREEN_IDS
  pub whole_room : room ≡ set.budget
  pub each : ArePictures (map.get set.screens) pictures
