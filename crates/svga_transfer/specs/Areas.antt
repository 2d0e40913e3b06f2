-- The areas of screens that a command paints.
use Rattle.std.specs.Prelude.{◌≡◌, ℕ, ◌+◌, ◌<◌, ◌≤◌, List, length, slice_index_or, is_some, true, Option, Some, IsSomeAnd}
use Rattle.svga_cmd.specs.declared.screen.ScreenDef.{ScreenDef}
use Rattle.svga_model.specs.BlitEffects.{NewColours}
use Rattle.svga_screen.specs.Clips.{is_inside, no_area}
use Rattle.svga_screen.specs.declared.area.Area.{Area}

-- an area of a screen so defined: it has a pixel, and its pixels are those that get a colour
pub record IsPainted (colour : ℕ → ℕ → Option ℕ) (d : ScreenDef) (a : Area) : Type 0 where
  pub columns : 0 < a.width
  pub rows : 0 < a.height
  pub wide : a.left + a.width ≤ d.width
  pub high : a.top + a.height ≤ d.height
  pub same : (x y : ℕ) → x < d.width → y < d.height → is_inside a x y ≡ is_some (colour x y)

-- area i of a list
abbrev pub area_at : List Area → ℕ → Area
area_at areas i = slice_index_or areas i no_area

-- some area of the list is of the screen with this id
abbrev pub HasAreaOf : List Area → ℕ → Type 0
HasAreaOf areas id = (i : ℕ) × (i < length areas) × ((area_at areas i).screen ≡ id)

-- The areas that are painted, where each pixel of a screen gets a new colour or none: one for each screen
-- with a pixel that gets one, by ascending id.
pub record ArePainted (colour : NewColours) (definitions : ℕ → Option ScreenDef)
    (areas : List Area) : Type 0 where
  pub each : (i : ℕ) → i < length areas → IsSomeAnd (definitions (area_at areas i).screen)
      (λ d. IsPainted (colour (area_at areas i).screen d) d (area_at areas i))
  pub ascending : (i j : ℕ) → i < j → j < length areas → (area_at areas i).screen < (area_at areas j).screen
  pub all : (id : ℕ) (d : ScreenDef) (x y : ℕ) → definitions id ≡ Some d → x < d.width → y < d.height
      → is_some (colour id d x y) ≡ true → HasAreaOf areas id
