-- Screens: their definitions and pictures, and the commands that define and destroy them.
use Rattle.std.specs.Prelude.{◌≡◌, ℕ, ◌+◌, ◌-◌, ◌*◌, ◌<◌, ◌≤◌, List, [], ◌∷◌, ◌++◌, length, All, take, drop, replicate, slice_get, slice_index_or, slice_set, sum_by, Bool, false, nat_lt, nat_le, ◌&&◌, not, is_none, Option, Some, None, IfSome, option_map, option_and_then, refl}
use Rattle.std.specs.Coded.{Coded, code_by, coded×, coded_ℕ, coded_list}
use Rattle.std.specs.FinMap as map
use Rattle.std.specs.FinMap.{FinMap}
use Rattle.std.specs.List.{range_with_len}
use Rattle.std.specs.Ordering.{nat_cmp}
use Rattle.svga_cmd.specs.contracts.screen.ScreenDef as screen_def
use Rattle.svga_cmd.specs.declared.constants.TheConstants.{COLOURS, MAX_SCREEN_ID, MAX_SCREEN_SIDE, SCREEN_IDS}
use Rattle.svga_cmd.specs.declared.fault.Fault.{Fault}
use Rattle.svga_cmd.specs.declared.fault.Fault.TheVariants as fault
use Rattle.svga_cmd.specs.declared.screen.ScreenDef.{ScreenDef}

-- a screen: its definition, and its rows of colours from the top
pub record Screen : Type 0 where
  pub def : ScreenDef
  pub rows : List (List ℕ)

-- the screens that are defined, by their ids
abbrev pub Screens : Type 0
Screens = FinMap nat_cmp Screen

-- the definitions by themselves, which are all that faults ask for
abbrev pub definitions_of : Screens → ℕ → Option ScreenDef
definitions_of screens id = option_map (λ s. s.def) (map.get screens id)

-- how many pixels a definition stands for
abbrev pub pixels_of : Option ScreenDef → ℕ
pixels_of None = 0
pixels_of (Some d) = d.width * d.height

-- the pixels of all screens
unfoldable pub pixel_count : (ℕ → Option ScreenDef) → ℕ
pixel_count definitions = sum_by (λ id. pixels_of (definitions id)) (range_with_len 0 SCREEN_IDS)

-- their number once this definition stands
abbrev pub pixels_with : (ℕ → Option ScreenDef) → ScreenDef → ℕ
pixels_with definitions d = pixel_count definitions - pixels_of (definitions d.id) + pixels_of (Some d)

-- a side of 1 to 8,192 pixels
abbrev pub is_side : ℕ → Bool
is_side n = nat_lt 0 n && nat_le n MAX_SCREEN_SIDE

abbrev pub has_sides : ScreenDef → Bool
has_sides d = is_side d.width && is_side d.height

-- when DEFINE_SCREEN is refused
abbrev pub define_screen_tests : ℕ → (ℕ → Option ScreenDef) → ScreenDef → List (Bool × Fault)
define_screen_tests budget definitions d =
    (nat_lt MAX_SCREEN_ID d.id, fault.ScreenId)
    ∷ (not (has_sides d), fault.ScreenSize)
    ∷ (
      nat_le d.id MAX_SCREEN_ID && has_sides d && nat_lt budget (pixels_with definitions d),
      fault.PixelBudget,
    ) ∷ []

-- when DESTROY_SCREEN is refused
abbrev pub destroy_screen_tests : (ℕ → Option ScreenDef) → ℕ → List (Bool × Fault)
destroy_screen_tests definitions id =
    (nat_le id MAX_SCREEN_ID && is_none (definitions id), fault.NoScreen)
    ∷ (nat_lt MAX_SCREEN_ID id, fault.ScreenId) ∷ []

-- a screen with a black picture
abbrev pub black_screen : ScreenDef → Screen
black_screen d = record { def = d; rows = replicate d.height (replicate d.width 0) }

-- the screens after DEFINE_SCREEN: the older picture of the id is gone
abbrev pub with_screen : Screens → ScreenDef → Screens
with_screen screens d = map.insert screens d.id (black_screen d)

-- the screens after DESTROY_SCREEN
abbrev pub without_screen : Screens → ℕ → Screens
without_screen screens id = map.remove screens id

-- a row of a screen, empty where it has none
abbrev pub row_at : Screen → ℕ → List ℕ
row_at s y = slice_index_or s.rows y []

-- a row of the screen with this id, if there is one
abbrev pub row_of : Screens → ℕ → ℕ → Option (List ℕ)
row_of screens id y = option_and_then (λ s. slice_get s.rows y) (map.get screens id)

-- a row with other colours from x on
abbrev pub painted_row : List ℕ → ℕ → List ℕ → List ℕ
painted_row row x colours = take x row ++ colours ++ drop (x + length colours) row

-- a screen with other colours from (x, y) on along row y
abbrev pub painted_screen : Screen → ℕ → ℕ → List ℕ → Screen
painted_screen s x y colours = record s { rows = slice_set s.rows y (painted_row (row_at s y) x colours) }

-- the screens with that change to the one of this id
abbrev pub painted_over : Screens → ℕ → Option Screen → ℕ → ℕ → List ℕ → Screens
painted_over screens id None x y colours = screens
painted_over screens id (Some s) x y colours = map.insert screens id (painted_screen s x y colours)

abbrev pub painted : Screens → ℕ → ℕ → ℕ → List ℕ → Screens
painted screens id x y colours = painted_over screens id (map.get screens id) x y colours

-- so many colours from (x, y) on lie on row y of the screen
pub record IsOnRow (d : ScreenDef) (x y len : ℕ) : Type 0 where
  pub high : y < d.height
  pub wide : x + len ≤ d.width

abbrev pub IsOnScreen : Option ScreenDef → ℕ → ℕ → ℕ → Type 0
IsOnScreen None x y len = ⊥
IsOnScreen (Some d) x y len = IsOnRow d x y len

-- the screen is defined and has row y
abbrev pub has_row : Option ScreenDef → ℕ → Bool
has_row None y = false
has_row (Some d) y = nat_lt y d.height

-- the row is as long as the screen is wide
abbrev pub IsAsWide : Option ScreenDef → List ℕ → Type 0
IsAsWide None row = ⊥
IsAsWide (Some d) row = length row ≡ d.width

-- a definition of this id, with sides as DEFINE_SCREEN takes them
pub record IsDefinition (id : ℕ) (d : ScreenDef) : Type 0 where
  pub name : d.id ≡ id
  pub width : (0 < d.width) × (d.width ≤ MAX_SCREEN_SIDE)
  pub height : (0 < d.height) × (d.height ≤ MAX_SCREEN_SIDE)

-- a screen of this id, with as many rows of as many colours as its definition says
pub record IsScreen (id : ℕ) (s : Screen) : Type 0 where
  pub def : IsDefinition id s.def
  pub rows : length s.rows ≡ s.def.height
  pub columns : All (λ row. length row ≡ s.def.width) s.rows
  pub colours : All (All (λ c. c < COLOURS)) s.rows

-- what holds of the screens of every state
pub record AreScreens (budget : ℕ) (screens : Screens) : Type 0 where
  pub ids : (id : ℕ) → SCREEN_IDS ≤ id → map.get screens id ≡ None
  pub each : (id : ℕ) → IfSome (map.get screens id) (IsScreen id)
  pub within_budget : pixel_count (definitions_of screens) ≤ budget

-- the codes of screens, by which a type that is seen as them tells its values apart
abbrev pub coded_screen : Coded Screen
coded_screen =
    code_by (ScreenDef × List (List ℕ)) (coded× screen_def.the_row.coded (coded_list (coded_list coded_ℕ)))
    (λ s. (s.def, s.rows)) (λ p. record { def = p.0; rows = p.1 }) (λ _. refl)

abbrev pub coded_screens : Coded Screens
coded_screens = map.code coded_ℕ coded_screen
