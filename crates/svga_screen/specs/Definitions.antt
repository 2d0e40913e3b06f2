-- The definitions of screens without their pictures.
use Rattle.std.specs.Prelude.{◌≡◌, ℕ, ◌<◌, ◌≤◌, List, length, slice_index_or, Option, None, IfSome, refl}
use Rattle.std.specs.Coded.{Coded, code_by, coded×, coded_ℕ}
use Rattle.std.specs.FinMap as map
use Rattle.std.specs.FinMap.{FinMap}
use Rattle.std.specs.Ordering.{nat_cmp}
use Rattle.svga_cmd.specs.declared.constants.TheConstants.{SCREEN_IDS}
use Rattle.svga_cmd.specs.contracts.screen.ScreenDef as screen_def
use Rattle.svga_cmd.specs.declared.screen.ScreenDef.{ScreenDef}
use Rattle.svga_model.specs.Screens.{IsDefinition, pixel_count}
use Rattle.svga_model.specs.Tabulated.{tabulated}

-- the screens that are defined, and how many pixels they may have in all
pub record DefinitionSet : Type 0 where
  pub budget : ℕ
  pub screens : FinMap nat_cmp ScreenDef

-- what the slots of ids 0 to 15 hold
abbrev pub screens_in : List (Option ScreenDef) → FinMap nat_cmp ScreenDef
screens_in slots = tabulated SCREEN_IDS (λ id. slice_index_or slots id None)

-- each slot has a definition of its own id or none, and all pixels are within the budget
pub record AreDefinitions (budget : ℕ) (slots : List (Option ScreenDef)) : Type 0 where
  pub count : length slots ≡ SCREEN_IDS
  pub each : (id : ℕ) → id < SCREEN_IDS → IfSome (slice_index_or slots id None) (IsDefinition id)
  pub within : pixel_count (λ id. slice_index_or slots id None) ≤ budget

-- what holds of a set of definitions
pub record AreScreenDefinitions (set : DefinitionSet) : Type 0 where
  pub ids : (id : ℕ) → SCREEN_IDS ≤ id → map.get set.screens id ≡ None
  pub each : (id : ℕ) → IfSome (map.get set.screens id) (IsDefinition id)
  pub within : pixel_count (map.get set.screens) ≤ set.budget

abbrev pub coded_definitions : Coded (FinMap nat_cmp ScreenDef)
coded_definitions = map.code coded_ℕ screen_def.the_row.coded

abbrev pub coded_definition_set : Coded DefinitionSet
coded_definition_set = code_by (ℕ × FinMap nat_cmp ScreenDef) (coded× coded_ℕ coded_definitions)
    (λ s. (s.budget, s.screens)) (λ p. record { budget = p.0; screens = p.1 }) (λ _. refl)
