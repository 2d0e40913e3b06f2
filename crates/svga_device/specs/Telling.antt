-- What heads are told of a command's effect.
use Rattle.std.specs.Prelude.{◌≡◌, ℕ, ◌+◌, ⊤, List, [], slice_range, nat_lt, if◌then◌else◌, Option, Some, None, unwrap_or}
use Rattle.std.specs.FinMap as map
use Rattle.svga_cmd.specs.declared.command.Command.{Command}
use Rattle.svga_head.specs.PlugStates.{PlugState}
use Rattle.svga_head.specs.Showing.{AllShow}
use Rattle.svga_machine.specs.Effects.{IsEffect}
use Rattle.svga_machine.specs.declared.effect.Effect.{Effect}
use Rattle.svga_machine.specs.declared.effect.Effect.TheVariants as effect
use Rattle.svga_model.specs.Acts.{Do}
use Rattle.svga_model.specs.BlitEffects.{NewColours, repainted, repainted_screens}
use Rattle.svga_model.specs.Faults.{IsAdmissible}
use Rattle.svga_model.specs.Pictures.{Pictures}
use Rattle.svga_model.specs.Screens.{AreScreens, IsScreen, Screen, Screens, definitions_of, row_of}
use Rattle.svga_model.specs.States.{State}
use Rattle.svga_model.specs.Steps.{step}
use Rattle.svga_screen.specs.declared.area.Area.{Area}
use Rattle.svga_transfer.specs.Areas.{ArePainted, IsPainted}

-- an effect of which no head is told
abbrev pub IsQuiet : Effect → Type 0
IsQuiet effect.Nothing = ⊤
IsQuiet (effect.Fence value) = ⊤
IsQuiet (effect.Shown id) = ⊥
IsQuiet (effect.Hidden id) = ⊥
IsQuiet (effect.Painted areas) = ⊥

-- a command that nothing refuses has this effect, and makes these screens of those
pub record HasMade (effect : Effect) (before after : Screens) : Type 0 where
  pub state : State
  pub command : Command
  pub effect_is : IsEffect state command effect
  pub admissible : IsAdmissible state (Do command)
  pub valid : AreScreens state.kept.limits.budget state.kept.screens
  pub before_is : state.kept.screens ≡ before
  pub after_is : (step state (Do command)).kept.screens ≡ after

-- the heads show these pictures, whatever they were when they were handed in
abbrev pub SomeShow : Pictures → List PlugState → Type 0
SomeShow pictures now = (first : List PlugState) × AllShow pictures first now

-- where they showed these pictures before, they show those after
abbrev pub ShowNext : Pictures → Pictures → List PlugState → List PlugState → Type 0
ShowNext pictures changed old new =
    (first : List PlugState) → AllShow pictures first old → AllShow changed first new

-- the screen of the area's id gets new colours in the area, and nowhere else
pub record IsRepaintedIn (area : Area) (before after : Screens) : Type 0 where
  pub screen : Screen
  pub colour : ℕ → ℕ → Option ℕ
  pub valid : IsScreen area.screen screen
  pub painted : IsPainted colour screen.def area
  pub here : map.get before area.screen ≡ Some screen
  pub there : map.get after area.screen ≡ Some (repainted colour screen)

-- the new colours above a row alone
abbrev pub rows_above : ℕ → (ℕ → ℕ → Option ℕ) → ℕ → ℕ → Option ℕ
rows_above row colour x y = if nat_lt y row then colour x y else None

-- the screens before, with the new colours of that screen above a row, and with all of them
abbrev pub with_rows : ℕ → (area : Area) (before after : Screens) → IsRepaintedIn area before after → Screens
with_rows row area before after t =
    map.insert before area.screen (repainted (rows_above row t.colour) t.screen)

abbrev pub with_area : (area : Area) (before after : Screens) → IsRepaintedIn area before after → Screens
with_area area before after t = map.insert before area.screen (repainted t.colour t.screen)

-- the area's part of a row
abbrev pub part_of : Screens → Area → ℕ → List ℕ
part_of screens area y =
    slice_range (unwrap_or (row_of screens area.screen y) []) area.left (area.left + area.width)

-- each screen gets new colours in these areas, and nowhere else
pub record AreRepaintedIn (areas : List Area) (before after : Screens) : Type 0 where
  pub budget : ℕ
  pub colours : NewColours
  pub valid : AreScreens budget before
  pub areas_are : ArePainted colours (definitions_of before) areas
  pub after_is : after ≡ repainted_screens colours before
