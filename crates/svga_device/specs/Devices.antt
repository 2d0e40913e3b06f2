-- A device between its steps, and what a step comes to.
use Rattle.std.specs.Prelude.{◌≡◌, ℕ, List, [], length, Bool, true, false, None}
use Rattle.std.specs.FinMap as map
use Rattle.atomic_table.specs.Seated.{TableId}
use Rattle.svga_cmd.specs.Spelling.{Spells}
use Rattle.svga_cmd.specs.declared.command.Command.{Command}
use Rattle.svga_device.specs.Chains.{HasAnswered}
use Rattle.svga_device.specs.Serving.{IsRun, taken_with}
use Rattle.svga_device.specs.Telling.{IsQuiet}
use Rattle.svga_device.specs.declared.stepped.Stepped.{Stepped}
use Rattle.svga_device.specs.declared.stepped.Stepped.TheVariants.{Ran, Answered, Idle, Stopped}
use Rattle.svga_head.specs.PlugStates.{PlugState}
use Rattle.svga_head.specs.Showing.{AllShow}
use Rattle.svga_link.specs.Ends.{DeviceSeen}
use Rattle.svga_link.specs.Holding.{RequestTold, with_config}
use Rattle.svga_link.specs.Told.{NextTold}
use Rattle.svga_machine.specs.MachineSet.{MachineSet}
use Rattle.svga_machine.specs.declared.effect.Effect.{Effect}
use Rattle.svga_model.specs.Pictures.{pictures_of}
use Rattle.svga_model.specs.Sentences.{IsCommandBegun}
use Rattle.svga_model.specs.States.{Kept}
use Rattle.svga_ring.specs.Core.{read_count}
use Rattle.svga_ring.specs.Layouts.{word_address}
use Rattle.svga_ring.specs.Views.{DeviceView}

-- what contracts see of a device: its end's table and view, and the plugs of its heads
pub record DeviceHas : Type 0 where
  pub table : TableId
  pub view : DeviceView
  pub heads : List PlugState

-- Between steps the machine keeps what the end's view does, and no page is held.
pub record IsResting (e : DeviceSeen) (m : MachineSet) : Type 0 where
  pub kept : e.view.kept ≡ m.kept
  pub limits : e.view.terms.limits ≡ e.view.kept.limits
  pub noted : e.view.noted ≡ map.empty
  pub pages : e.pages ≡ map.empty

-- heads that were so when they were handed in show the device's screens
abbrev pub Shows : List PlugState → DeviceHas → Type 0
Shows first d = AllShow (pictures_of d.view.kept.screens) first d.heads

-- the command that was read is served, and has this effect
pub record IsServedBy (before after : DeviceView) (effect : Effect) : Type 0 where
  pub command : Command
  pub spells : Spells command before.read
  pub kept : Kept
  pub ran : IsRun before.kept command effect kept
  pub taken : after ≡ taken_with before kept

-- the answer, once the words that were known are read up to the end of a command
abbrev pub StepAnswers : Bool → ℕ → DeviceHas → DeviceHas → Stepped → Type 0
StepAnswers runs found e after Ran = (effect : Effect) × IsServedBy e.view after.view effect
    × (IsQuiet effect → after.heads ≡ e.heads)
StepAnswers runs found e after Answered = (runs ≡ true) × (read_count e.view ≡ e.view.next)
    × HasAnswered e.view after.view × (after.heads ≡ e.heads)
StepAnswers runs found e after (Idle next) = (runs ≡ true) × (next ≡ found)
    × RequestTold e.view after.view None × (after.heads ≡ e.heads)
    × (read_count e.view ≡ e.view.next) × IsCommandBegun e.view.read
StepAnswers runs found e after Stopped = (runs ≡ false) × (after ≡ e) × (e.view.read ≡ [])
    × (found ≡ word_address e.view.layout (length e.view.taken))

-- CONFIG_DONE and NEXT_CMD were loaded, and words read, and the request was loaded where no command is whole
-- and the driver runs
pub record StepTold (before after : DeviceHas) (answer : Stepped) : Type 0 where
  pub runs : Bool
  pub found : ℕ
  pub loaded : DeviceView
  pub next : NextTold (with_config before.view runs) loaded found
  pub read : List ℕ
  pub answers : StepAnswers runs found (record before { view = record loaded { read = read } }) after answer
