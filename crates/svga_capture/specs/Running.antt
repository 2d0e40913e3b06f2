-- A replay that goes on, command by command.
use Rattle.std.specs.Prelude.{◌≡◌, ℕ, ◌+◌, ◌≤◌, Some, None}
use Rattle.svga_cmd.specs.declared.command.Command.{Command}
use Rattle.svga_cmd.specs.declared.fault.Fault.{Fault}
use Rattle.svga_machine.specs.Displays.{IsWholeState}
use Rattle.svga_machine.specs.MachineSet.{state_with}
use Rattle.svga_model.specs.Acts.{Do}
use Rattle.svga_model.specs.Faults.{fault_of}
use Rattle.svga_model.specs.States.{State}
use Rattle.svga_model.specs.Steps.{step}
use Rattle.svga_capture.specs.declared.replaying.Running.{Running}

-- the state that it has come to
abbrev pub state_in : Running → State
state_in r = state_with r.machine r.pages

-- It can run a command that begins at this word: it ran no more commands than words stand before,
-- and its state is a whole one.
pub record CanRun (r : Running) (first : ℕ) : Type 0 where
  pub few : r.commands ≤ first
  pub whole : IsWholeState r.machine.kept.limits (state_in r)

-- a command without a fault is run
pub record Runs (r : Running) (c : Command) (now : Running) : Type 0 where
  pub admitted : fault_of (state_in r) (Do c) ≡ None
  pub state : state_in now ≡ step (state_in r) (Do c)
  pub commands : now.commands ≡ r.commands + 1
  pub chain : now.machine.chain ≡ r.machine.chain

-- it stops at a command with this fault, which changes nothing
pub record Stops (r : Running) (c : Command) (fault : Fault) (now : Running) : Type 0 where
  pub refused : fault_of (state_in r) (Do c) ≡ Some fault
  pub same : now ≡ r
