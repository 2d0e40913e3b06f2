-- What a remap leaves of a shape, old and new, and what it answers.
use Rattle.std.specs.Prelude.{◌≡◌, ℕ, [], None, OnErr, OnOk, Result}
use Rattle.std.specs.Result.{result_err}
use Rattle.svga_cmd.specs.Pages.{Memory}
use Rattle.svga_cmd.specs.declared.command.Command.{Command}
use Rattle.svga_cmd.specs.declared.fault.Fault.{Fault}
use Rattle.svga_model.specs.Acts.{Do}
use Rattle.svga_model.specs.Faults.{fault_of, shape_tests}
use Rattle.svga_model.specs.Regions.{remap_tests}
use Rattle.svga_model.specs.Standing.{least_standing}
use Rattle.svga_model.specs.States.{Shape, State, shape_of}
use Rattle.svga_model.specs.Steps.{step}
use Rattle.svga_shape.specs.ShapeSet.{AreOfLimits, ShapeSet, shape_in}

-- the range of a remap isn't refused
abbrev pub IsRangeAdmitted : Shape → ℕ → ℕ → ℕ → Type 0
IsRangeAdmitted s region offset pages = least_standing
    (remap_tests s.limits.pages s.regions region offset pages []) ≡ None

-- the new shape is that of the state after the command
pub record IsStepOf (old : ShapeSet) (c : Command) (new : ShapeSet) : Type 0 where
  pub step : (s : State) → shape_of s.kept ≡ shape_in old → shape_of (step s (Do c)).kept ≡ shape_in new
  pub chain : new.regions.chain ≡ old.regions.chain
  pub valid : AreOfLimits new

-- so it is on Ok, where no fault stands that the shape tells; a fault changes nothing
pub record HasRemapped (old : ShapeSet) (c : Command) (answer : Result (Unit {0}) Fault)
    (new : ShapeSet) : Type 0 where
  pub fault : result_err answer ≡ least_standing (shape_tests (shape_in old) c)
  pub ok : OnOk answer (IsStepOf old c new)
  pub err : OnErr answer (new ≡ old)
  pub chain : new.regions.chain ≡ old.regions.chain
  pub valid : AreOfLimits new

-- the same over pages, from which numbers may be read
pub record IsRemap (old : ShapeSet) (memory : Memory) (c : Command) (answer : Result (Unit {0}) Fault)
    (new : ShapeSet) : Type 0 where
  pub fault : (s : State) → shape_of s.kept ≡ shape_in old → s.memory ≡ memory → result_err answer
      ≡ fault_of s (Do c)
  pub ok : OnOk answer ((s : State) → shape_of s.kept ≡ shape_in old → s.memory ≡ memory
      → shape_of (step s (Do c)).kept ≡ shape_in new)
  pub err : OnErr answer (new ≡ old)
  pub chain : new.regions.chain ≡ old.regions.chain
  pub valid : AreOfLimits new
