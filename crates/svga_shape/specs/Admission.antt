-- What admission answers.
use Rattle.std.specs.Prelude.{◌≡◌, ℕ, Option, Some, None}
use Rattle.svga_cmd.specs.declared.command.Command.{Command}
use Rattle.svga_model.specs.Faults.{shape_tests}
use Rattle.svga_model.specs.Standing.{least_standing}
use Rattle.svga_model.specs.States.{Shape}
use Rattle.svga_shape.specs.declared.touch.Touch.{Touch}
use Rattle.svga_shape.specs.declared.touch.Touch.TheVariants.{Nothing, Region}

-- the region that is named, if one is
abbrev pub region_of : Touch → Option ℕ
region_of Nothing = None
region_of (Region id) = Some id

-- no fault of the command stands that is told without bytes
abbrev pub IsAdmitted : Shape → Command → Type 0
IsAdmitted s c = least_standing (shape_tests s c) ≡ None
