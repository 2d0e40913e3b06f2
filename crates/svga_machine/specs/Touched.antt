-- What a machine asks of a store before a command.
use Rattle.std.specs.Prelude.{◌≡◌, ℕ, ⊤, Option, Some, None}
use Rattle.svga_cmd.specs.Pages.{Memory}
use Rattle.svga_cmd.specs.declared.command.Command.{Command}
use Rattle.svga_model.specs.Faults.{shape_tests}
use Rattle.svga_model.specs.PointedNumbers.{Pointed}
use Rattle.svga_model.specs.Regions.{Regions, region_places}
use Rattle.svga_model.specs.Standing.{least_standing}
use Rattle.svga_model.specs.States.{Kept, shape_of}
use Rattle.svga_model.specs.Touches.{touched_places}
use Rattle.svga_transfer.specs.Reach.{HasPages}

-- the store has each mapped page of the region that the command touches, where it is admitted and touches one
abbrev pub HasTouched : Kept → Memory → Command → Type 0
HasTouched k memory c = least_standing (shape_tests (shape_of k) c) ≡ None
    → HasPages memory (touched_places k c)

-- the same of a remap that is admitted: each mapped page of the region that its numbers are read from, if
-- they are
abbrev pub HasPointed : ℕ → Regions → Memory → Option Pointed → Type 0
HasPointed frame regions m None = ⊤
HasPointed frame regions m (Some at) = HasPages m (region_places frame regions at.region)
