-- A device of a race.
use Rattle.std.specs.Prelude.{◌≡◌, List}
use Rattle.svga_device.specs.Devices.{DeviceHas, Shows}
use Rattle.svga_head.specs.PlugStates.{PlugState}

-- It is of the same table, and heads that showed its screens show them still.
pub record RunsOn (old new : DeviceHas) : Type 0 where
  pub table_is : new.table ≡ old.table
  pub shows : (first : List PlugState) → Shows first old → Shows first new
