-- What a waiter keeps when it takes turns.
use Rattle.std.specs.Prelude.{◌≡◌, List, Option}
use Rattle.atomic_table.specs.Seated.{TableId}
use Rattle.svga_head.specs.PlugStates.{PlugState}

-- it steps the same device, and heads that show its screens show them still
pub record StepsOn {W : Type 0} (table : W → Option TableId) (shows : W → List PlugState → Type 0)
    (before now : W) : Type 0 where
  pub table_is : table now ≡ table before
  pub still : (first : List PlugState) → shows before first → shows now first
