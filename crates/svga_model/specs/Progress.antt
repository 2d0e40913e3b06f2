-- Words that come one after another: how far they have come.
use Rattle.std.specs.Prelude.{◌≡◌, ℕ, List, ◌++◌, All}
use Rattle.svga_cmd.specs.WellFormed.{IsWellFormed}
use Rattle.svga_cmd.specs.declared.command.Command.{Command}
use Rattle.svga_model.specs.Sentences.{IsCommandBegun, spelling_all}

-- The words are these whole commands and, behind them, the words of one that has begun. Between two
-- commands the latter are the empty list.
pub record HasCome (ws : List ℕ) (cs : List Command) (part : List ℕ) : Type 0 where
  pub well_formed : All IsWellFormed cs
  pub words : ws ≡ spelling_all cs ++ part
  pub begun : IsCommandBegun part
