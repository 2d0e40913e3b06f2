-- What a visit keeps from command to command.
use Rattle.std.proofs.Common.{ℕ, ◌≤◌, List, [], length, take}
use Rattle.svga_cmd.specs.declared.command.Command.{Command}
use Rattle.svga_decode.specs.Visits.{AreTaken, Taking}
use Rattle.svga_model.specs.Progress.{HasCome}

-- the words before word `first` are these commands, and all of them are taken
pub record IsVisiting {V T : Type 0} (takes : Taking V T) (can : V → T → ℕ → Type 0) (ws : List ℕ) (v : V) (t : T) (first : ℕ) (cs : List Command) (w : V) (u : T) : Type 0 where
  pub come : HasCome (take first ws) cs []
  pub taken : AreTaken takes v t 0 cs w u
  pub within : first ≤ length ws
  pub can_take : can w u first
