-- What is sound of the acts.
use Rattle.std.specs.Prelude.{◌≡◌, ℕ, List, length, All}
use Rattle.svga_cmd.specs.declared.limits.Limits.{Limits}
use Rattle.svga_model.specs.Acts.{Act, IsAct}
use Rattle.svga_model.specs.Runs.{done}
use Rattle.svga_model.specs.States.{opening_state}

-- Each act is one that such a device can be given, and is admissible in its turn.
pub record AreAdmissible (l : Limits) (first : ℕ) (acts : List Act) : Type 0 where
  pub each : All (IsAct l) acts
  pub in_turn : done (opening_state l first) acts ≡ length acts
