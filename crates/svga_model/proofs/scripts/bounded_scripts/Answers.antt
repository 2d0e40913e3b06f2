use Rattle.svga_model.proofs.ScriptBoundLaws.{script_bounded}
use Rattle.svga_model.proofs.scripts.bounded_scripts.Goals as goal

pub returns : goal.returns
returns c = script_bounded
