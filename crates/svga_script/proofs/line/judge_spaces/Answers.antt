use Rattle.std.proofs.Common.{ap, sym}
use Rattle.svga_model.specs.ScriptLines.{first_empty}
use Rattle.svga_script.proofs.LineWords.{from_start}
use Rattle.svga_script.proofs.line.judge_spaces.Goals as goal

pub loop-word-init : goal.loop-word-init
loop-word-init c = sym (ap first_empty (from_start c.args.line.now))
