use Rattle.std.proofs.Common.{◌+◌, ap, ◌∙◌, arith, drop_of_length-le}
use Rattle.svga_model.specs.ScriptLines.{first_strange}
use Rattle.svga_script.proofs.LineLaws.{is_strange, not_strange}
use Rattle.svga_script.proofs.line.judge_characters.Goals as goal

pub loop-i-preserved : goal.loop-i-preserved
loop-i-preserved c = c.loop-i.invariant ∙ not_strange c.args.line.now c.loop-i.i (omega arith) (cc)

pub returns-then-not-is_character : goal.returns-then-not-is_character
returns-then-not-is_character c = c.loop-i.invariant ∙ is_strange c.args.line.now c.loop-i.i (omega arith) (cc)

pub returns : goal.returns
returns c = (c.loop-i.invariant ∙ ap (first_strange (c.loop-i.i + 1)) (drop_of_length-le c.args.line.now (omega arith)), cc)
