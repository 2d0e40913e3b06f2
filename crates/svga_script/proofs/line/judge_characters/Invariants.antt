use Rattle.std.proofs.Common.{◌≡◌, ◌+◌, drop}
use Rattle.svga_model.specs.ScriptLines.{first_strange}
use Rattle.svga_script.proofs.line.judge_characters.Given as goal

abbrev pub invariant-loop-i : goal.invariant-loop-i
invariant-loop-i l = first_strange 1 l.line ≡ first_strange (l.i + 1) (drop l.i l.line)
