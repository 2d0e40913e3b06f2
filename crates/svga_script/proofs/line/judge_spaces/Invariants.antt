use Rattle.std.proofs.Common.{◌≡◌, length}
use Rattle.svga_model.specs.ScriptLines.{first_empty, words_of}
use Rattle.svga_script.specs.Left.{words_left}
use Rattle.svga_script.proofs.line.judge_spaces.Given as goal

abbrev pub invariant-loop-word : goal.invariant-loop-word
invariant-loop-word l = first_empty (words_of l.line) ≡ first_empty (words_left l.line l.at)

abbrev pub decreases-loop-word : goal.decreases-loop-word
decreases-loop-word l = length (words_left l.line l.at)
