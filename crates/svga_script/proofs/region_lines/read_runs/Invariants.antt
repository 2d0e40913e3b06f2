use Rattle.std.proofs.Common.{◌+◌, length}
use Rattle.svga_script.proofs.RunLaws.{AreKept}
use Rattle.svga_script.specs.Left.{words_left}
use Rattle.svga_script.proofs.region_lines.read_runs.Given as goal

abbrev pub invariant-loop-at : goal.invariant-loop-at
invariant-loop-at l = AreKept (length l.line + 1) (words_left l.line l.initial.at) (words_left l.line l.at) l.pages l.short l.runs.items

abbrev pub decreases-loop-at : goal.decreases-loop-at
decreases-loop-at l = length (words_left l.line l.at)
