use Rattle.std.proofs.Common.{◌≡◌, ◌≤◌, length}
use Rattle.svga_model.specs.Scripts.{Read, script_from, script_of}
use Rattle.svga_script.specs.Left.{lines_left}
use Rattle.svga_script.specs.Readings.{IsReadingOf}
use Rattle.svga_script.proofs.script.read_script.Given as goal

abbrev pub invariant-loop-line : goal.invariant-loop-line
invariant-loop-line l = ((r : Read) × (IsReadingOf r l.reading) × (script_from r (lines_left l.bytes l.at) ≡ script_of l.bytes)) × (l.reading.lines ≤ 1048576)

abbrev pub decreases-loop-line : goal.decreases-loop-line
decreases-loop-line l = length (lines_left l.bytes l.at)
