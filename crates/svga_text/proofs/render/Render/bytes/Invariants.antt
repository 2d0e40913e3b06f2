-- The runs before the place are on their way.
use Rattle.std.proofs.Common.{◌==◌, ◌-◌, ◌≤◌, drop, length}
use Rattle.svga_text.proofs.RunPassing.{RunsPass}
use Rattle.svga_text.specs.Pages.{bytes_line}
use Rattle.svga_text.specs.Runs.{largest_runs}
use Rattle.svga_text.proofs.render.Render.bytes.Given as goal

abbrev pub invariant-loop-first : goal.invariant-loop-first
invariant-loop-first g l = (l.first ≤ length l.bytes) × RunsPass g.K.Sink.held g.K.Sink.faults l.initial.sink l.sink
    l.initial.self.pending l.self.pending bytes_line (largest_runs (◌==◌) l.bytes) l.first
    (largest_runs (◌==◌) (drop l.first l.bytes))

abbrev pub decreases-loop-first : goal.decreases-loop-first
decreases-loop-first g l = length l.bytes - l.first
