-- The groups of equal rows before the place are on their way.
use Rattle.std.proofs.Common.{◌-◌, ◌≤◌, drop}
use Rattle.svga_text.proofs.RunPassing.{RunsPass}
use Rattle.svga_text.specs.Pictures.{rows_line, same_row}
use Rattle.svga_text.specs.Rows.{rows_of}
use Rattle.svga_text.specs.Runs.{largest_runs}
use Rattle.svga_text.proofs.render.Render.picture.Given as goal

abbrev pub invariant-loop-first : goal.invariant-loop-first
invariant-loop-first g l = (l.first ≤ l.height) × RunsPass g.K.Sink.held g.K.Sink.faults l.initial.sink l.sink
    l.initial.self.pending l.self.pending rows_line (largest_runs same_row (rows_of l.screens.screens l.id)) l.first
    (largest_runs same_row (drop l.first (rows_of l.screens.screens l.id)))

abbrev pub decreases-loop-first : goal.decreases-loop-first
decreases-loop-first g l = l.height - l.first
