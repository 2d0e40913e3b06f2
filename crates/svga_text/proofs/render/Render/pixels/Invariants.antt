-- The runs before the place are on their way.
use Rattle.std.proofs.Common.{◌==◌, ◌-◌, ◌≤◌, ◌∷◌, drop, length}
use Rattle.svga_text.proofs.RunPassing.{RunsPass}
use Rattle.svga_text.specs.Pictures.{pixels_text}
use Rattle.svga_text.specs.Runs.{largest_runs}
use Rattle.svga_text.proofs.render.Render.pixels.Given as goal

abbrev pub invariant-loop-first : goal.invariant-loop-first
invariant-loop-first g l = (l.first ≤ length l.row) × RunsPass g.K.Sink.held g.K.Sink.faults l.initial.sink l.sink
    l.initial.self.pending l.self.pending (λ _ r. 32 ∷ pixels_text r) (largest_runs (◌==◌) l.row) l.first
    (largest_runs (◌==◌) (drop l.first l.row))

abbrev pub decreases-loop-first : goal.decreases-loop-first
decreases-loop-first g l = length l.row - l.first
