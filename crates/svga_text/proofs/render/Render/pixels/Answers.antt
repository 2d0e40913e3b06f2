use Rattle.std.proofs.Common.{◌==◌, arith, get_or, refl, ap, ◌++◌}
use Rattle.svga_text.proofs.PassingLaws.{at_err, fault-same, Passes-same}
use Rattle.svga_text.proofs.RunLaws.{none_left, run_next, run_within, spaced-runs}
use Rattle.svga_text.proofs.RunPassing.{RunsPass-all, RunsPass-fault, RunsPass-next}
use Rattle.svga_text.specs.Pictures.{pixels_text}
use Rattle.svga_text.specs.Runs.{largest_runs}
use Rattle.svga_text.proofs.render.Render.pixels.Goals as goal

pub returns-in_err-pixels : goal.returns-in_err-pixels
returns-in_err-pixels g c = at_err _ c.from_residual.result c.from_residual.ensures.0
    (fault-same (ap (λ t. c.args.self.now.pending ++ t)
    (spaced-runs pixels_text 0 (largest_runs (◌==◌) c.args.row.now)))
    (RunsPass-fault (c.run_length-count.result, get_or c.args.row.now c.loop-first.first 0)
    (run_next (◌==◌) c.args.row.now c.loop-first.first c.run_length-count.result 0
    (c.run_length-count.ensures.first 0)) c.loop-first.invariant.1 (c.in_err-pixels.ensures {u = tt})))

pub loop-first-preserved : goal.loop-first-preserved
loop-first-preserved g c = (
  run_within c.args.row.now c.loop-first.first c.run_length-count.result c.loop-first.invariant.0
      c.run_length-count.ensures.within,
  RunsPass-next (c.run_length-count.result, get_or c.args.row.now c.loop-first.first 0)
      (run_next (◌==◌) c.args.row.now c.loop-first.first c.run_length-count.result 0
      (c.run_length-count.ensures.first 0)) c.loop-first.invariant.1 (c.in_ok-pixels.ensures {u = tt}),
)

pub returns : goal.returns
returns g c = Passes-same refl (spaced-runs pixels_text 0 (largest_runs (◌==◌) c.args.row.now))
    (RunsPass-all (none_left (◌==◌) c.args.row.now c.loop-first.first (omega arith)) c.loop-first.invariant.1)
