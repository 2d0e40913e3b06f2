use Rattle.svga_pair.proofs.RaceSteps.{runs_then}
use Rattle.svga_pair.proofs.running.run_device.Goals as goal

pub loop-preserved-in-Ran : goal.loop-preserved-in-Ran
loop-preserved-in-Ran g c = (
  tt,
  tt,
  runs_then _ _ _ c.loop.invariant.2
      (record { table_is = c.step.ensures.table; shows = c.step.ensures.shows }),
)

pub loop-preserved-in-Answered : goal.loop-preserved-in-Answered
loop-preserved-in-Answered g c = (
  tt,
  tt,
  runs_then _ _ _ c.loop.invariant.2
      (record { table_is = c.step.ensures.table; shows = c.step.ensures.shows }),
)

pub loop-preserved : goal.loop-preserved
loop-preserved g c = (
  tt,
  tt,
  runs_then _ _ _ c.loop.invariant.2
      (record { table_is = c.step.ensures.table; shows = c.step.ensures.shows }),
)

pub returns-in-Stopped-clause-runs : goal.returns-in-Stopped-clause-runs
returns-in-Stopped-clause-runs g c = runs_then _ _ _ c.loop.invariant.2
    (record { table_is = c.step.ensures.table; shows = c.step.ensures.shows })
