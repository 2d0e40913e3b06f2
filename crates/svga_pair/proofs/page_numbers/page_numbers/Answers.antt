use Rattle.std.proofs.Common.{arith, ◌∙◌}
use Rattle.svga_pair.proofs.NumberLaws.{numbers_more, pages_low, pages_more, run_within}
use Rattle.svga_pair.proofs.page_numbers.page_numbers.Goals as goal

pub add_run-requires-clause-ends : goal.add_run-requires-clause-ends
add_run-requires-clause-ends c =
    run_within c.args.runs.now c.loop-run.run-index _ c.loop-run-test.true c.requires.ends

pub add_run-requires-clause-few : goal.add_run-requires-clause-few
add_run-requires-clause-few c =
    omega (
      arith,
      pages_low c.args.runs.now c.loop-run.run-index (record { first = 0; count = 0 }) c.loop-run-test.true,
      c.loop-run.invariant.1,
      c.requires.few,
    )

pub loop-run-preserved : goal.loop-run-preserved
loop-run-preserved c = (
  numbers_more c.args.runs.now c.loop-run.run-index _ c.loop-run.numbers.items _ c.loop-run-test.true
      c.loop-run.invariant.0 c.add_run.ensures.items,
  c.add_run.ensures.length ∙ pages_more c.args.runs.now c.loop-run.run-index _ _ c.loop-run-test.true
      c.loop-run.invariant.1,
)
