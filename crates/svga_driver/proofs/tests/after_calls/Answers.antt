use Rattle.std.proofs.Common.{ap, length, arith}
use Rattle.svga_driver.proofs.tests.after_calls.Goals as goal

pub loop-i-init : goal.loop-i-init
loop-i-init g c = omega (arith, ap length c.ends-driver.ensures.none_sent)

pub answer-requires : goal.answer-requires
answer-requires g c = omega (arith, c.loop-i.invariant, c.loop-i-test.true, c.requires)

pub loop-i-preserved : goal.loop-i-preserved
loop-i-preserved g c = omega (arith, c.loop-i.invariant, c.answer.ensures)
