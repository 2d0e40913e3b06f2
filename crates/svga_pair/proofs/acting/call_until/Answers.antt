use Rattle.svga_pair.proofs.DriverLaws.{ends_refused, polls, waits}
use Rattle.svga_pair.proofs.WaitLaws.{one_taken}
use Rattle.svga_pair.specs.Calls.{call_at, commit_count}
use Rattle.svga_script.specs.Acts.{act_of}
use Rattle.svga_pair.proofs.acting.call_until.Goals as goal

pub returns-in-Refused-clause-ends : goal.returns-in-Refused-clause-ends
returns-in-Refused-clause-ends g c =
    ends_refused c.args.driver.now c.loop.driver c.attempt.new.driver (call_at (act_of c.args.act.now) c.args.k)
    c.in-Refused.refused c.loop.invariant.2 c.in-Refused.ensures

pub loop-preserved-in-Again : goal.loop-preserved-in-Again
loop-preserved-in-Again g c = (
  tt,
  tt,
  waits c.args.driver.now c.loop.driver c.attempt.new.driver (commit_count (call_at (act_of c.args.act.now) c.args.k))
      c.loop.invariant.2 c.in-Again.ensures.answer c.in-Again.ensures.goes,
  one_taken c.args.waiter.now c.loop.waiter c.turn.new.self c.loop.invariant.3 c.turn.ensures.table
      c.turn.ensures.shows,
)

pub loop-preserved : goal.loop-preserved
loop-preserved g c = (
  tt,
  tt,
  polls c.args.driver.now c.attempt.new.driver c.poll.new.self c.poll.result
      (waits c.args.driver.now c.loop.driver c.attempt.new.driver
      (commit_count (call_at (act_of c.args.act.now) c.args.k)) c.loop.invariant.2 c.in-Unseen.ensures.answer
      c.in-Unseen.ensures.goes)
      c.poll.ensures,
  one_taken c.args.waiter.now c.loop.waiter c.turn-in-Unseen.new.self c.loop.invariant.3
      c.turn-in-Unseen.ensures.table c.turn-in-Unseen.ensures.shows,
)
