use Rattle.std.proofs.Common.{ap, arith}
use Rattle.svga_model.specs.Clients.{Client}
use Rattle.svga_pair.proofs.DriverLaws.{goes_then}
use Rattle.svga_pair.proofs.RaceLaws.{all_ended, ended, race_goes}
use Rattle.svga_pair.proofs.WaitLaws.{taken_then}
use Rattle.svga_script.specs.Acts.{act_of}
use Rattle.svga_pair.proofs.racing.race_script.Goals as goal

pub tell-failed-requires : goal.tell-failed-requires
tell-failed-requires g c = (c.in-Ok.ensures.ends 0).can_tell

pub loop-i-preserved : goal.loop-i-preserved
loop-i-preserved g c = (
  race_goes g.K.Sink.held g.K.Sink.faults c.args.script.now.acts c.loop-i.i (act_of c.act.result.now) _ _ _
      c.in-Ok.told _ _ _ _ _ (omega arith) c.act.ensures.act c.loop-i.invariant.0 c.in-Ok.ensures.ends
      c.tell-failed.ensures,
  goes_then c.args.driver.now c.loop-i.driver c.act_until.new.driver c.loop-i.i 1 c.loop-i.invariant.1
      c.in-Ok.ensures.goes,
  taken_then c.args.waiter.now c.loop-i.waiter c.act_until.new.waiter c.loop-i.invariant.2 c.in-Ok.ensures.waiter,
)

pub returns-in-Err-clause-client : goal.returns-in-Err-clause-client
returns-in-Err-clause-client g c =
    (ended g.K.Sink.held g.K.Sink.faults c.args.script.now c.args.driver.now c.loop-i.driver c.act_until.new.driver
    c.loop-i.i c.line.result (act_of c.act.result.now) c.in-Err.refused c.args.sink.now c.loop-i.sink c.loop-i.failed
    c.requires (omega arith) c.act.ensures.act c.line.ensures c.loop-i.invariant.0 c.loop-i.invariant.1
    c.in-Err.ensures.ends c.in-Err.ensures.goes).leaves.client

pub returns-in-Err-clause-refused : goal.returns-in-Err-clause-refused
returns-in-Err-clause-refused g c =
    (ended g.K.Sink.held g.K.Sink.faults c.args.script.now c.args.driver.now c.loop-i.driver c.act_until.new.driver
    c.loop-i.i c.line.result (act_of c.act.result.now) c.in-Err.refused c.args.sink.now c.loop-i.sink c.loop-i.failed
    c.requires (omega arith) c.act.ensures.act c.line.ensures c.loop-i.invariant.0 c.loop-i.invariant.1
    c.in-Err.ensures.ends c.in-Err.ensures.goes).leaves.told

pub returns-in-Err-clause-text : goal.returns-in-Err-clause-text
returns-in-Err-clause-text g c =
    (ended g.K.Sink.held g.K.Sink.faults c.args.script.now c.args.driver.now c.loop-i.driver c.act_until.new.driver
    c.loop-i.i c.line.result (act_of c.act.result.now) c.in-Err.refused c.args.sink.now c.loop-i.sink c.loop-i.failed
    c.requires (omega arith) c.act.ensures.act c.line.ensures c.loop-i.invariant.0 c.loop-i.invariant.1
    c.in-Err.ensures.ends c.in-Err.ensures.goes).leaves.text

pub returns-in-Err-clause-sent : goal.returns-in-Err-clause-sent
returns-in-Err-clause-sent g c =
    (ended g.K.Sink.held g.K.Sink.faults c.args.script.now c.args.driver.now c.loop-i.driver c.act_until.new.driver
    c.loop-i.i c.line.result (act_of c.act.result.now) c.in-Err.refused c.args.sink.now c.loop-i.sink c.loop-i.failed
    c.requires (omega arith) c.act.ensures.act c.line.ensures c.loop-i.invariant.0 c.loop-i.invariant.1
    c.in-Err.ensures.ends c.in-Err.ensures.goes).sent

pub returns-in-Err-clause-stores : goal.returns-in-Err-clause-stores
returns-in-Err-clause-stores g c =
    (ended g.K.Sink.held g.K.Sink.faults c.args.script.now c.args.driver.now c.loop-i.driver c.act_until.new.driver
    c.loop-i.i c.line.result (act_of c.act.result.now) c.in-Err.refused c.args.sink.now c.loop-i.sink c.loop-i.failed
    c.requires (omega arith) c.act.ensures.act c.line.ensures c.loop-i.invariant.0 c.loop-i.invariant.1
    c.in-Err.ensures.ends c.in-Err.ensures.goes).stores

pub returns-in-Err-clause-lent : goal.returns-in-Err-clause-lent
returns-in-Err-clause-lent g c = ap (λ (x : Client). x.lent)
    (ended g.K.Sink.held g.K.Sink.faults c.args.script.now c.args.driver.now c.loop-i.driver c.act_until.new.driver
    c.loop-i.i c.line.result (act_of c.act.result.now) c.in-Err.refused c.args.sink.now c.loop-i.sink c.loop-i.failed
    c.requires (omega arith) c.act.ensures.act c.line.ensures c.loop-i.invariant.0 c.loop-i.invariant.1
    c.in-Err.ensures.ends c.in-Err.ensures.goes).leaves.client

pub returns-clause-client : goal.returns-clause-client
returns-clause-client g c =
    (all_ended g.K.Sink.held g.K.Sink.faults c.args.script.now c.args.driver.now c.loop-i.driver c.loop-i.i
    c.args.sink.now c.loop-i.sink c.loop-i.failed c.requires (omega arith) c.loop-i.invariant.0
    c.loop-i.invariant.1).leaves.client

pub returns-clause-refused : goal.returns-clause-refused
returns-clause-refused g c =
    (all_ended g.K.Sink.held g.K.Sink.faults c.args.script.now c.args.driver.now c.loop-i.driver c.loop-i.i
    c.args.sink.now c.loop-i.sink c.loop-i.failed c.requires (omega arith) c.loop-i.invariant.0
    c.loop-i.invariant.1).leaves.told

pub returns-clause-text : goal.returns-clause-text
returns-clause-text g c =
    (all_ended g.K.Sink.held g.K.Sink.faults c.args.script.now c.args.driver.now c.loop-i.driver c.loop-i.i
    c.args.sink.now c.loop-i.sink c.loop-i.failed c.requires (omega arith) c.loop-i.invariant.0
    c.loop-i.invariant.1).leaves.text

pub returns-clause-sent : goal.returns-clause-sent
returns-clause-sent g c =
    (all_ended g.K.Sink.held g.K.Sink.faults c.args.script.now c.args.driver.now c.loop-i.driver c.loop-i.i
    c.args.sink.now c.loop-i.sink c.loop-i.failed c.requires (omega arith) c.loop-i.invariant.0
    c.loop-i.invariant.1).sent

pub returns-clause-stores : goal.returns-clause-stores
returns-clause-stores g c =
    (all_ended g.K.Sink.held g.K.Sink.faults c.args.script.now c.args.driver.now c.loop-i.driver c.loop-i.i
    c.args.sink.now c.loop-i.sink c.loop-i.failed c.requires (omega arith) c.loop-i.invariant.0
    c.loop-i.invariant.1).stores

pub returns-clause-lent : goal.returns-clause-lent
returns-clause-lent g c = ap (λ (x : Client). x.lent)
    (all_ended g.K.Sink.held g.K.Sink.faults c.args.script.now c.args.driver.now c.loop-i.driver c.loop-i.i
    c.args.sink.now c.loop-i.sink c.loop-i.failed c.requires (omega arith) c.loop-i.invariant.0
    c.loop-i.invariant.1).leaves.client
