use Rattle.std.proofs.Common.{arith}
use Rattle.svga_model.specs.ClientActs.{calls_of}
use Rattle.svga_pair.proofs.ActLaws.{act_goes, act_goes_on, act_refused, still_short}
use Rattle.svga_pair.proofs.WaitLaws.{taken_then}
use Rattle.svga_script.specs.Acts.{act_of}
use Rattle.svga_pair.proofs.acting.act_until.Goals as goal

pub call_until-requires-clause-short : goal.call_until-requires-clause-short
call_until-requires-clause-short g c =
    still_short c.args.driver.now c.loop-k.driver (calls_of (act_of c.args.act.now)) c.loop-k.k c.loop-k.told
    (omega arith) c.loop-k.invariant.0 c.requires.short

pub returns-in-Err-clause-ends : goal.returns-in-Err-clause-ends
returns-in-Err-clause-ends g c =
    act_refused c.args.driver.now c.loop-k.driver c.call_until.new.driver (act_of c.args.act.now) c.loop-k.k
    c.loop-k.told c.in-Err.refused (omega arith) c.loop-k.invariant.0 c.in-Err.ensures.ends

pub returns-in-Err-clause-goes : goal.returns-in-Err-clause-goes
returns-in-Err-clause-goes g c =
    act_goes_on c.args.driver.now c.loop-k.driver c.call_until.new.driver (act_of c.args.act.now) c.loop-k.k
    c.loop-k.told c.in-Err.refused (omega arith) c.loop-k.invariant.0 c.in-Err.ensures.ends

pub loop-k-preserved : goal.loop-k-preserved
loop-k-preserved g c = (
  act_goes c.args.driver.now c.loop-k.driver c.call_until.new.driver (act_of c.args.act.now) c.loop-k.k
      c.loop-k.told c.in-Ok.more (omega arith) c.loop-k.invariant.0 c.in-Ok.ensures.ends,
  taken_then c.args.waiter.now c.loop-k.waiter c.call_until.new.waiter c.loop-k.invariant.1 c.in-Ok.ensures.waiter,
)
