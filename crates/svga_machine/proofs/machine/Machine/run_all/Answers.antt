use Rattle.std.proofs.Common.{◌∙◌}
use Rattle.svga_machine.specs.MachineSet.{state_with}
use Rattle.svga_machine.proofs.AllRuns.{next_run, next_there}
use Rattle.svga_machine.proofs.machine.Machine.run_all.Goals as goal

pub run-requires-clause-there : goal.run-requires-clause-there
run-requires-clause-there g c = next_there c.args.commands.now c.loop-count.count _ (state_with c.loop-count.self (g.P.PageStore.pages c.loop-count.store)) c.loop-count-test.true c.loop-count.invariant.left.there

pub loop-count-preserved : goal.loop-count-preserved
loop-count-preserved g c = record {
  left = next_run c.args.commands.now c.loop-count.count _ (state_with c.args.self.now (g.P.PageStore.pages c.args.store.now)) (state_with c.loop-count.self (g.P.PageStore.pages c.loop-count.store))
      (state_with c.run.new.self (g.P.PageStore.pages c.run.new.store)) c.loop-count-test.true c.loop-count.invariant.left c.in_default.ensures.fault c.in_default.ensures.ok;
  chain = c.run.ensures.chain ∙ c.loop-count.invariant.chain;
  rest = c.run.ensures.rest ∙ c.loop-count.invariant.rest;
}
