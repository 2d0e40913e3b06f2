use Rattle.std.proofs.Common.{◌≡◌, drop}
use Rattle.svga_machine.proofs.AllRuns.{IsLeft}
use Rattle.svga_machine.proofs.machine.Machine.run_all.Given as goal
use Rattle.svga_machine.specs.Listed.{lent_acts}
use Rattle.svga_machine.specs.MachineSet.{state_with}

abbrev pub invariant-loop-count : goal.invariant-loop-count
invariant-loop-count g l = record {
  left : IsLeft (lent_acts l.commands) (lent_acts (drop l.count l.commands)) (state_with l.initial.self (g.P.PageStore.pages l.initial.store)) (state_with l.self (g.P.PageStore.pages l.store)) l.count;
  chain : l.self.chain ≡ l.initial.self.chain;
  rest : g.P.PageStore.rest l.store ≡ g.P.PageStore.rest l.initial.store;
}
