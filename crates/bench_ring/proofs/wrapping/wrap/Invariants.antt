use Rattle.std.proofs.Common.{◌+◌, ◌*◌, ◌≤◌, length, IsTrue}
use Rattle.bench_ring.specs.Passing.{IsReady, IsWaiting}
use Rattle.bench_ring.proofs.wrapping.wrap.Given as goal

-- so many commands have passed behind the first
abbrev pub invariant-loop-n : goal.invariant-loop-n
invariant-loop-n g l = record {
  ready : IsReady l.driver;
  sent : length l.driver.view.sent ≤ 5 * l.n + 5;
  waiting : IsTrue l.passed.whole → IsWaiting l.device.view;
}
