use Rattle.std.proofs.Common.{◌≡◌, ◌≤◌, ◌*◌, length}
use Rattle.bench_ring.specs.Passing.{IsReady, fence_count}
use Rattle.bench_ring.proofs.sending.send_all.Given as goal

-- so many commands are sent
abbrev pub invariant-loop-n : goal.invariant-loop-n
invariant-loop-n g l = record {
  ready : IsReady l.driver;
  terms : l.driver.view.terms ≡ l.initial.driver.view.terms;
  sent : length l.driver.view.sent ≤ 5 * l.n;
  fences : l.fences ≡ fence_count l.driver.view;
  few : 16 * l.fences ≤ l.n;
}
