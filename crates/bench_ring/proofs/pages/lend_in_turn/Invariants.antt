use Rattle.std.proofs.Common.{◌≡◌, ◌≤◌, ◌*◌}
use Rattle.bench_ring.specs.Lendings.{AreLent, SendsFences}
use Rattle.bench_ring.specs.Passing.{fence_count}
use Rattle.bench_ring.proofs.pages.lend_in_turn.Given as goal

-- no page is lent, and each turn sent a fence
abbrev pub invariant-loop-turn : goal.invariant-loop-turn
invariant-loop-turn g l = record {
  sends : SendsFences l.driver;
  none_lent : AreLent l.driver.view.lent 0 0;
  fences : fence_count l.driver.view ≡ l.turn;
  found : l.found ≤ 64 * l.turn;
}
