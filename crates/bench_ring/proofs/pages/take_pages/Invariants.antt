use Rattle.std.proofs.Common.{◌≡◌, ◌≤◌, ◌+◌}
use Rattle.bench_ring.specs.Lendings.{AreLent, HasSeenAll, SendsFences}
use Rattle.bench_ring.specs.Passing.{fence_count}
use Rattle.bench_ring.proofs.pages.take_pages.Given as goal

-- the pages from here on are lent
abbrev pub invariant-loop-page : goal.invariant-loop-page
invariant-loop-page l = record {
  sends : SendsFences l.driver;
  lent : AreLent l.driver.view.lent l.page l.past;
  behind : HasSeenAll l.driver.view;
  fences : fence_count l.driver.view ≡ fence_count l.initial.driver.view;
  found : l.from + l.found ≤ l.page;
}
