use Rattle.std.proofs.Common.{◌≡◌}
use Rattle.bench_ring.specs.Lendings.{AreLent, SendsFences}
use Rattle.bench_ring.specs.Passing.{fence_count}
use Rattle.bench_ring.proofs.pages.lend_pages.Given as goal

-- the pages so far are lent
abbrev pub invariant-loop-page : goal.invariant-loop-page
invariant-loop-page l = record {
  sends : SendsFences l.driver;
  lent : AreLent l.driver.view.lent l.from l.page;
  fences : fence_count l.driver.view ≡ fence_count l.initial.driver.view;
}
