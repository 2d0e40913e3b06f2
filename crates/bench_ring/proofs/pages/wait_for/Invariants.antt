use Rattle.std.proofs.Common.{◌≡◌}
use Rattle.bench_ring.specs.Lendings.{SendsFences}
use Rattle.bench_ring.specs.Passing.{fence_count}
use Rattle.bench_ring.proofs.pages.wait_for.Given as goal

-- nothing but what is seen changes
abbrev pub invariant-loop : goal.invariant-loop
invariant-loop g l =
    (goal.iterator-loop g).can_next l.iterator' × (goal.iterator-loop g).is_finite l.iterator'
    × SendsFences l.driver × (l.driver.view.lent ≡ l.initial.driver.view.lent)
    × (fence_count l.driver.view ≡ fence_count l.initial.driver.view)
