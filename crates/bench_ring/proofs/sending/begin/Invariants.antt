use Rattle.bench_ring.specs.Passing.{IsReady, Stays}
use Rattle.bench_ring.proofs.sending.begin.Given as goal

-- it is as ready as it was
abbrev pub invariant-loop : goal.invariant-loop
invariant-loop g l =
    (goal.iterator-loop g).can_next l.iterator' × (goal.iterator-loop g).is_finite l.iterator'
    × IsReady l.driver × Stays l.initial.driver.view l.driver.view
