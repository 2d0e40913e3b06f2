use Rattle.std.proofs.Common.{◌≡◌}
use Rattle.bench_ring.proofs.receiving.next.Given as goal

-- nothing is read
abbrev pub invariant-loop : goal.invariant-loop
invariant-loop g l =
    (goal.iterator-loop g).can_next l.iterator' × (goal.iterator-loop g).is_finite l.iterator'
    × (l.device.view.read ≡ l.initial.device.view.read) × (l.device.view.noted ≡ l.initial.device.view.noted)
