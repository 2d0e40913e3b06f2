use Rattle.svga_pair.proofs.DriverLaws.{Stays}
use Rattle.svga_pair.specs.Waiting.{StepsOn}
use Rattle.svga_pair.proofs.acting.call_until.Given as goal

abbrev pub invariant-loop : goal.invariant-loop
invariant-loop g l =
    (goal.iterator-loop g).can_next l.iterator' × (goal.iterator-loop g).is_finite l.iterator'
    × Stays l.initial.driver l.driver
    × StepsOn g.W.Waiter.table g.W.Waiter.shows l.initial.waiter l.waiter
