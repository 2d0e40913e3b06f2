use Rattle.std.proofs.Common.{◌≡◌, List}
use Rattle.svga_head.specs.PlugStates.{PlugState}
use Rattle.svga_pair.specs.RaceDrivers.{HasSettled}
use Rattle.svga_pair.proofs.stopping.settle.Given as goal

abbrev pub invariant-loop : goal.invariant-loop
invariant-loop g l =
    (goal.iterator-loop g).can_next l.iterator' × (goal.iterator-loop g).is_finite l.iterator'
    × HasSettled l.initial.driver l.driver
    × (g.W.Waiter.table l.waiter ≡ g.W.Waiter.table l.initial.waiter)
    × ((first : List PlugState) → g.W.Waiter.shows l.initial.waiter first → g.W.Waiter.shows l.waiter first)
