use Rattle.std.proofs.Common.{take}
use Rattle.svga_driver.specs.Driving.{client_in}
use Rattle.svga_model.specs.Meanings.{line_calls}
use Rattle.svga_pair.specs.Going.{GoesOn}
use Rattle.svga_pair.specs.Racing.{HasRaced}
use Rattle.svga_pair.specs.Waiting.{StepsOn}
use Rattle.svga_pair.proofs.racing.race_script.Given as goal

abbrev pub invariant-loop-i : goal.invariant-loop-i
invariant-loop-i g l =
    HasRaced g.K.Sink.held g.K.Sink.faults (client_in l.initial.driver) (line_calls (take l.i l.script.acts))
    (client_in l.driver) l.initial.sink l.sink l.failed
    × GoesOn l.initial.driver l.i l.driver
    × StepsOn g.W.Waiter.table g.W.Waiter.shows l.initial.waiter l.waiter
