use Rattle.svga_driver.proofs.ChainLaws.{IsWalking}
use Rattle.svga_driver.proofs.walking.walk.Given as goal

abbrev pub invariant-loop-step : goal.invariant-loop-step
invariant-loop-step l = IsWalking l.fn.end l.fn.shape l.id l.first l._step l.wanted l.end l.shape
