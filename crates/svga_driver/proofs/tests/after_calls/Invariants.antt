use Rattle.std.proofs.Common.{◌≤◌, length, ◌*◌}
use Rattle.svga_driver.specs.Driving.{MAX_SENT_WORDS}
use Rattle.svga_driver.proofs.tests.after_calls.Given as goal

-- each call sent the words of one command at most
abbrev pub invariant-loop-i : goal.invariant-loop-i
invariant-loop-i g l = length l.driver.view.sent ≤ MAX_SENT_WORDS * l.i-counter
