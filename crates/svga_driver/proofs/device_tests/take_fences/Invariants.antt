use Rattle.std.proofs.Common.{◌≡◌, ◌≤◌, ◌*◌, [], length}
use Rattle.std.specs.FinMap as map
use Rattle.svga_driver.specs.Driving.{MAX_SENT_WORDS}
use Rattle.svga_driver.proofs.device_tests.take_fences.Given as goal

-- each call sent the words of one command at most, and the device has none in hand
abbrev pub invariant-loop-k : goal.invariant-loop-k
invariant-loop-k g l = (length l.driver.view.sent ≤ MAX_SENT_WORDS * l.k) × (l.device.view.read ≡ [])
    × (l.device.view.noted ≡ map.empty)
