use Rattle.svga_pair.specs.RaceDevices.{RunsOn}
use Rattle.svga_pair.proofs.running.run_device.Given as goal

abbrev pub invariant-loop : goal.invariant-loop
invariant-loop g l =
    (goal.iterator-loop g).can_next l.iterator' × (goal.iterator-loop g).is_finite l.iterator' × RunsOn l.fn.device l.device
