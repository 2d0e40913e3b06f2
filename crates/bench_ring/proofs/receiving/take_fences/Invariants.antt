use Rattle.bench_ring.specs.Passing.{IsWaiting}
use Rattle.bench_ring.proofs.receiving.take_fences.Given as goal

-- nothing is read
abbrev pub invariant-loop-n : goal.invariant-loop-n
invariant-loop-n g l = IsWaiting l.device.view
