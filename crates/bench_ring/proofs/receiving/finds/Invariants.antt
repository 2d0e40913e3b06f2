use Rattle.std.proofs.Common.{◌≡◌, take}
use Rattle.bench_ring.proofs.receiving.finds.Given as goal

-- the words so far are read
abbrev pub invariant-loop-i : goal.invariant-loop-i
invariant-loop-i g l = record {
  read : l.device.view.read ≡ take l.i l.words;
  noted : l.device.view.noted ≡ l.initial.device.view.noted;
}
