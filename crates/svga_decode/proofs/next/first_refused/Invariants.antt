-- None of the words so far is refused.
use Rattle.std.proofs.Common.{◌-◌, drop}
use Rattle.svga_decode.specs.Nexts.{AreFirstAccepted}
use Rattle.svga_decode.proofs.next.first_refused.Given as goal

abbrev pub invariant-loop-i : goal.invariant-loop-i
invariant-loop-i g l = AreFirstAccepted (l.i - l.first) (drop l.first (g.W.Words.words l.words))
