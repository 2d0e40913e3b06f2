use Rattle.std.proofs.Common.{◌≡◌, take}
use Rattle.svga_link.specs.Told.{with_all_pending}
use Rattle.svga_link.proofs.sending.copy.Given as goal

abbrev pub invariant-loop-i : goal.invariant-loop-i
invariant-loop-i l = l.seat ≡ record l.initial.seat { view = with_all_pending l.initial.seat.view (take l.i l.words) }
