use Rattle.svga_link.proofs.WordByWord.{IsSentUpTo}
use Rattle.svga_link.proofs.sending.send_by_dword.Given as goal

abbrev pub invariant-loop-i : goal.invariant-loop-i
invariant-loop-i l = IsSentUpTo l.fn.seat l.words l.i l.seat
