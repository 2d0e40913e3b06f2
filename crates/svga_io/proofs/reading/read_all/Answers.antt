use Rattle.std.proofs.KnownBytes.{Consumes-trans}
use Rattle.svga_io.proofs.reading.read_all.Goals as goal

pub returns-then-n-room-clause-front : goal.returns-then-n-room-clause-front
returns-then-n-room-clause-front g c = (_, Consumes-trans _ _ _ _ _ c.loop-bytes.invariant.taken c.in_ok-n.ensures.taken)

pub returns-in_err-extend_from_slice-clause-front : goal.returns-in_err-extend_from_slice-clause-front
returns-in_err-extend_from_slice-clause-front g c = (_, Consumes-trans _ _ _ _ _ c.loop-bytes.invariant.taken c.in_ok-n.ensures.taken)
