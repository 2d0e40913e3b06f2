use Rattle.std.proofs.Common.{arith}
use Rattle.svga_decode.proofs.decoder.Decoder.new.Goals as goal

pub invariant_of-result : goal.invariant_of-result
invariant_of-result c = (
  record { accepted = λ i l. absurd (omega arith); short = omega arith },
  omega (arith, c.in_ok-buffer.ensures.len),
  omega arith,
)
