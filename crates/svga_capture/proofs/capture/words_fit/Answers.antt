use Rattle.std.proofs.Common.{arith}
use Rattle.svga_capture.proofs.OpeningWhole.{words_small}
use Rattle.svga_capture.proofs.capture.words_fit.Goals as goal

pub returns : goal.returns
returns c = words_small c.args.bytes.now (λ i. omega (arith, c.type_inv.bytes i))
