use Rattle.std.proofs.Common.{arith}
use Rattle.svga_decode.proofs.words.SliceWords.new.Goals as goal

pub invariant_of-result-clause-numbers : goal.invariant_of-result-clause-numbers
invariant_of-result-clause-numbers c = λ i. omega (arith, c.type_inv.words i)
