use Rattle.std.proofs.Common.{arith}
use Rattle.std.proofs.lemmas.Int.{ints, clamps}
use Rattle.svga_transfer.proofs.runs.steps.Goals as goal

pub returns : goal.returns
returns c = record {
  within = omega (arith, ints, clamps);
  before = λ low. omega (arith, ints, clamps);
  between = λ low high. omega (arith, ints, clamps);
  past = λ high. omega (arith, ints, clamps);
}
