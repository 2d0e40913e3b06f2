use Rattle.std.proofs.Common.{arith}
use Rattle.svga_model.proofs.Turns.{mod_turn, address_turn}
use Rattle.svga_model.proofs.addresses.one_turn.Goals as goal

pub returns-clause-apart : goal.returns-clause-apart
returns-clause-apart c = λ low dwords i j after near same.
    let turn = mod_turn dwords j i (omega arith) near in omega (arith, turn)

pub returns-clause-full : goal.returns-clause-full
returns-clause-full c = address_turn
