-- The command in hand is the next one, and none is left out.
use Rattle.svga_ring.proofs.Words.Told.{all_done, in_hand}
use Rattle.svga_ring.proofs.core_loads.taken_in_order.Goals as goal

pub returns-clause-in_hand : goal.returns-clause-in_hand
returns-clause-in_hand c = λ k core command sound spells. (in_hand command sound spells).is

pub returns-clause-all : goal.returns-clause-all
returns-clause-all c = λ k core sound. all_done sound
