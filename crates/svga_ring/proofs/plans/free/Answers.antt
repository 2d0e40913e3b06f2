use Rattle.std.proofs.Common.{arith}
use Rattle.svga_model.proofs.Turns.{mod_turn}
use Rattle.svga_ring.specs.Rings.{dwords_of}
use Rattle.svga_ring.proofs.plans.free.Goals as goal

pub returns-then-next-stop-clause-dwords : goal.returns-then-next-stop-clause-dwords
returns-then-next-stop-clause-dwords c =
    λ sent taken counts. let turn = mod_turn (dwords_of c.args.geometry) sent taken counts.behind
    counts.room in omega (arith, turn)

pub returns-else-next-stop-clause-dwords : goal.returns-else-next-stop-clause-dwords
returns-else-next-stop-clause-dwords c =
    λ sent taken counts. let turn = mod_turn (dwords_of c.args.geometry) sent taken counts.behind
    counts.room in omega (arith, turn)
