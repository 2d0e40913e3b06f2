use Rattle.std.proofs.Common.{◌/◌, arith}
use Rattle.svga_model.proofs.Turns.{add-mod_turn}
use Rattle.svga_ring.specs.Rings.{dwords_of}
use Rattle.svga_ring.proofs.plans.advance.Goals as goal

pub returns-then-end-geometry-clause-address : goal.returns-then-end-geometry-clause-address
returns-then-end-geometry-clause-address c =
    λ n here. let turn = add-mod_turn (dwords_of c.args.geometry) n (c.args.bytes / 4) (omega arith) in
    omega (arith, turn)

pub returns-else-end-geometry-clause-address : goal.returns-else-end-geometry-clause-address
returns-else-end-geometry-clause-address c =
    λ n here. let turn = add-mod_turn (dwords_of c.args.geometry) n (c.args.bytes / 4) (omega arith) in
    omega (arith, turn)
