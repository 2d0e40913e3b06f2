use Rattle.std.proofs.Common.{◌-◌, ◌/◌, arith}
use Rattle.svga_model.proofs.Turns.{address_within, address_beyond}
use Rattle.svga_ring.specs.Rings.{dwords_of}
use Rattle.svga_ring.proofs.plans.plan.Goals as goal

pub returns-then-bytes-free-clause-pieces : goal.returns-then-bytes-free-clause-pieces
returns-then-bytes-free-clause-pieces c =
    λ sent taken counts. omega (arith, c.free-free.ensures.dwords sent taken counts)

pub returns-then-next-bytes-clause-pieces : goal.returns-then-next-bytes-clause-pieces
returns-then-next-bytes-clause-pieces c = λ sent taken counts.
    let ring = dwords_of c.args.geometry in
    let first = (c.args.geometry.max - c.args.next) / 4 in (
      omega (arith, c.free-free.ensures.dwords sent taken counts),
      (λ i within. omega (arith, address_within c.args.geometry.min ring sent first i (omega arith) within)),
      (λ i within. address_beyond c.args.geometry.min ring sent first i (omega arith) (omega arith)),
    )

pub returns-else-next-bytes-clause-pieces : goal.returns-else-next-bytes-clause-pieces
returns-else-next-bytes-clause-pieces c = λ sent taken counts. (
  omega (arith, c.free-free.ensures.dwords sent taken counts),
  (λ i within. omega (
    arith,
    address_within c.args.geometry.min (dwords_of c.args.geometry) sent
        (c.args.bytes / 4) i (omega arith) within,
  )),
)
