use Rattle.std.proofs.Common.{arith, refl}
use Rattle.svga_ring.proofs.Table.Rule.{table_joins}
use Rattle.svga_link.proofs.closing.join.Goals as goal

pub join_seat-requires : goal.join_seat-requires
join_seat-requires c = (
  c.requires.table,
  c.requires.other_table,
  c.requires.none_carried,
  omega (arith, c.requires.words),
  table_joins _ _ _ _ _ _ c.requires.roles.0 c.requires.roles.1 refl c.requires.may,
)
