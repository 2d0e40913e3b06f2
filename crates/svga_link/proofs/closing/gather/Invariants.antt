use Rattle.std.proofs.Common.{◌≡◌}
use Rattle.svga_link.specs.Closing.{AreGathered}
use Rattle.svga_link.proofs.closing.gather.Given as goal

-- the pages of the slots so far are there
abbrev pub invariant-loop-slot : goal.invariant-loop-slot
invariant-loop-slot l = record {
  table : l.seat.table_id ≡ l.initial.seat.table_id;
  gathered : AreGathered l.initial.seat.me.0 l.initial.row.items l.slot l.seat.me.0 l.row.items;
}
