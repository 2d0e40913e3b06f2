use Rattle.std.proofs.Common.{ap, sym, ◌∙◌}
use Rattle.svga_link.proofs.Opening.{driver_opens}
use Rattle.svga_link.proofs.driver_seat.DriverSeat.new.Goals as goal

pub invariant_of-result-2 : goal.invariant_of-result-2
invariant_of-result-2 c = (
  record {
    one_table = c.requires.table;
    key_is = c.requires.key;
    words = ap (λ t. t.words) (sym c.requires.table) ∙ c.requires.words;
    slots = ap (λ t. t.slots) (sym c.requires.table) ∙ c.requires.slots;
  },
  driver_opens _ _ c.requires.opening,
)
