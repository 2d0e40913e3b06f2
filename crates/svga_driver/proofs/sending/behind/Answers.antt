use Rattle.std.proofs.Common.{ap, ◌∙◌, arith}
use Rattle.svga_ring.specs.Rings.{address_in}
use Rattle.svga_driver.proofs.sending.behind.Goals as goal

pub returns : goal.returns
returns c = λ layout sent here. record {
  ring_is = here.ring_is;
  ring_good = here.ring_good;
  none_before = here.none_before;
  offset = c.advance.ensures.offset;
  next_is = c.advance.ensures.address sent here.next_is ∙ ap (address_in c.args.ring) (omega arith);
}
