use Rattle.std.proofs.Common.{arith}
use Rattle.svga_pair.proofs.NumberLaws.{range_more}
use Rattle.svga_pair.proofs.page_numbers.add_run.Goals as goal

pub loop-k-preserved : goal.loop-k-preserved
loop-k-preserved c = (
  range_more c.args.numbers.now.items c.loop-k.numbers.items c.push.new.self.items c.args.run.first c.loop-k.k
      c.loop-k.invariant.0 c.push.ensures.items,
  omega (arith, c.push.ensures.len, c.loop-k.invariant.1),
)
