use Rattle.std.proofs.Common.{arith}
use Rattle.svga_rows.proofs.RowsLaws.{lists_of-write}
use Rattle.svga_rows.proofs.rows.fill_at.Goals as goal

pub returns : goal.returns
returns g c = lists_of-write c.args.starts.now c.args.items.now c.fill_part.new.items c.args.number c.args.from (g.F.Fill.values c.args.filler.now) c.requires.starts c.fill_part.auto.items c.requires.within (omega arith) c.fill_part.ensures.before c.fill_part.ensures.there c.fill_part.ensures.behind
