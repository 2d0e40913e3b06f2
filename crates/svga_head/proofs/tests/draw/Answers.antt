use Rattle.svga_head.proofs.Drawn.{may_paint_first}
use Rattle.svga_head.proofs.tests.draw.Goals as goal

pub paint-requires-clause-there : goal.paint-requires-clause-there
paint-requires-clause-there g c = may_paint_first g.B.Head.state _ _ c.show.ensures
