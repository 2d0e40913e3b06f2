use Rattle.svga_head.proofs.Drawn.{may_hide_drawn, may_paint_first}
use Rattle.svga_head.proofs.tests.draw_and_hide.Goals as goal

pub paint-requires-clause-there : goal.paint-requires-clause-there
paint-requires-clause-there g c = may_paint_first g.B.Head.state _ _ c.show.ensures

pub hide-requires : goal.hide-requires
hide-requires g c = may_hide_drawn g.B.Head.state _ _ c.show.ensures _ _ c.paint.ensures
