use Rattle.std.proofs.Common.{sym}
use Rattle.svga_screen.proofs.PixelLaws.{slice_get-rows_from, slice_get-rows_from_past}
use Rattle.svga_screen.proofs.picture.row_in.Goals as goal

pub returns-then-y-def-clause-row : goal.returns-then-y-def-clause-row
returns-then-y-def-clause-row c = sym (slice_get-rows_from c.args.def.now.width c.args.def.now.height c.args.pixels.now c.args.y c.if-y-def.true)

pub returns-else-y-def-clause-row : goal.returns-else-y-def-clause-row
returns-else-y-def-clause-row c = sym (slice_get-rows_from_past c.args.def.now.width c.args.def.now.height c.args.pixels.now c.args.y c.if-y-def.false)
