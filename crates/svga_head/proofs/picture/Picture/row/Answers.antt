use Rattle.std.proofs.Common.{sym, ap, ◌∙◌}
use Rattle.std.specs.Prelude.{slice_get, slice_range, Some, ◌+◌, ◌*◌}
use Rattle.svga_head.proofs.picture.Picture.row.Goals as goal
use Rattle.svga_screen.proofs.PixelLaws.{slice_get-rows_from, slice_get-rows_from_past}

pub returns-then-y-self : goal.returns-then-y-self
returns-then-y-self c =
    ap (λ px. Some (slice_range px (c.args.y * c.self.inside.width) (c.args.y * c.self.inside.width + c.self.inside.width))) c.deref.ensures.value
    ∙ sym (slice_get-rows_from c.self.inside.width c.self.inside.height c.self.inside.pixels.items c.args.y c.if-y-self.true)
    ∙ ap (λ rows. slice_get rows c.args.y) c.self.view_is

pub returns-else-y-self : goal.returns-else-y-self
returns-else-y-self c = sym (slice_get-rows_from_past c.self.inside.width c.self.inside.height c.self.inside.pixels.items c.args.y c.if-y-self.false) ∙ ap (λ rows. slice_get rows c.args.y) c.self.view_is
