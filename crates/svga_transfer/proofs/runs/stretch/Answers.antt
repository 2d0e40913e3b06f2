use Rattle.std.proofs.Common.{sym, ◌∙◌}
use Rattle.std.proofs.lemmas.Int.{to_z-of_z}
use Rattle.svga_model.specs.Screens.{definitions_of}
use Rattle.svga_transfer.proofs.StretchPixels.{bare_off, next}
use Rattle.svga_transfer.proofs.runs.stretch.Goals as goal

pub returns-then-has_row : goal.returns-then-has_row
returns-then-has_row c =
    let left = c.ranges.x in
    let right = c.ranges.end in
    let row = c.ranges.y in
    let site = c.in_ok-site.ensures {u = tt} in
    next (definitions_of c.args.screens.now.screens) c.args.blit.now _ _ (sym site.place) _ _ _ _ site.short
    (simp to_z-of_z at c.stretch_at.ensures.some) (simp to_z-of_z at c.stretch_at.ensures.none)

pub returns-else-has_row : goal.returns-else-has_row
returns-else-has_row c =
    let row = c.ranges.y in
    let site = c.in_ok-site.ensures {u = tt} in
    bare_off (definitions_of c.args.screens.now.screens) c.args.blit.now _ _ (sym site.place) _ _ _
    (sym (simp to_z-of_z at c.has_row.ensures) ∙ c.if-has_row.false)
