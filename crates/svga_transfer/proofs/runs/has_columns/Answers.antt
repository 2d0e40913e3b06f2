use Rattle.std.proofs.Common.{rules, sym, ◌&&◌, int_lt, w32, FitsSigned}
use Rattle.std.proofs.lemmas.Int.{to_z-of_z}
use Rattle.svga_transfer.proofs.StretchLaws.{same_place, same_side}
use Rattle.svga_transfer.proofs.runs.has_columns.Goals as goal

pub returns-then-site-rect : goal.returns-then-site-rect
returns-then-site-rect c =
    let left = same_side c.args.rect.left c.from.result (search rules) (search rules) c.from.ensures in
    let column : FitsSigned w32 c.args.site.x = search rules in
    let right : FitsSigned w32 c.args.rect.right = search rules in
    let end = same_place c.args.site.x c.place.result c.args.site.width column (search rules) c.place.ensures.value in
    let first = simp to_z-of_z at c.if-site-rect.true in
    (λ i. sym first i && int_lt (left i) (end i))
