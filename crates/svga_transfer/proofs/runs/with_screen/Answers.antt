use Rattle.std.proofs.Common.{rules, ◌+◌, subst, ℤ, FitsSigned, w32, w64}
use Rattle.std.proofs.lemmas.Int.{to_z-of_z}
use Rattle.svga_model.specs.Screens.{definitions_of}
use Rattle.svga_transfer.proofs.StretchJoins.{next_with}
use Rattle.svga_transfer.specs.Stretches.{IsNextOf}
use Rattle.svga_transfer.proofs.runs.with_screen.Goals as goal

pub returns : goal.returns
returns c =
    let definitions = definitions_of c.args.screens.now.screens in
    let blit = c.args.blit.now in
    let id = c.args.id in
    let from = c.ranges.x in
    let row = c.ranges.y in
    let right : FitsSigned w32 c.args.blit.now.rect.right = search rules in
    let end : FitsSigned w64 c.next_column-end.result = search rules in
    let found = simp to_z-of_z at c.stretch.ensures in
    let column = simp to_z-of_z at c.next_column-end.ensures in
    rw c.or.ensures
    (next_with definitions blit id c.args.x blit.rect.right c.args.y c.args.next c.stretch.result c.requires.next
    (subst (λ (z : ℤ). IsNextOf definitions blit id (id + 1) c.args.x z c.args.y c.stretch.result) column found))
