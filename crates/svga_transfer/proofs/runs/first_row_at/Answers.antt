use Rattle.std.proofs.Common.{rules, ◌≡◌, sym, ap, subst, ◌∙◌, ℤ, FitsSigned, w32, w64, to_z, of_z}
use Rattle.std.proofs.lemmas.Int.{to_z-of_z}
use Rattle.std.specs.Int.{int_max}
use Rattle.svga_transfer.proofs.StretchRows.{above}
use Rattle.svga_transfer.specs.Stretches.{HasNoRow}
use Rattle.svga_transfer.proofs.runs.first_row_at.Goals as goal

pub returns-then-y-place-clause-bare : goal.returns-then-y-place-clause-bare
returns-then-y-place-clause-bare c =
    let row = c.ranges.y in
    let first : FitsSigned w32 c.args.site.y = search rules in
    let corner : FitsSigned w64 c.from.result = search rules in
    let from = simp to_z-of_z at c.from.ensures in
    let max = simp to_z-of_z at c.max.ensures.value in
    let is : to_z w64 (of_z w64 c.max.result) ≡ int_max c.args.y c.args.site.y =
    to_z-of_z w64 c.max.result (search rules) ∙ max ∙ ap (λ (z : ℤ). int_max c.args.y z) from in
    subst (λ (z : ℤ). HasNoRow c.args.site c.args.y z) (sym is) (above c.args.site c.args.y)
