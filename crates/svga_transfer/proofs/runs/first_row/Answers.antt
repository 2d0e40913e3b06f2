use Rattle.std.proofs.Common.{rules, sym, subst, ◌∙◌, ℤ, ◌≤ℤ◌, ◌<ℤ◌, w64, to_z, of_z}
use Rattle.std.proofs.lemmas.Int.{to_z-of_z}
use Rattle.svga_model.specs.Screens.{definitions_of}
use Rattle.svga_transfer.proofs.StretchLaws.{same_side}
use Rattle.svga_transfer.proofs.StretchRows.{rows_beside, rows_off}
use Rattle.svga_transfer.specs.Stretches.{HasNoRow}
use Rattle.svga_transfer.proofs.runs.first_row.Goals as goal

pub returns-then-has_columns-clause-bare : goal.returns-then-has_columns-clause-bare
returns-then-has_columns-clause-bare c =
    let row = c.ranges.y in
    let site = c.in-Some.ensures {u = tt} in
    let bare = simp to_z-of_z at c.first_row_at.ensures.bare in
    let is = sym (to_z-of_z w64 c.first_row_at.result (search rules)) in
    rows_off (definitions_of c.args.screens.now.screens) c.args.blit.now _ _ (sym site.place) _ _
    (subst (λ (z : ℤ). HasNoRow c.in-Some.site c.args.y z) is bare)

pub returns-else-has_columns-clause-bare : goal.returns-else-has_columns-clause-bare
returns-else-has_columns-clause-bare c =
    let site = c.in-Some.ensures {u = tt} in
    rows_beside (definitions_of c.args.screens.now.screens) c.args.blit.now _ _ (sym site.place) _ _
    (sym c.has_columns.ensures ∙ c.if-has_columns.false)

pub returns-then-has_columns-clause-from : goal.returns-then-has_columns-clause-from
returns-then-has_columns-clause-from c =
    let found = c.first_row_at.result in
    let bottom = c.args.blit.now.rect.bottom in
    let row = to_z w64 (of_z w64 c.args.y) in
    let is = same_side bottom c.from-bottom.result (search rules) (search rules) c.from-bottom.ensures in
    let from = subst (λ (z : ℤ). found <ℤ z → row ≤ℤ found) is c.first_row_at.ensures.from in
    subst (λ (z : ℤ). z <ℤ bottom → c.args.y ≤ℤ z) (sym (to_z-of_z w64 found (search rules)))
    (subst (λ (z : ℤ). found <ℤ bottom → z ≤ℤ found) (to_z-of_z w64 c.args.y c.ranges.y) from)
