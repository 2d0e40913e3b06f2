use Rattle.std.proofs.Common.{rules, ◌≡◌, sym, ap, ◌∙◌, ℤ, int_lt, w64, to_z, of_z}
use Rattle.std.proofs.lemmas.Int.{to_z-of_z}
use Rattle.std.specs.Int.{int_min}
use Rattle.std.specs.Int.Signed.{≤ℤ_refl}
use Rattle.svga_model.specs.Screens.{definitions_of}
use Rattle.svga_transfer.proofs.RunLists.{rows_of_all}
use Rattle.svga_transfer.proofs.StretchLaws.{same_side}
use Rattle.svga_transfer.proofs.StretchRows.{lesser_row}
use Rattle.svga_transfer.proofs.WholeTests.{is_below, not_below}
use Rattle.svga_transfer.proofs.runs.next_row.Goals as goal

pub loop-id-preserved : goal.loop-id-preserved
loop-id-preserved c =
    let y = to_z w64 (of_z w64 c.args.y) in
    let row = to_z w64 c.loop-id.row-bits in
    let found = c.first_row.result in
    let least = to_z w64 (of_z w64 c.min-row.result) in
    let is : least ≡ int_min row found =
    to_z-of_z w64 c.min-row.result (search rules) ∙ c.min-row.ensures.value
    ∙ ap (λ (z : ℤ). int_min row z) (to_z-of_z w64 found (search rules)) in
    let kept = c.loop-id.invariant in
    let more = lesser_row (definitions_of c.args.screens.now.screens) c.args.blit.now c.loop-id.id y row found least
    is kept.within kept.from c.first_row.ensures.from kept.bare c.first_row.ensures.bare in
    record { within = more.0; from = more.1; bare = more.2 }

pub returns-then-row-bottom-clause-found : goal.returns-then-row-bottom-clause-found
returns-then-row-bottom-clause-found c =
    let first = c.ranges.y in
    let row = to_z w64 c.loop-id.row-bits in
    let is = same_side _ _ (search rules) (search rules) c.from-bottom.ensures in
    let above = is_below row _ (ap (int_lt row) (sym is) ∙ c.if-row-bottom.true) in
    let from = simp to_z-of_z at c.loop-id.invariant.from in
    let all = rows_of_all (definitions_of c.args.screens.now.screens) c.args.blit.now _ _ row row
    c.loop-id-test.false c.loop-id.auto.id-end (≤ℤ_refl row) (simp to_z-of_z at c.loop-id.invariant.bare) in
    (from above, above, all)

pub returns-else-row-bottom-clause-none : goal.returns-else-row-bottom-clause-none
returns-else-row-bottom-clause-none c =
    let first = c.ranges.y in
    let row = to_z w64 c.loop-id.row-bits in
    let is = same_side _ _ (search rules) (search rules) c.from-bottom.ensures in
    let within = not_below row _ (ap (int_lt row) (sym is) ∙ c.if-row-bottom.false) in
    rows_of_all (definitions_of c.args.screens.now.screens) c.args.blit.now _ _ _ row c.loop-id-test.false
    c.loop-id.auto.id-end within (simp to_z-of_z at c.loop-id.invariant.bare)
