-- Row by row, what is left of the blit gives the whole of it.
use Rattle.std.proofs.Common.{◌≡◌, ◌<◌, ap, sym, subst, ◌∙◌, pos, ◌+ℤ◌, ◌≤ℤ◌, FitsSigned, w64, to_z, of_z, rules, arith}
use Rattle.std.proofs.lemmas.Int.{ints, to_z-of_z}
use Rattle.std.specs.Int.{int_gap}
use Rattle.svga_model.specs.Memories.{written}
use Rattle.svga_transfer.specs.Backs.{writes_along}
use Rattle.svga_transfer.proofs.BackRanges.{gap_less}
use Rattle.svga_transfer.proofs.BackSteps.{all_done, row_next, rows_are}
use Rattle.svga_transfer.proofs.ByteKeys.{written_pages_keep}
use Rattle.svga_transfer.proofs.back.blit_to_region.Goals as goal

pub returns-in_default-clause-written : goal.returns-in_default-clause-written
returns-in_default-clause-written g c =
    all_done _ _ _ _ _ _ _ c.in_default.ensures.none c.loop-from.invariant.left
    ∙ ap (written _ _) (sym (rows_are _ _ _))

pub loop-from-smaller : goal.loop-from-smaller
loop-from-smaller g c =
    let y = c.in-Some.y in
    let bottom = c.args.blit.now.rect.bottom in
    let from = to_z w64 c.loop-from.from-bits in
    let found = c.in-Some.ensures.found in
    let next : to_z w64 (of_z w64 (to_z w64 (of_z w64 y) +ℤ pos 1)) ≡ y +ℤ pos 1 =
    omega (arith, ints, found.0, found.1) in
    subst (λ z. int_gap z bottom < int_gap from bottom) (sym next)
    (gap_less from (y +ℤ pos 1) bottom (omega (arith, ints, found.0)) (omega (arith, ints, found.1)))

pub loop-from-preserved : goal.loop-from-preserved
loop-from-preserved g c =
    let b = c.args.blit.now in
    let y = c.in-Some.y in
    let found = c.in-Some.ensures.found in
    let low = found.0 in
    let high = found.1 in
    let next : y +ℤ pos 1 ≡ to_z w64 (of_z w64 (to_z w64 (of_z w64 y) +ℤ pos 1)) = omega (arith, ints) in
    let fits : FitsSigned w64 y = search rules in
    let done = simp to_z-of_z at c.back_row.ensures.written in
    record {
      below = omega (arith, ints);
      there = written_pages_keep _ _ _ (writes_along c.args.screens.now.screens c.args.gmrfb.now b y b.rect.left
          b.rect.right) done c.loop-from.invariant.there;
      left = row_next _ _ _ _ _ _ _ _ _ _ low high found.2 next done c.loop-from.invariant.left;
      rest = c.back_row.ensures.rest ∙ c.loop-from.invariant.rest;
    }

pub returns-clause-written : goal.returns-clause-written
returns-clause-written g c =
    let end : c.args.blit.now.rect.bottom ≤ℤ to_z w64 c.loop-from.from-bits = omega (arith, ints) in
    all_done _ _ _ _ _ _ _ (λ Y low high. absurd (omega (arith, ints))) c.loop-from.invariant.left
    ∙ ap (written _ _) (sym (rows_are _ _ _))
