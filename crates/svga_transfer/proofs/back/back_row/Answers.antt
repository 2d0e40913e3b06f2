-- Run by run, what is left of the row gives the whole of it.
use Rattle.std.proofs.Common.{◌≡◌, ◌<◌, sym, subst, ◌∙◌, pos, ◌+ℤ◌, ◌≤ℤ◌, w64, to_z, of_z, arith}
use Rattle.std.proofs.lemmas.Int.{ints, to_z-of_z}
use Rattle.std.specs.Int.{int_gap}
use Rattle.svga_transfer.specs.Backs.{writes_along}
use Rattle.svga_transfer.proofs.BackRanges.{gap_less}
use Rattle.svga_transfer.proofs.BackSteps.{row_done, run_done}
use Rattle.svga_transfer.proofs.ByteKeys.{written_pages_keep}
use Rattle.svga_transfer.proofs.back.back_row.Goals as goal

pub returns-in_default-clause-written : goal.returns-in_default-clause-written
returns-in_default-clause-written g c =
    let row = c.ranges.y in
    row_done _ _ _ _ _ _ _ _ (simp to_z-of_z at c.in_default.ensures.none)
    (simp to_z-of_z at c.loop-from.invariant.left)

pub loop-from-smaller : goal.loop-from-smaller
loop-from-smaller g c =
    let run = c.in-Some.run' in
    let right = c.args.blit.now.rect.right in
    let from = to_z w64 c.loop-from.from-bits in
    let found = c.in-Some.ensures.found in
    let next : to_z w64 (of_z w64 (to_z w64 (of_z w64 run.from) +ℤ to_z w64 (of_z w64 c.from.result)))
    ≡ run.from +ℤ pos run.length = omega (arith, ints) in
    subst (λ z. int_gap z right < int_gap from right) (sym next)
    (gap_less from (run.from +ℤ pos run.length) right (omega (arith, ints)) found.run.inside.1)

pub loop-from-preserved : goal.loop-from-preserved
loop-from-preserved g c =
    let run = c.in-Some.run' in
    let found = c.in-Some.ensures.found in
    let next : run.from +ℤ pos run.length
    ≡ to_z w64 (of_z w64 (to_z w64 (of_z w64 run.from) +ℤ to_z w64 (of_z w64 c.from.result))) = omega (arith, ints) in
    let done = c.back_run.ensures.written in
    record {
      behind = omega (arith, ints);
      there = written_pages_keep _ _ _ (writes_along c.args.screens.now.screens c.args.gmrfb.now c.args.blit.now
          (to_z w64 (of_z w64 c.args.y)) run.from (run.from +ℤ pos run.length)) done c.loop-from.invariant.there;
      left = run_done _ _ _ _ _ _ _ _ _ run _ found next done c.loop-from.invariant.left;
      rest = c.back_run.ensures.rest ∙ c.loop-from.invariant.rest;
    }

pub returns-clause-written : goal.returns-clause-written
returns-clause-written g c =
    let row = c.ranges.y in
    let end : c.args.blit.now.rect.right ≤ℤ to_z w64 c.loop-from.from-bits = omega (arith, ints) in
    row_done _ _ _ _ _ _ _ _ (λ X low high. absurd (omega (arith, ints)))
    (simp to_z-of_z at c.loop-from.invariant.left)
