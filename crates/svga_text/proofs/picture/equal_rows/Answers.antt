use Rattle.std.proofs.Common.{[], arith, sym, ◌∙◌}
use Rattle.svga_text.proofs.RunLaws.{rows_per, run_from}
use Rattle.svga_text.specs.Pictures.{same_row}
use Rattle.svga_text.specs.Rows.{rows_of}
use Rattle.svga_text.proofs.picture.equal_rows.Goals.{then-loop-end-test+else-eq, else-loop-end-test}
use Rattle.svga_text.proofs.picture.equal_rows.Goals as goal

pub returns-clause-first : goal.returns-clause-first
returns-clause-first c = run_from same_row rows_per
    (rows_of c.args.screens.now.screens c.args.id) c.args.first c.loop-end.end [] c.loop-end.invariant.0
    (omega arith) c.loop-end.invariant.2
    (elim c.loop-end-test.branch [
      | then-loop-end-test+else-eq w ↦ λ less. sym (w.if-eq.ensures {u = tt}
          ∙ (λ i. same_row (w.row_of.ensures.row i) (c.row_of-row.ensures.row i)))
      | else-loop-end-test w ↦ λ less.
          absurd (omega arith)
    ])
