use Rattle.std.proofs.Common.{[], ◌++◌, ap, arith, get_or, refl}
use Rattle.svga_text.proofs.PassingLaws.{at_err, fault-same, Passes-same}
use Rattle.svga_text.proofs.RunPassing.{RunsPass-fault, RunsPass-next}
use Rattle.svga_text.specs.Pictures.{rows_line}
use Rattle.svga_text.specs.Rows.{rows_of}
use Rattle.svga_text.proofs.render.Render.picture.Goals as goal

pub returns-in_err-rows : goal.returns-in_err-rows
returns-in_err-rows g c = at_err _ c.from_residual.result c.from_residual.ensures.0
    (RunsPass-fault (
      c.equal_rows-count.result,
      get_or
          (rows_of c.args.screens.now.screens c.args.id) c.loop-first.first [],
    ) c.equal_rows-count.ensures.first
    c.loop-first.invariant.1
    (fault-same (ap (λ row. c.loop-first.self.pending ++ rows_line c.loop-first.first
    (c.equal_rows-count.result, row)) c.row_of.ensures.row) (c.in_err-rows.ensures {u = tt})))

pub loop-first-preserved : goal.loop-first-preserved
loop-first-preserved g c = (
  omega (arith, c.equal_rows-count.ensures.within),
  RunsPass-next (
    c.equal_rows-count.result,
    get_or (rows_of c.args.screens.now.screens c.args.id) c.loop-first.first
        [],
  ) c.equal_rows-count.ensures.first c.loop-first.invariant.1
      (Passes-same refl (ap (λ row. rows_line c.loop-first.first
      (c.equal_rows-count.result, row)) c.row_of.ensures.row) (c.in_ok-rows.ensures {u = tt})),
)
