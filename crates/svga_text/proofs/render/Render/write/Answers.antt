use Rattle.std.proofs.Common.{[], ◌∷◌}
use Rattle.svga_io.proofs.Chains.{GrowsByPrefix-first}
use Rattle.svga_text.proofs.PassingLaws.{at_err, Writes-end}
use Rattle.svga_text.proofs.render.Render.write.Goals as goal

pub returns-in_err-begin : goal.returns-in_err-begin
returns-in_err-begin g c = at_err _ c.from_residual.result c.from_residual.ensures.0 (GrowsByPrefix-first (10 ∷ []) (c.in_err-begin.ensures {u = tt}))

pub returns : goal.returns
returns g c = Writes-end _ (10 ∷ []) c.end.result (c.in_ok-begin.ensures {u = tt}) c.end.ensures
