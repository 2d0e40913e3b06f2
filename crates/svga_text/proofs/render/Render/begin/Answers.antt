use Rattle.std.proofs.Common.{◌++◌, []}
use Rattle.svga_text.proofs.PassingLaws.{at_err, fault-first, fault-same, Passes-same, PassesOn-then}
use Rattle.svga_text.proofs.render.Render.begin.Goals as goal

pub returns-in_err-text : goal.returns-in_err-text
returns-in_err-text g c = at_err _ c.from_residual.result c.from_residual.ensures.0
    (fault-first [] c.args.begin.now _ (fault-same (λ i. c.clear.ensures i ++ c.as_bytes.ensures.value i) (c.in_err-text.ensures {u = tt})))

pub returns : goal.returns
returns g c = PassesOn-then _ _ _ c.fields.result (Passes-same c.clear.ensures c.as_bytes.ensures.value (c.in_ok-text.ensures {u = tt})) c.fields.ensures
