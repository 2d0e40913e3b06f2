use Rattle.std.proofs.Common.{[], ◌∷◌}
use Rattle.svga_text.proofs.PassingLaws.{at_err, fault-first, PassesOn-then}
use Rattle.svga_text.proofs.pending.Pending.word.Goals as goal

pub returns-in_err-text : goal.returns-in_err-text
returns-in_err-text g c = at_err _ c.from_residual.result c.from_residual.ensures.0 (fault-first c.args.self.now (32 ∷ []) c.args.word.now (c.in_err-text.ensures {u = tt}))

pub returns : goal.returns
returns g c = PassesOn-then _ _ _ c.text-2.result (c.in_ok-text.ensures {u = tt}) c.text-2.ensures
