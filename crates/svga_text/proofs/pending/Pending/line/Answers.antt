use Rattle.std.proofs.Common.{[], ◌∷◌, refl}
use Rattle.svga_text.proofs.PassingLaws.{at_err, fault-first, fault-then, Passes-same, Passes-then, PassesOn-then}
use Rattle.svga_text.proofs.pending.Pending.line.Goals as goal

pub returns-in_err-fields : goal.returns-in_err-fields
returns-in_err-fields g c = at_err _ c.from_residual-in_err-fields.result c.from_residual-in_err-fields.ensures.0
    (fault-first c.args.self.now _ (10 ∷ []) (fault-then _
    (Passes-same refl c.as_bytes.ensures.value (c.in_ok-text.ensures {u = tt})) (c.in_err-fields.ensures {u = tt})))

pub returns : goal.returns
returns g c = PassesOn-then _ _ (10 ∷ []) c.text-2.result
    (Passes-then (Passes-same refl c.as_bytes.ensures.value (c.in_ok-text.ensures {u = tt}))
    (c.in_ok-fields.ensures {u = tt})) c.text-2.ensures
