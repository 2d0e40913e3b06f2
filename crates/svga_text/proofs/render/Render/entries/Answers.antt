use Rattle.std.proofs.Common.{◌++◌, ◌∷◌, ap, arith, refl}
use Rattle.std.specs.Fmt.{decimal}
use Rattle.svga_cmd.specs.Lent.{entries_of}
use Rattle.svga_text.specs.CommandLines.{entry_numbers}
use Rattle.svga_text.proofs.PassingLaws.{at_err, fault-next, fault-same, Passes-next, Passes-same}
use Rattle.svga_text.proofs.render.Render.entries.Goals as goal

pub loop-i-preserved : goal.loop-i-preserved
loop-i-preserved g c = Passes-next decimal (entry_numbers (entries_of c.args.entries.now)) c.loop-i.i 0 (omega arith) c.loop-i.invariant
    (Passes-same refl (ap (λ n. 32 ∷ decimal n) c.entry_at.ensures) (c.in_ok-number.ensures {u = tt}))

pub returns-in_err-number : goal.returns-in_err-number
returns-in_err-number g c = at_err _ c.from_residual.result c.from_residual.ensures.0
    (fault-next decimal (entry_numbers (entries_of c.args.entries.now)) c.loop-i.i 0 (omega arith) _ c.loop-i.invariant
    (fault-same (ap (λ n. c.loop-i.self.pending ++ 32 ∷ decimal n) c.entry_at.ensures) (c.in_err-number.ensures {u = tt})))
