use Rattle.std.proofs.Common.{arith}
use Rattle.svga_text.proofs.PassingLaws.{at_err, fault-next, Passes-next}
use Rattle.svga_text.specs.Fields.{field_text}
use Rattle.svga_text.proofs.pending.Pending.fields.Goals as goal

pub loop-field-preserved : goal.loop-field-preserved
loop-field-preserved g c = Passes-next field_text c.args.fields.now c.loop-field.field-index _ (omega arith) c.loop-field.invariant (c.in_ok-field.ensures {u = tt})

pub returns-in_err-field : goal.returns-in_err-field
returns-in_err-field g c = at_err _ c.from_residual.result c.from_residual.ensures.0
    (fault-next field_text c.args.fields.now c.loop-field.field-index _ (omega arith) _ c.loop-field.invariant (c.in_err-field.ensures {u = tt}))
