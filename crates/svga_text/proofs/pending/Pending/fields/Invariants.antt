-- The fields so far are on their way.
use Rattle.std.proofs.Common.{take, map}
use Rattle.svga_text.specs.Fields.{field_text}
use Rattle.svga_text.specs.Lines.{spaced}
use Rattle.svga_text.specs.Passing.{Passes}
use Rattle.svga_text.proofs.pending.Pending.fields.Given as goal

abbrev pub invariant-loop-field : goal.invariant-loop-field
invariant-loop-field g l = Passes g.K.Sink.held g.K.Sink.faults l.initial.sink l.sink l.initial.self l.self (spaced (take l.field-index (map field_text l.fields)))
