use Rattle.svga_text.proofs.PassingLaws.{PassesOn-same, PassesOn-then}
use Rattle.std.proofs.Common.{◌∙◌}
use Rattle.svga_text.proofs.pending.Pending.lettered.Goals as goal

pub returns : goal.returns
returns g c = PassesOn-then _ _ _ c.text-2.result (c.in_ok-text.ensures {u = tt})
    (PassesOn-same g.K.Sink.held g.K.Sink.faults _ _ _ _ c.text-2.result (c.as_bytes.ensures.value
    ∙ c.format.ensures.text) c.text-2.ensures)
