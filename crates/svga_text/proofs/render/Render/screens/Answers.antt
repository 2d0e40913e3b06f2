use Rattle.std.proofs.Common.{refl}
use Rattle.svga_text.proofs.PassingLaws.{by_result, Passes-same, Writes-fault, Writes-last}
use Rattle.svga_text.proofs.render.Render.screens.Goals as goal

pub returns-clause-fault : goal.returns-clause-fault
returns-clause-fault g c = Writes-fault g.K.Sink.held g.K.Sink.faults _ _ c.send.result refl
    (Writes-last _ c.send.result (Passes-same c.clear.ensures refl (c.in_ok-all_screens.ensures {u = tt}))
    (by_result _ _ c.send.result c.send.ensures.sent c.send.ensures.fault))
