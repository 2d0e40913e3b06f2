use Rattle.svga_text.proofs.PassingLaws.{by_result, Writes-last}
use Rattle.svga_text.proofs.render.Render.end.Goals as goal

pub returns : goal.returns
returns g c = Writes-last _ c.send.result (c.in_ok-text.ensures {u = tt}) (by_result _ _ c.send.result c.send.ensures.sent c.send.ensures.fault)
