use Rattle.svga_text.proofs.PassingLaws.{by_result, PassesOn-put}
use Rattle.svga_text.proofs.pending.Pending.text.Goals as goal

pub returns : goal.returns
returns g c = PassesOn-put _ c.args.bytes.now c.write_all.result c.in_ok-send.ensures.sent c.in_ok-send.ensures.empty (by_result _ _ c.write_all.result c.write_all.ensures.ok c.write_all.ensures.fault)
