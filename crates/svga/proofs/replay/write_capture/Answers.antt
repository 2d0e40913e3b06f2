use Rattle.std.proofs.Common.{inr}
use Rattle.svga.proofs.ReplayLaws.{replayed, told}
use Rattle.svga.specs.ReplayTexts.{replay_text}
use Rattle.svga_capture.specs.Replayed.{replay_in}
use Rattle.svga.proofs.replay.write_capture.Goals as goal

pub returns : goal.returns
returns g c =
    let r = c.in-Ok.replayed in
    let text = replay_text (replay_in r) in
    inr (
      c.replay_status_of.result,
      text,
      replayed c.args.capture.now r c.replay_status_of.result c.in-Ok.ensures.replay c.in-Ok.ensures.within
          c.replay_status_of.ensures,
      told g.K.Sink.held g.K.Sink.faults _ _ text c.replay_status_of.result c.status_of.result
          c.write_replayed-written.result c.write_replayed-written.ensures c.status_of.ensures,
    )
