use Rattle.std.proofs.Common.{◌≡◌, ap, ◌∙◌}
use Rattle.svga_head.specs.Plugs.{plug_states}
use Rattle.svga_model.specs.Scripts.{meaning_of}
use Rattle.svga_model.specs.States.{Kept}
use Rattle.svga_pair.proofs.RaceEndings.{text_whole}
use Rattle.svga_screen.specs.ScreenSet.{ScreenSet}
use Rattle.svga_pair.proofs.threads.race.Goals as goal

pub returns-clause-raced : goal.returns-clause-raced
returns-clause-raced g c =
    let script = c.args.script.now in
    let ran = c.run-ran.ensures in
    let left = c.close_sides-left.ensures in
    let meant = left.meant script ran.driver in
    let screens : c.screens.result.now.screens ≡ (meaning_of script).client.state.kept.screens =
    ap (λ (s : ScreenSet). s.screens) c.screens.ensures ∙ ap (λ (k : Kept). k.screens) (left.kept ∙ meant.kept) in
    record {
      session = ran.driver.session;
      opened = ran.driver.opened;
      meant = meant;
      refused = ran.refused;
      text = text_whole g.K.Sink.held g.K.Sink.faults c.args.sink.now c.run-ran.new.sink c.write_end.new.sink
          (meaning_of script) c.screens.result.now.screens c.run-ran.result.raced.write_fault c.write_end.result
          ran.text screens (c.write_end.ensures (meaning_of script).refused ran.refused);
      shown = left.shown (plug_states g.B.Head.state c.args.heads)
          (ran.device.shows (plug_states g.B.Head.state c.args.heads) c.in_ok-driver.ensures.shows);
    }
