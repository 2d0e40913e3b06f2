use Rattle.svga_pair.proofs.RaceEndings.{line_behind}
use Rattle.svga_pair.proofs.ending.write_screens_and_line.Goals as goal

pub returns : goal.returns
returns g c = λ r told.
    line_behind g.K.Sink.held g.K.Sink.faults _ _ _ _ _ _ _ c.in_ok-screens.ensures.ok (c.last_line.ensures r told)
    c.line.ensures.ok c.line.ensures.fault
