use Rattle.std.proofs.Common.{ap, sym}
use Rattle.svga_text.proofs.PassingLaws.{Writes-fault, Writes-ok}
use Rattle.svga_text.specs.Lines.{line_text}
use Rattle.svga_text.proofs.render.Render.line.Goals as goal

pub returns-in-FaultAt-clause-ok : goal.returns-in-FaultAt-clause-ok
returns-in-FaultAt-clause-ok g c = Writes-ok g.K.Sink.held g.K.Sink.faults _ _ c.write-in-FaultAt.result
    (ap line_text (sym c.in-FaultAt.is)) c.write-in-FaultAt.ensures

pub returns-in-FaultAt-clause-fault : goal.returns-in-FaultAt-clause-fault
returns-in-FaultAt-clause-fault g c = Writes-fault g.K.Sink.held g.K.Sink.faults _ _ c.write-in-FaultAt.result
    (ap line_text (sym c.in-FaultAt.is)) c.write-in-FaultAt.ensures

pub returns-in-CaptureByte-clause-ok : goal.returns-in-CaptureByte-clause-ok
returns-in-CaptureByte-clause-ok g c = Writes-ok g.K.Sink.held g.K.Sink.faults _ _ c.write-in-CaptureByte.result
    (ap line_text (sym c.in-CaptureByte.is)) c.write-in-CaptureByte.ensures

pub returns-in-CaptureByte-clause-fault : goal.returns-in-CaptureByte-clause-fault
returns-in-CaptureByte-clause-fault g c = Writes-fault g.K.Sink.held g.K.Sink.faults _ _ c.write-in-CaptureByte.result
    (ap line_text (sym c.in-CaptureByte.is)) c.write-in-CaptureByte.ensures

pub returns-in-ScriptLine-clause-ok : goal.returns-in-ScriptLine-clause-ok
returns-in-ScriptLine-clause-ok g c = Writes-ok g.K.Sink.held g.K.Sink.faults _ _ c.write-in-ScriptLine.result
    (ap line_text (sym c.in-ScriptLine.is)) c.write-in-ScriptLine.ensures

pub returns-in-ScriptLine-clause-fault : goal.returns-in-ScriptLine-clause-fault
returns-in-ScriptLine-clause-fault g c = Writes-fault g.K.Sink.held g.K.Sink.faults _ _ c.write-in-ScriptLine.result
    (ap line_text (sym c.in-ScriptLine.is)) c.write-in-ScriptLine.ensures
