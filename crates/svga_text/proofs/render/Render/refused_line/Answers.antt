use Rattle.std.proofs.Common.{sym, subst}
use Rattle.svga_text.specs.Lines.{line_text}
use Rattle.svga_text.specs.Passing.{Writes}
use Rattle.svga_text.specs.declared.line.Line.TheVariants.{RefusedLine}
use Rattle.svga_text.proofs.render.Render.refused_line.Goals as goal

pub returns-in-None : goal.returns-in-None
returns-in-None g c = subst
    (λ key. Writes g.K.Sink.held g.K.Sink.faults c.args.sink.now c.write.new.sink
    (line_text (RefusedLine c.args.at c.args.number c.args.name key)) c.write.result)
    (sym c.in-None.is) c.write.ensures

pub returns-in-Some : goal.returns-in-Some
returns-in-Some g c = subst
    (λ key. Writes g.K.Sink.held g.K.Sink.faults c.args.sink.now c.write-in-Some.new.sink
    (line_text (RefusedLine c.args.at c.args.number c.args.name key)) c.write-in-Some.result)
    (sym c.in-Some.is) c.write-in-Some.ensures
