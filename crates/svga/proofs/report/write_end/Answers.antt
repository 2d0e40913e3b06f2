use Rattle.std.proofs.Common.{◌∷◌, [], ap, codes, sym, ◌∙◌}
use Rattle.std.specs.Fmt.{decimal}
use Rattle.svga.specs.Texts.{end_text}
use Rattle.svga_text.proofs.PassingLaws.{by_result, Writes-same}
use Rattle.svga_text.specs.Lines.{line}
use Rattle.svga.proofs.report.write_end.Goals as goal

pub returns-in-Refused : goal.returns-in-Refused
returns-in-Refused g c = Writes-same g.K.Sink.held g.K.Sink.faults _ _ c.line.result
    (ap (λ name. line (codes "refused at word") (decimal c.in-Refused.word ∷ name ∷ [])) c.name_of_cause.ensures ∙ ap end_text (sym c.in-Refused.is))
    (by_result _ _ c.line.result c.line.ensures.ok c.line.ensures.fault)

pub returns-in-Torn : goal.returns-in-Torn
returns-in-Torn g c = Writes-same g.K.Sink.held g.K.Sink.faults _ _ c.line-in-Torn.result (ap end_text (sym c.in-Torn.is))
    (by_result _ _ c.line-in-Torn.result c.line-in-Torn.ensures.ok c.line-in-Torn.ensures.fault)
