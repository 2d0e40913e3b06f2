use Rattle.std.proofs.Common.{ℕ, List, ◌∷◌, [], ap, codes, sym, ◌∙◌}
use Rattle.std.specs.Fmt.{decimal}
use Rattle.svga.specs.ReplayTexts.{replay_end_text}
use Rattle.svga_cmd.specs.declared.ending.ReplayEnd.{ReplayEnd}
use Rattle.svga_text.proofs.PassingLaws.{by_result, Writes-same}
use Rattle.svga_text.specs.Lines.{line, line_text}
use Rattle.svga.proofs.replay.write_replay_end.Goals as goal
use Rattle.svga.proofs.replay.write_replay_end.Goals.{in-Whole, in-Refused, in-Torn, in-Fault}

pub returns : goal.returns
returns g c =
    let wrote = by_result _ _ c.line.result c.line.ensures.ok c.line.ensures.fault in
    let as_text : ReplayEnd → List ℕ = replay_end_text in
    let same = Writes-same g.K.Sink.held g.K.Sink.faults c.args.sink.now c.line.new.sink c.line.result in
    elim c.match-ending.branch [
      | in-Whole w ↦ same (ap line_text w.line-is ∙ ap as_text (sym w.in-Whole.is)) wrote
      | in-Refused w ↦ same
          (ap line_text w.line-is ∙ ap (λ name. line (codes "refused at word")
          (decimal w.in-Refused.word ∷ name ∷ [])) w.name_of_cause.ensures ∙ ap as_text (sym w.in-Refused.is))
          wrote
      | in-Torn w ↦ same (ap line_text w.line-is ∙ ap as_text (sym w.in-Torn.is)) wrote
      | in-Fault w ↦ same
          (ap line_text w.line-is
          ∙ (λ i. line (codes "fault at command")
          (decimal w.in-Fault.command ∷ decimal (w.number.ensures i) ∷ w.name_of_fault.ensures i ∷ []))
          ∙ ap as_text (sym w.in-Fault.is))
          wrote
    ]
