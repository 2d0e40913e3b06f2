use Rattle.std.proofs.Common.{◌∷◌, ◌∙◌, [], ap, codes}
use Rattle.std.specs.Fmt.{decimal}
use Rattle.svga.proofs.RaceLaws.{of_no_script, of_script}
use Rattle.svga.proofs.ReplayLaws.{told}
use Rattle.svga_model.specs.Scripts.{ScriptFlaw}
use Rattle.svga_text.proofs.PassingLaws.{by_result, Writes-same}
use Rattle.svga_text.specs.Lines.{line}
use Rattle.svga_text.specs.RaceTexts.{no_script_text, script_cause_name}
use Rattle.svga.proofs.race.write_race.Goals as goal

pub returns-in-Ok-race-clause-told : goal.returns-in-Ok-race-clause-told
returns-in-Ok-race-clause-told g c =
    of_script g.B.Head.state c.args.sink.now c.race.new.sink c.args.bytes.now c.in-Ok-read_script.script c.args.heads c.in-Ok-race.end
    c.with_race.result.status c.with_race.result.race c.in-Ok-read_script.ensures c.in-Ok-race.ensures.raced
    c.with_race.ensures.status c.with_race.ensures.race

pub returns-in-Err-Line-clause-told : goal.returns-in-Err-Line-clause-told
returns-in-Err-Line-clause-told g c =
    let flaw : ScriptFlaw = record { line = c.in-Err-Line.number; column = c.in-Err-Line.column; cause = c.in-Err-Line.cause } in
    let is = rw c.in-Err-Line.field-0-is at c.in-Err-Line.ensures in
    let name = c.name_of_script_cause.ensures ∙ ap script_cause_name c.in-Err-Line.cause-is in
    of_no_script c.args.sink.now c.line.new.sink c.args.bytes.now flaw c.without_race-in-Err-Line.result.status
    c.without_race-in-Err-Line.result.race is c.without_race-in-Err-Line.ensures.race
    (told g.K.Sink.held g.K.Sink.faults _ _ (no_script_text flaw) 3 c.without_race-in-Err-Line.result.status c.line.result
    (Writes-same g.K.Sink.held g.K.Sink.faults _ _ c.line.result
    (λ i. line (codes "script line")
    (decimal (c.in-Err-Line.number-is i) ∷ codes "column" ∷ decimal (c.in-Err-Line.column-is i) ∷ name i ∷ []))
    (by_result _ _ c.line.result c.line.ensures.ok c.line.ensures.fault))
    (rw c.without_race-in-Err-Line.ensures.status c.status_of.ensures))
