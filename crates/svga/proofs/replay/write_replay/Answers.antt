use Rattle.std.proofs.Common.{◌∷◌, ◌∙◌, [], ap, codes}
use Rattle.std.specs.Fmt.{decimal}
use Rattle.svga.proofs.ReplayLaws.{of_capture, of_none, told}
use Rattle.svga.specs.ReplayTexts.{no_capture_text}
use Rattle.svga_text.proofs.PassingLaws.{by_result, Writes-same}
use Rattle.svga_text.specs.Lines.{line}
use Rattle.svga_text.specs.Names.{capture_cause_name}
use Rattle.svga.proofs.replay.write_replay.Goals as goal

pub returns-in-Ok-read_capture : goal.returns-in-Ok-read_capture
returns-in-Ok-read_capture g c =
    of_capture c.args.sink.now c.write_capture.new.sink c.args.bytes.now c.in-Ok-read_capture.capture
    c.write_capture.result
    (c.in-Ok-read_capture.ensures {u = tt}) c.write_capture.ensures

pub returns-in-Err-Byte : goal.returns-in-Err-Byte
returns-in-Err-Byte g c =
    let is = rw c.in-Err-Byte.field-0-is at (c.in-Err-Byte.ensures {u = tt}) in
    let name = c.name_of_capture_cause.ensures ∙ ap capture_cause_name c.in-Err-Byte.cause-is in
    of_none c.args.sink.now c.line.new.sink c.args.bytes.now c.in-Err-Byte.place c.in-Err-Byte.cause
    c.status_of.result is
    (told g.K.Sink.held g.K.Sink.faults _ _
    (no_capture_text c.in-Err-Byte.place c.in-Err-Byte.cause) 3 c.status_of.result c.line.result
    (Writes-same g.K.Sink.held g.K.Sink.faults _ _ c.line.result
    (λ i. line (codes "capture byte")
    (decimal (c.in-Err-Byte.place-is i) ∷ name i ∷ []))
    (by_result _ _ c.line.result c.line.ensures.ok c.line.ensures.fault))
    c.status_of.ensures)
