use Rattle.std.proofs.Common.{ℕ, List, None, inl, inr, refl}
use Rattle.std.specs.Prelude.{Option}
use Rattle.svga.specs.Bytes.{IsEndingOfBytes}
use Rattle.svga.specs.Inputs.{IsListed, TellsInput}
use Rattle.svga.specs.Telling.{Tells}
use Rattle.svga.specs.Texts.{words_status, words_text}
use Rattle.svga.specs.declared.form.Form.TheVariants.{Words}
use Rattle.svga_cmd.specs.declared.command.Command.{Command}
use Rattle.svga_cmd.specs.declared.ending.Ending.{Ending}
use Rattle.svga.proofs.report.write_report.Goals as goal

-- the commands of the input and how it ends were told
told : {K : Type 0} (held : K → Option (List ℕ)) (faults : K → ℕ) (before now : K) (bytes : List ℕ) (cs : List Command)
    (end : Ending) (answer : ℕ) → IsEndingOfBytes bytes cs end
    → Tells held faults before now (words_text cs end) (words_status end) answer
    → TellsInput held faults before now Words bytes answer None
told held faults before now bytes cs end answer ending tells =
    let of : IsListed bytes (words_status end) (words_text cs end)
    = record { commands = cs; end = end; ending = ending; status_is = refl; text_is = refl } in
    inr (words_status end, words_text cs end, (of, refl), tells)

pub returns-in-Ok-write : goal.returns-in-Ok-write
returns-in-Ok-write g c =
    let (cs, prepared) = c.in-Ok.ensures in
    let end = c.in-Ok.report.ending in
    told _ _ c.args.sink.now _ c.args.bytes.now cs end c.status_of-status.result prepared.ending
    (inl (c.status_of-status.ensures, c.in-Ok-write.ensures c.args.bytes.now cs prepared))

pub returns : goal.returns
returns g c =
    let (cs, prepared) = c.in-Ok.ensures in
    let end = c.in-Ok.report.ending in
    told _ _ c.args.sink.now _ c.args.bytes.now cs end 5 prepared.ending
    (inr (refl, c.in-Err.ensures c.args.bytes.now cs prepared))
