use Rattle.std.proofs.Common.{arith, refl}
use Rattle.svga.proofs.RunLaws.{is_ended, run_read, run_told}
use Rattle.svga.specs.Due.{usage}
use Rattle.svga.specs.Forms.{plain_form}
use Rattle.svga.proofs.top.plain_status.Goals as goal

pub returns-in_default : goal.returns-in_default
returns-in_default g c =
    is_ended c.tell.result
    (run_told 2 c.tell.result
    (usage (λ asked. c.in_default.not-Some asked.0 ((c.plain_form_of.ensures asked.0).1 asked.1)) refl refl refl)
    (λ e. absurd (omega arith)) (λ e. absurd (omega arith)) c.tell.ensures)
    (λ none. refl)

pub returns-in-Ok : goal.returns-in-Ok
returns-in-Ok g c =
    let form = c.in-Some.form in
    let asked = (c.in-Some.ensures form).0 refl in
    is_ended c.write_plain.result
    (run_read form c.deref.result.now c.in-Ok.bytes.items c.write_plain.result asked c.deref.ensures.value
    c.in-Ok.ensures.had c.write_plain.ensures)
    (λ none. absurd (none (form, asked)))

pub returns-in-Err : goal.returns-in-Err
returns-in-Err g c =
    let form = c.in-Some.form in
    let asked = (c.in-Some.ensures form).0 refl in
    is_ended c.in-Err.status (c.in-Err.ensures.told plain_form c.args.words.now (form, asked))
    (λ none. absurd (none (form, asked)))
