use Rattle.svga.proofs.RunLaws.{is_ended, run_read}
use Rattle.svga.specs.Forms.{every_form}
use Rattle.svga.specs.declared.form.Form.TheVariants as form
use Rattle.svga.proofs.top.race_input.Goals as goal

pub returns-in-Ok-clause-ended : goal.returns-in-Ok-clause-ended
returns-in-Ok-clause-ended g c = λ words asked.
    is_ended c.write_race.result.status
    (run_read form.Race c.deref.result.now c.in-Ok.bytes.items c.write_race.result.status asked
    c.deref.ensures.value c.in-Ok.ensures.had c.write_race.ensures.told)
    (λ none. absurd (none (form.Race, asked)))

pub returns-in-Err-clause-ended : goal.returns-in-Err-clause-ended
returns-in-Err-clause-ended g c = λ words asked.
    is_ended c.in-Err.status (c.in-Err.ensures.told every_form words (form.Race, asked))
    (λ none. absurd (none (form.Race, asked)))
