use Rattle.std.proofs.Common.{arith, ap, Err, refl, ◌∙◌}
use Rattle.std.specs.Prelude.{IsErrOf}
use Rattle.svga.proofs.RunLaws.{run_told, takes_at_most, takes_more}
use Rattle.svga.specs.Due.{read_fault, too_long}
use Rattle.svga_cmd.specs.declared.constants.TheConstants.{MAX_INPUT_BYTES}
use Rattle.svga_io.specs.declared.fault.InFault.TheVariants.{TooLong}
use Rattle.svga.proofs.top.read_input.Goals as goal

pub returns-in-Err-ReadFault-clause-told : goal.returns-in-Err-ReadFault-clause-told
returns-in-Err-ReadFault-clause-told g c = λ does words asked.
    let is = c.in-Err-ReadFault.is ∙ ap Err c.in-Err-ReadFault.field-0-is in
    let read = c.read_all.ensures in
    run_told 4 c.tell.result
    (read_fault asked (read.read_fault is)
    (takes_at_most _ _ MAX_INPUT_BYTES (IsErrOf c.read_all.result TooLong) read.too_long (λ other. cc (is, other)) read.told)
    refl refl refl)
    (λ e. absurd (omega arith)) (λ e. absurd (omega arith)) c.tell.ensures

pub returns-in-Err-TooLong-clause-told : goal.returns-in-Err-TooLong-clause-told
returns-in-Err-TooLong-clause-told g c = λ does words asked.
    let is = c.in-Err-TooLong.is ∙ ap Err c.in-Err-TooLong.field-0-is in
    let read = c.read_all.ensures in
    run_told 7 c.tell-in-Err-TooLong.result
    (too_long asked
    (takes_more _ _ MAX_INPUT_BYTES (IsErrOf c.read_all.result TooLong) read.too_long is read.told) refl refl refl)
    (λ e. absurd (omega arith)) (λ e. absurd (omega arith)) c.tell-in-Err-TooLong.ensures
