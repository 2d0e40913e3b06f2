-- Each arm answers the lesser of the two refusals.
use Rattle.std.proofs.Common.{arith, ap, sym, refl, ◌∙◌, Some, None}
use Rattle.std.specs.Result.{result_err}
use Rattle.svga_shape.proofs.LesserLaws.{chosen_first, chosen_second, of_both}
use Rattle.svga_shape.proofs.lesser.lesser.Goals as goal

pub returns-then-number : goal.returns-then-number
returns-then-number c = λ xs ys p q. of_both xs ys (Some c.in-Err-Err.f) (Some c.in-Err-Err.g) (Some c.in-Err-Err.f)
    (sym (ap result_err c.in-Err-Err.is-0) ∙ p) (sym (ap result_err c.in-Err-Err.is-1) ∙ q)
    (ap Some (chosen_first c.in-Err-Err.f c.in-Err-Err.g
    (omega (arith, c.if-number.true, c.number.ensures, c.number-in-Err-Err.ensures))))

pub returns-else-number : goal.returns-else-number
returns-else-number c = λ xs ys p q. of_both xs ys (Some c.in-Err-Err.f) (Some c.in-Err-Err.g) (Some c.in-Err-Err.g)
    (sym (ap result_err c.in-Err-Err.is-0) ∙ p) (sym (ap result_err c.in-Err-Err.is-1) ∙ q)
    (ap Some (chosen_second c.in-Err-Err.f c.in-Err-Err.g
    (omega (arith, c.if-number.false, c.number.ensures, c.number-in-Err-Err.ensures))))

pub returns-in-Err-Ok : goal.returns-in-Err-Ok
returns-in-Err-Ok c = λ xs ys p q. of_both xs ys (Some c.in-Err-Ok.f) None (Some c.in-Err-Ok.f)
    (sym (ap result_err c.in-Err-Ok.is-0) ∙ p) (sym (ap result_err c.in-Err-Ok.is-1) ∙ q) refl

pub returns-in-Ok-default : goal.returns-in-Ok-default
returns-in-Ok-default c = λ xs ys p q. of_both xs ys None (result_err c.args.b) (result_err c.args.b)
    (sym (ap result_err c.in-Ok-default.is-0) ∙ p) q refl
