use Rattle.std.proofs.Common.{true, false, is_some, option_map, refl, sym, ap, subst, ◌∙◌}
use Rattle.svga_driver.proofs.LoadLaws.{driver_settled}
use Rattle.svga_driver.proofs.TakeLaws.{driver_passed, may_take, none_open, take_done, take_fails, take_kept, take_why}
use Rattle.svga_driver.proofs.PageCalls.{has}
use Rattle.svga_driver.specs.LendingSet.{command_of}
use Rattle.std.specs.Prelude.{Err, Ok, option_and_then}
use Rattle.svga_driver.specs.Answering.{told}
use Rattle.svga_driver.specs.Driving.{DriverHas}
use Rattle.svga_driver.specs.PageAnswers.{IsRejected, TakeAnswers}
use Rattle.svga_driver.specs.declared.fault.DriverFault.TheVariants as driver
use Rattle.svga_model.specs.ClientActs.{TakePage}
use Rattle.svga_driver.proofs.driver.Driver.take_back.Goals as goal

pub returns-then-not-is_key : goal.returns-then-not-is_key
returns-then-not-is_key c =
    subst (λ (d : DriverHas). IsRejected d (TakePage c.args.key) (driver.PageRange c.args.key) d) c.self.view_is (record {
      refused = ap (option_map told) (take_why c.self.invariant c.args.key false _ _ (sym c.is_key.ensures ∙ c.if-not-is_key.true) refl refl);
      left_is = refl;
    })

pub returns-in-None : goal.returns-in-None
returns-in-None c =
    subst (λ (d : DriverHas). IsRejected d (TakePage c.args.key) (driver.NotLent c.args.key) d) c.self.view_is (record {
      refused = ap (option_map told) (take_why c.self.invariant c.args.key true false _ (sym c.is_key.ensures ∙ c.if-not-is_key.false)
          (ap is_some (sym c.at.ensures.lent ∙ c.in-None.is)) refl);
      left_is = refl;
    })

pub invariant_of-self-in-Err : goal.invariant_of-self-in-Err
invariant_of-self-in-Err c =
    let a = c.in_ok-settle_request-in-Some.ensures in
    let one = driver_settled c.self.invariant _ _ c.settle_request.result c.settle_request.ensures.end c.settle_request.ensures.asked c.settle_request.ensures.answer in
    let at = sym (c.at.ensures.lent) ∙ c.in-Some.is in
    let touched = c.at.ensures.touched ∙ ap (option_and_then command_of) c.in-Some.is in
    let there = sym c.is_key.ensures ∙ c.if-not-is_key.false in
    driver_passed one c.args.key c.in-Some.lending (Err c.in-Err.fault) _ _ c.in-Err.ensures.answer c.pass_fence.ensures.end c.pass_fence.ensures.seen

pub take-requires : goal.take-requires
take-requires c =
    let a = c.in_ok-settle_request-in-Some.ensures in
    let one = driver_settled c.self.invariant _ _ c.settle_request.result c.settle_request.ensures.end c.settle_request.ensures.asked c.settle_request.ensures.answer in
    let at = sym (c.at.ensures.lent) ∙ c.in-Some.is in
    let touched = c.at.ensures.touched ∙ ap (option_and_then command_of) c.in-Some.is in
    let there = sym c.is_key.ensures ∙ c.if-not-is_key.false in
    may_take one c.args.key c.in-Some.lending _ _ at touched there c.in-Ok.ensures.answer c.pass_fence.ensures.end c.pass_fence.ensures.seen
    (none_open c.self.inside.end one c.args.key a.answer c.settle_request.ensures.end c.in-Some.lending at touched there)

pub invariant_of-self-in-Ok : goal.invariant_of-self-in-Ok
invariant_of-self-in-Ok c =
    let a = c.in_ok-settle_request-in-Some.ensures in
    let one = driver_settled c.self.invariant _ _ c.settle_request.result c.settle_request.ensures.end c.settle_request.ensures.asked c.settle_request.ensures.answer in
    let at = sym (c.at.ensures.lent) ∙ c.in-Some.is in
    let touched = c.at.ensures.touched ∙ ap (option_and_then command_of) c.in-Some.is in
    let there = sym c.is_key.ensures ∙ c.if-not-is_key.false in
    take_kept one c.args.key c.in-Some.lending _ _ at touched there c.in-Ok.ensures.answer c.pass_fence.ensures.end c.pass_fence.ensures.seen
    _ _ c.take.ensures c.take-in-Ok.ensures

pub returns-in-Err : goal.returns-in-Err
returns-in-Err c =
    let a = c.in_ok-settle_request-in-Some.ensures in
    let one = driver_settled c.self.invariant _ _ c.settle_request.result c.settle_request.ensures.end c.settle_request.ensures.asked c.settle_request.ensures.answer in
    let at = sym (c.at.ensures.lent) ∙ c.in-Some.is in
    let touched = c.at.ensures.touched ∙ ap (option_and_then command_of) c.in-Some.is in
    let there = sym c.is_key.ensures ∙ c.if-not-is_key.false in
    subst (λ (d : DriverHas). TakeAnswers d c.args.key (Err c.in-Err.fault) (has c.pass_fence.new.end c.self.inside.lendings)) c.self.view_is
    (take_fails c.self.inside.end one c.args.key a.answer c.settle_request.ensures.end c.in-Some.lending at touched there c.in-Err.fault _
    c.in-Err.ensures.answer c.pass_fence.ensures.end)

pub returns-in-Ok : goal.returns-in-Ok
returns-in-Ok c =
    let a = c.in_ok-settle_request-in-Some.ensures in
    let one = driver_settled c.self.invariant _ _ c.settle_request.result c.settle_request.ensures.end c.settle_request.ensures.asked c.settle_request.ensures.answer in
    let at = sym (c.at.ensures.lent) ∙ c.in-Some.is in
    let touched = c.at.ensures.touched ∙ ap (option_and_then command_of) c.in-Some.is in
    let there = sym c.is_key.ensures ∙ c.if-not-is_key.false in
    subst (λ (d : DriverHas). TakeAnswers d c.args.key (Ok tt) (has c.take.new.self c.take-in-Ok.new.self)) c.self.view_is
    (take_done c.self.inside.end one c.args.key a.answer c.settle_request.ensures.end c.in-Some.lending at touched there _ _
    c.in-Ok.ensures.answer c.pass_fence.ensures.end c.pass_fence.ensures.seen _ _ c.take.ensures c.take-in-Ok.ensures)
