use Rattle.std.proofs.Common.{◌<◌, ◌+◌, Err, Ok, [], ◌++◌, length, refl, sym, ap, subst, ◌∙◌, append-nil, arith}
use Rattle.std.proofs.lemmas.Bool.Decides.{nat_tests}
use Rattle.svga_cmd.specs.declared.command.Command.TheVariants.{Fence}
use Rattle.svga_cmd.specs.declared.constants.TheConstants.{FENCE_WINDOW}
use Rattle.svga_driver.proofs.CommitLaws.{has, keeps_lacking}
use Rattle.svga_driver.proofs.FenceLaws.{fence_done, fence_lacks, fence_may, keeps_fence}
use Rattle.svga_driver.specs.CommitAnswers.{FenceAnswers}
use Rattle.svga_driver.specs.Driving.{IsAtNext}
use Rattle.svga_ring.specs.Rings.{size_of}
use Rattle.svga_driver.proofs.driver.Driver.fence.Goals as goal

pub fence_number-number-requires : goal.fence_number-number-requires
fence_number-number-requires c = c.self.invariant.some_first

pub send-requires-clause-may : goal.send-requires-clause-may
send-requires-clause-may c =
    let value = c.fence_number-number.result in
    let spelled = append-nil c.as_slice.result.now ∙ c.as_slice.ensures.value
    ∙ c.encode_short-words.ensures in
    let fewer : c.self.inside.emitted < c.self.inside.seen + FENCE_WINDOW =
    grind (arith, nat_tests, c.if-self-from.false, c.from.ensures) in (
      Fence value,
      fence_may c.self.invariant value c.settle_request.new.end
          (c.as_slice.result.now ++ []) c.fence_number-number.ensures
          fewer spelled c.in_ok-settle_request.ensures.answer,
    )

pub invariant_of-self-in-Err : goal.invariant_of-self-in-Err
invariant_of-self-in-Err c =
    let value = c.fence_number-number.result in
    let spelled = append-nil c.as_slice.result.now ∙ c.as_slice.ensures.value
    ∙ c.encode_short-words.ensures in
    let lacking = c.in-Err.ensures (Fence value) (record { well_formed = tt; words = spelled }) in
    keeps_lacking c.self.invariant c.settle_request.new.end c.send.new.end c.settle_request.new.asked
    c.in_ok-settle_request.ensures.end c.in_ok-settle_request.ensures.answer
    c.in_ok-settle_request.ensures.asked
    lacking.1 lacking.0.stop c.send.new.end.view lacking.0.too_few.told refl

pub returns-in-Err : goal.returns-in-Err
returns-in-Err c =
    let value = c.fence_number-number.result in
    let spelled = append-nil c.as_slice.result.now ∙ c.as_slice.ensures.value
    ∙ c.encode_short-words.ensures in
    let fewer : c.self.inside.emitted < c.self.inside.seen + FENCE_WINDOW =
    grind (arith, nat_tests, c.if-self-from.false, c.from.ensures) in
    let lacking = c.in-Err.ensures (Fence value) (record { well_formed = tt; words = spelled }) in
    subst (λ d. FenceAnswers d (Err c.in-Err.fault)
    (has c.send.new.end c.self.inside.lendings.touched)) c.self.view_is
    (fence_lacks c.self.invariant value c.settle_request.new.end c.send.new.end c.settle_request.new.asked
    c.in_ok-settle_request.ensures.end c.in_ok-settle_request.ensures.answer
    c.in_ok-settle_request.ensures.asked
    lacking.1 c.in-Err.fault (c.as_slice.result.now ++ []) lacking.0 spelled fewer)

pub behind-self-inside-requires-clause-here : goal.behind-self-inside-requires-clause-here
behind-self-inside-requires-clause-here c =
    let v = c.self.inside.end.view in (v.layout, length v.sent, c.self.invariant.at_next)

pub behind-self-inside-requires-clause-fits : goal.behind-self-inside-requires-clause-fits
behind-self-inside-requires-clause-fits c =
    let o = c.self.invariant in
    let words = c.as_slice.ensures.value ∙ c.encode_short-words.ensures in
    omega (arith, ap length words, o.large, ap size_of o.at_next.ring_is)

pub invariant_of-self-2 : goal.invariant_of-self-2
invariant_of-self-2 c =
    let value = c.fence_number-number.result in
    let spelled = append-nil c.as_slice.result.now ∙ c.as_slice.ensures.value
    ∙ c.encode_short-words.ensures in
    let fewer : c.self.inside.emitted < c.self.inside.seen + FENCE_WINDOW =
    grind (arith, nat_tests, c.if-self-from.false, c.from.ensures) in
    let sent = c.in-Ok.ensures (Fence value) (record { well_formed = tt; words = spelled }) in
    keeps_fence c.self.invariant value c.settle_request.new.end c.send.new.end c.settle_request.new.asked
    c.in_ok-settle_request.ensures.end c.in_ok-settle_request.ensures.answer
    c.in_ok-settle_request.ensures.asked
    sent.1 sent.0.stop sent.0.loaded sent.0.told_by (c.as_slice.result.now ++ []) c.behind-self-inside.result
    sent.0.left_is spelled fewer
    (subst (λ n. IsAtNext c.self.inside.ring c.behind-self-inside.result c.self.inside.end.view.layout
    (length c.self.inside.end.view.sent + n))
    (ap length (c.as_slice-2.ensures.value ∙ sym c.as_slice.ensures.value
    ∙ sym (append-nil c.as_slice.result.now))) (c.behind-self-inside.ensures _ _ c.self.invariant.at_next))

pub returns : goal.returns
returns c =
    let value = c.fence_number-number.result in
    let spelled = append-nil c.as_slice.result.now ∙ c.as_slice.ensures.value
    ∙ c.encode_short-words.ensures in
    let fewer : c.self.inside.emitted < c.self.inside.seen + FENCE_WINDOW =
    grind (arith, nat_tests, c.if-self-from.false, c.from.ensures) in
    let sent = c.in-Ok.ensures (Fence value) (record { well_formed = tt; words = spelled }) in
    subst (λ d. FenceAnswers d (Ok (record { number = value }))
    (has c.send.new.end c.self.inside.lendings.touched)) c.self.view_is
    (fence_done c.self.invariant value c.settle_request.new.end c.send.new.end c.settle_request.new.asked
    c.in_ok-settle_request.ensures.end c.in_ok-settle_request.ensures.answer
    c.in_ok-settle_request.ensures.asked
    sent.1 sent.0.stop sent.0.loaded sent.0.told_by
    (c.as_slice.result.now ++ []) sent.0.left_is sent.0.enough spelled
    c.fence_number-number.ensures fewer (record { number = value }) refl)
