use Rattle.std.proofs.Common.{Err, ◌+◌, length, length-append, refl, ap, sym, subst, ◌∙◌, ◌++◌, arith}
use Rattle.svga_cmd.specs.Lent.{command_of}
use Rattle.svga_driver.proofs.CommitLaws.{admitted, answers_all, grants, has, keeps_all, keeps_lacking, lacks, may_send_plain, refuses, touched_by_shape}
use Rattle.svga_client.proofs.CallLaws.{granted}
use Rattle.svga_driver.specs.Driving.{IsAtNext, client_by}
use Rattle.svga_ring.specs.Rings.{size_of}
use Rattle.svga_driver.specs.CommitAnswers.{CommitAnswers, IsCommitted}
use Rattle.svga_driver.specs.LendingSet.{all_touched, places_for}
use Rattle.svga_model.specs.ClientActs.{Commit}
use Rattle.svga_model.specs.Clients.{first_out}
use Rattle.svga_model.specs.Runs.{run}
use Rattle.svga_ring.specs.Conditions.{first_state}
use Rattle.svga_shape.specs.Admission.{region_of}
use Rattle.svga_driver.proofs.driver.Driver.commit.Goals as goal

pub returns-in-Err : goal.returns-in-Err
returns-in-Err c =
    let command = command_of c.args.command.now in
    subst (λ d. CommitAnswers d command (Err c.in-Err.fault)
    (has c.settle_request.new.end c.self.inside.lendings.touched))
    c.self.view_is
    (refuses c.self.invariant command c.requires.named c.settle_request.new.end c.in-Err.fault
    c.in_ok-settle_request.ensures.end c.in_ok-settle_request.ensures.answer c.in-Err.ensures.refused)

pub send-requires-clause-may : goal.send-requires-clause-may
send-requires-clause-may c =
    let command = command_of c.args.command.now in (
      command,
      may_send_plain c.self.invariant command c.settle_request.new.end (c.args.front.now ++ c.args.rest.now)
          c.requires.named c.in-Ok.ensures.refused c.requires.no_fence c.requires.well_formed
          c.requires.spelled
          c.in_ok-settle_request.ensures.answer,
    )

pub invariant_of-self-in-Err-send : goal.invariant_of-self-in-Err-send
invariant_of-self-in-Err-send c =
    let command = command_of c.args.command.now in
    let lacking = c.in-Err-send.ensures command (record {
      well_formed = c.requires.well_formed;
      words =
          c.requires.spelled;
    }) in
    keeps_lacking c.self.invariant c.settle_request.new.end c.send.new.end c.settle_request.new.asked
    c.in_ok-settle_request.ensures.end c.in_ok-settle_request.ensures.answer
    c.in_ok-settle_request.ensures.asked
    lacking.1 lacking.0.stop c.send.new.end.view lacking.0.too_few.told refl

pub returns-in-Err-send : goal.returns-in-Err-send
returns-in-Err-send c =
    let command = command_of c.args.command.now in
    let lacking = c.in-Err-send.ensures command (record {
      well_formed = c.requires.well_formed;
      words =
          c.requires.spelled;
    }) in
    subst (λ d. CommitAnswers d command (Err c.in-Err-send.fault)
    (has c.send.new.end c.self.inside.lendings.touched))
    c.self.view_is
    (lacks c.self.invariant command c.requires.named c.settle_request.new.end c.send.new.end
    c.in-Err-send.fault
    (c.args.front.now ++ c.args.rest.now) c.in_ok-settle_request.ensures.end
    c.in_ok-settle_request.ensures.answer
    lacking.1 c.requires.spelled lacking.0 c.in-Ok.ensures.refused)

pub note_touch-requires : goal.note_touch-requires
note_touch-requires c =
    let command = command_of c.args.command.now in
    let o = c.self.invariant in
    let none = grants o command c.requires.named c.in-Ok.ensures.refused in
    let kept = (run (first_state c.self.inside.end.view) c.self.inside.end.view.acts).kept in
    let same = touched_by_shape kept c.self.inside.shape (region_of c.in-Ok.touch) command o.shape_is
    c.regions.ensures.valid.frame c.in-Ok.ensures.touch in (
      c.self.inside.end.view.lent,
      o.lent_are,
      ap (λ r. first_out c.self.inside.end.view.lent
          (places_for r (region_of c.in-Ok.touch))) c.regions.ensures.regions
          ∙ ap (first_out c.self.inside.end.view.lent) (sym same)
          ∙ (granted (client_by c.self.inside.end.view c.self.inside.end.pages
          c.self.inside.lendings.touched) command none).lent,
    )

pub apply-requires-clause-admitted : goal.apply-requires-clause-admitted
apply-requires-clause-admitted c =
    let command = command_of c.args.command.now in
    admitted c.self.invariant command c.requires.named
    (grants c.self.invariant command c.requires.named c.in-Ok.ensures.refused)

pub behind-self-inside-requires-clause-here : goal.behind-self-inside-requires-clause-here
behind-self-inside-requires-clause-here c =
    let v = c.self.inside.end.view in (v.layout, length v.sent, c.self.invariant.at_next)

pub behind-self-inside-requires-clause-fits : goal.behind-self-inside-requires-clause-fits
behind-self-inside-requires-clause-fits c =
    let o = c.self.invariant in omega (arith, c.requires.most, o.large, ap size_of o.at_next.ring_is)

pub invariant_of-self-2 : goal.invariant_of-self-2
invariant_of-self-2 c =
    let command = command_of c.args.command.now in
    let o = c.self.invariant in
    let words = c.args.front.now ++ c.args.rest.now in
    let none = grants o command c.requires.named c.in-Ok.ensures.refused in
    let state = run (first_state c.self.inside.end.view) c.self.inside.end.view.acts in
    let same = touched_by_shape state.kept c.self.inside.shape (region_of c.in-Ok.touch) command o.shape_is
    c.regions.ensures.valid.frame c.in-Ok.ensures.touch in
    let sent = c.in-Ok-send.ensures command (record {
      well_formed = c.requires.well_formed;
      words =
          c.requires.spelled;
    }) in
    keeps_all o c.settle_request.new.end c.send.new.end c.settle_request.new.asked
    c.in_ok-settle_request.ensures.end c.in_ok-settle_request.ensures.answer
    c.in_ok-settle_request.ensures.asked
    sent.1 sent.0.stop sent.0.loaded sent.0.told_by command words c.apply.new.self c.note_touch.new.lendings
    c.behind-self-inside.result sent.0.left_is none c.requires.spelled c.requires.no_fence (c.apply.ensures.shape state o.shape_is)
    (c.note_touch.ensures
    ∙ ap (λ places. all_touched places c.self.inside.committed
    (c.self.inside.emitted + 1) c.self.inside.lendings)
    (ap (λ r. places_for r (region_of c.in-Ok.touch)) c.regions.ensures.regions ∙ sym same))
    (subst (λ n. IsAtNext c.self.inside.ring c.behind-self-inside.result c.self.inside.end.view.layout
    (length c.self.inside.end.view.sent + n))
    (sym (length-append c.args.front.now c.args.rest.now)) (c.behind-self-inside.ensures _ _ o.at_next))

pub returns : goal.returns
returns c =
    let command = command_of c.args.command.now in
    let o = c.self.invariant in
    let words = c.args.front.now ++ c.args.rest.now in
    let none = grants o command c.requires.named c.in-Ok.ensures.refused in
    let state = run (first_state c.self.inside.end.view) c.self.inside.end.view.acts in
    let same = touched_by_shape state.kept c.self.inside.shape (region_of c.in-Ok.touch) command o.shape_is
    c.regions.ensures.valid.frame c.in-Ok.ensures.touch in
    let sent = c.in-Ok-send.ensures command (record {
      well_formed = c.requires.well_formed;
      words =
          c.requires.spelled;
    }) in
    subst (λ d. IsCommitted d (Commit command) command
    (has c.send.new.end c.note_touch.new.lendings.touched)) c.self.view_is
    (answers_all o c.settle_request.new.end c.send.new.end c.settle_request.new.asked
    c.in_ok-settle_request.ensures.end c.in_ok-settle_request.ensures.answer
    c.in_ok-settle_request.ensures.asked
    sent.1 sent.0.stop sent.0.loaded sent.0.told_by command words c.note_touch.new.lendings
    sent.0.left_is sent.0.enough none c.requires.spelled
    (c.note_touch.ensures
    ∙ ap (λ places. all_touched places c.self.inside.committed
    (c.self.inside.emitted + 1) c.self.inside.lendings)
    (ap (λ r. places_for r (region_of c.in-Ok.touch)) c.regions.ensures.regions ∙ sym same)))
