use Rattle.std.proofs.Common.{◌≡◌, false, length, rules, arith, ap, ◌∙◌}
use Rattle.svga_link.proofs.Begins.{put_runs_on, reserve_runs_on}
use Rattle.svga_link.proofs.tests.words_put_in_place_are_not_sent.Goals as goal

pub reserve-requires-2-clause-runs : goal.reserve-requires-2-clause-runs
reserve-requires-2-clause-runs g c =
    let reserved = reserve_runs_on _ _ _ _ c.reserve.ensures in
    ap (λ d. d.view.stopped) c.put-2.ensures ∙ (put_runs_on c.put.new.self.view _ 1).stopped
    ∙ ap (λ d. d.view.stopped) c.put.ensures ∙ (put_runs_on c.reserve.new.self.view _ 36).stopped ∙ reserved.stopped ∙ search rules

pub reserve-requires-2-clause-short : goal.reserve-requires-2-clause-short
reserve-requires-2-clause-short g c =
    let reserved = reserve_runs_on _ _ _ _ c.reserve.ensures in
    let none : length c.put-2.new.self.view.sent ≡ 0 =
    ap (λ d. length d.view.sent) c.put-2.ensures ∙ ap length (put_runs_on c.put.new.self.view _ 1).sent
    ∙ ap (λ d. length d.view.sent) c.put.ensures ∙ ap length (put_runs_on c.reserve.new.self.view _ 36).sent ∙ ap length reserved.sent ∙ search rules in
    omega (arith, none)
