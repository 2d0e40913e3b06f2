use Rattle.std.proofs.Common.{◌*◌, ◌++◌, ◌∷◌, [], length, ap, sym, subst, ◌∙◌}
use Rattle.svga_link.specs.Ends.{DriverSeen}
use Rattle.svga_link.specs.ReserveAnswers.{ReserveAnswers}
use Rattle.svga_device.proofs.FenceSent.{Lasting, lasting, lasts_begun, lasts_put, may_send, none_open_still}
use Rattle.svga_device.proofs.tests.put_fence.Goals as goal

pub returns-clause-full : goal.returns-clause-full
returns-clause-full g c =
    let begun = subst (λ r. ReserveAnswers c.args.driver.now 8 r c.reserve.new.self) c.expect-reserved.ensures c.reserve.ensures in
    let words = ap (λ (d : DriverSeen). d.words) c.put-2.ensures ∙ ap (λ (d : DriverSeen). d.words ++ 1 ∷ []) c.put.ensures
    ∙ ap (λ (d : DriverSeen). (d.words ++ 30 ∷ []) ++ 1 ∷ []) begun.2 in
    let reserved = ap (λ (d : DriverSeen). d.reserved) c.put-2.ensures ∙ ap (λ (d : DriverSeen). d.reserved) c.put.ensures
    ∙ ap (λ (d : DriverSeen). d.reserved) begun.2 in
    ap (λ ws. 4 * length ws) words ∙ sym reserved

pub returns-clause-may : goal.returns-clause-may
returns-clause-may g c =
    let begun = subst (λ r. ReserveAnswers c.args.driver.now 8 r c.reserve.new.self) c.expect-reserved.ensures c.reserve.ensures in
    let first : DriverSeen = c.reserve.new.self in
    let second : DriverSeen = c.put.new.self in
    let third : DriverSeen = c.put-2.new.self in
    let lasts = ap (λ (d : DriverSeen). lasting d.view) c.put-2.ensures ∙ lasts_put second.view second.reserved 1
    ∙ ap (λ (d : DriverSeen). lasting d.view) c.put.ensures ∙ lasts_put first.view first.reserved 30
    ∙ lasts_begun c.args.driver.now.view first.view 8 c.expect-reserved.result begun.1 ∙ ap lasting c.requires.view in
    let words = ap (λ (d : DriverSeen). d.words) c.put-2.ensures ∙ ap (λ (d : DriverSeen). d.words ++ 1 ∷ []) c.put.ensures
    ∙ ap (λ (d : DriverSeen). (d.words ++ 30 ∷ []) ++ 1 ∷ []) begun.2 in
    may_send third.view third.words c.args.session.now c.requires.first lasts words

pub returns-clause-runs : goal.returns-clause-runs
returns-clause-runs g c =
    let begun = subst (λ r. ReserveAnswers c.args.driver.now 8 r c.reserve.new.self) c.expect-reserved.ensures c.reserve.ensures in
    let first : DriverSeen = c.reserve.new.self in
    let second : DriverSeen = c.put.new.self in
    let third : DriverSeen = c.put-2.new.self in
    let lasts = ap (λ (d : DriverSeen). lasting d.view) c.put-2.ensures ∙ lasts_put second.view second.reserved 1
    ∙ ap (λ (d : DriverSeen). lasting d.view) c.put.ensures ∙ lasts_put first.view first.reserved 30
    ∙ lasts_begun c.args.driver.now.view first.view 8 c.expect-reserved.result begun.1 ∙ ap lasting c.requires.view in
    ap (λ (l : Lasting). l.stopped) lasts

pub returns-clause-none_open : goal.returns-clause-none_open
returns-clause-none_open g c =
    let begun = subst (λ r. ReserveAnswers c.args.driver.now 8 r c.reserve.new.self) c.expect-reserved.ensures c.reserve.ensures in
    let first : DriverSeen = c.reserve.new.self in
    let second : DriverSeen = c.put.new.self in
    let third : DriverSeen = c.put-2.new.self in
    let lasts = ap (λ (d : DriverSeen). lasting d.view) c.put-2.ensures ∙ lasts_put second.view second.reserved 1
    ∙ ap (λ (d : DriverSeen). lasting d.view) c.put.ensures ∙ lasts_put first.view first.reserved 30
    ∙ lasts_begun c.args.driver.now.view first.view 8 c.expect-reserved.result begun.1 ∙ ap lasting c.requires.view in
    none_open_still third.view c.args.session.now lasts
