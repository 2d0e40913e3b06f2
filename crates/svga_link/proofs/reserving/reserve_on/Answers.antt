use Rattle.std.proofs.Common.{◌≡◌, ◌-◌, arith, ap}
use Rattle.std.specs.Prelude.{min}
use Rattle.svga_link.proofs.Begins.{begun, no_room}
use Rattle.svga_link.proofs.reserving.reserve_on.Goals as goal

pub returns-in-InPlace-clause-answers : goal.returns-in-InPlace-clause-answers
returns-in-InPlace-clause-answers c =
    let plan = c.in-InPlace.ensures.plan in
    let all : c.args.bytes ≡ min c.args.bytes (c.geometry.result.max - c.next-at.result) = omega (arith, plan.1) in
    begun _ c.load_stop-stop.new.self.view _ _ _ _ _ c.geometry.result c.load_stop-stop.ensures.told c.requires.none_pending c.geometry.ensures
    c.next-at.ensures plan.0 (ap (λ s. s.view) c.begin_on.ensures) all

pub returns-in-Bounce-clause-answers : goal.returns-in-Bounce-clause-answers
returns-in-Bounce-clause-answers c =
    let plan = c.in-Bounce.ensures.plan in
    let front : c.in-Bounce.first ≡ min c.args.bytes (c.geometry.result.max - c.next-at.result) = omega (arith, plan.1, plan.2) in
    begun _ c.load_stop-stop.new.self.view _ _ _ _ _ c.geometry.result c.load_stop-stop.ensures.told c.requires.none_pending c.geometry.ensures
    c.next-at.ensures plan.0 (ap (λ s. s.view) c.begin_on-in-Bounce.ensures) front

pub returns-in-NoRoom-clause-answers : goal.returns-in-NoRoom-clause-answers
returns-in-NoRoom-clause-answers c =
    let plan = c.in-NoRoom.ensures.plan in
    no_room _ _ _ _ _ _ c.geometry.result c.load_stop-stop.ensures.told c.requires.none_pending c.geometry.ensures
    c.next-at.ensures plan.2 plan.1
