use Rattle.std.proofs.Common.{◌≡◌, ◌+◌, arith, drop, length, sym, subst, ◌∙◌}
use Rattle.std.proofs.lemmas.List.{drop_all}
use Rattle.svga_model.proofs.GrammarSpelled.{spelled_some}
use Rattle.svga_ring.specs.Conditions.{MayCommit}
use Rattle.svga_link.proofs.WordByWord.{first_sent, may_commit_first, may_put_more, more_put, more_sent, whole_sent}
use Rattle.svga_link.specs.Seats.{SeenDriverSeat}
use Rattle.svga_link.proofs.sending.send_by_dword.Goals as goal

pub send_first-requires : goal.send_first-requires
send_first-requires c =
    let command = c.requires.may.0 in
    let may = c.requires.may.1 in
    let some = spelled_some command c.args.words.now may.spelled in
    let first = may_commit_first c.args.seat.now.view c.args.words.now command c.requires.way c.requires.all_sent c.requires.none_pending some may in
    (command, subst (λ (s : SeenDriverSeat). MayCommit s.view command) (sym c.store_cell.ensures) first, may.spelled)

pub loop-i-init : goal.loop-i-init
loop-i-init c =
    let some = spelled_some c.requires.may.0 c.args.words.now c.requires.may.1.spelled in
    first_sent c.args.seat.now c.store_cell.new.self c.send_first.new.self c.args.words.now c.requires.none_pending some
    c.store_cell.ensures c.send_first.ensures.sent c.send_first.ensures.unsent

pub store_cell-requires-in-loop-i : goal.store_cell-requires-in-loop-i
store_cell-requires-in-loop-i c =
    may_put_more c.args.seat.now c.loop-i.seat c.args.words.now c.loop-i.i c.requires.may.0 c.requires.may.1.spelled
    c.loop-i.invariant c.requires.way c.requires.none_pending c.requires.room c.loop-i-test.true

pub send_more-requires-clause-front : goal.send_more-requires-clause-front
send_more-requires-clause-front c =
    let put = more_put c.args.seat.now c.loop-i.seat c.store_cell-in-loop-i.new.self c.args.words.now c.loop-i.i c.requires.may.0
    c.requires.may.1.spelled c.loop-i.invariant c.loop-i-test.true c.store_cell-in-loop-i.ensures in
    (put.some, (drop (c.loop-i.i + 1) c.args.words.now, put.unsent_are))

pub send_more-requires-clause-one : goal.send_more-requires-clause-one
send_more-requires-clause-one c =
    (more_put c.args.seat.now c.loop-i.seat c.store_cell-in-loop-i.new.self c.args.words.now c.loop-i.i c.requires.may.0
    c.requires.may.1.spelled c.loop-i.invariant c.loop-i-test.true c.store_cell-in-loop-i.ensures).one

pub loop-i-preserved : goal.loop-i-preserved
loop-i-preserved c =
    let put = more_put c.args.seat.now c.loop-i.seat c.store_cell-in-loop-i.new.self c.args.words.now c.loop-i.i c.requires.may.0
    c.requires.may.1.spelled c.loop-i.invariant c.loop-i-test.true c.store_cell-in-loop-i.ensures in
    more_sent c.args.seat.now c.loop-i.seat c.store_cell-in-loop-i.new.self c.send_more.new.self c.args.words.now c.loop-i.i
    c.loop-i.invariant c.loop-i-test.true c.store_cell-in-loop-i.ensures c.send_more.ensures.sent
    (c.send_more.ensures.unsent (drop (c.loop-i.i + 1) c.args.words.now) put.unsent_are)

pub returns-clause-all_sent : goal.returns-clause-all_sent
returns-clause-all_sent c = c.loop-i.invariant.unsent_are ∙ drop_all c.loop-i.i c.args.words.now c.loop-i-test.false

pub returns-clause-sent : goal.returns-clause-sent
returns-clause-sent c =
    let some = spelled_some c.requires.may.0 c.args.words.now c.requires.may.1.spelled in
    let last : c.loop-i.i ≡ length c.args.words.now = omega (arith, c.loop-i.auto.i-end, c.loop-i-test.false, some) in
    whole_sent c.args.seat.now c.loop-i.seat c.args.words.now c.loop-i.i c.loop-i.invariant last c.requires.way
    c.requires.none_reserved
