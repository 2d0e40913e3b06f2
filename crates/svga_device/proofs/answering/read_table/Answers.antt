use Rattle.std.proofs.Common.{ap, subst}
use Rattle.svga_machine.specs.MachineSet.{regions_in}
use Rattle.svga_region.specs.ChainCalls.{ReadsChain}
use Rattle.svga_ring.specs.Conditions.{loaded_chain}
use Rattle.svga_device.proofs.ChainLaws.{answering_by, answering_more, chain_changed, has_walked, is_begun, never_refused, walking_more, wanted_key, wanted_touched}
use Rattle.svga_device.proofs.answering.read_table.Goals as goal

pub hold_table-requires : goal.hold_table-requires
hold_table-requires c =
    let e = c.args.end.now in
    let m = c.args.machine.now in
    let a = c.requires.answering in
    let w = c.requires.walking in
    record {
      key = wanted_key e m w.0 c.args.wanted a w.1;
      in_hand = loaded_chain a.none_read a.waits a.no_ring;
      touched = wanted_touched e m w.0 c.args.wanted a w.1;
      room = c.requires.room;
    }

pub page-requires : goal.page-requires
page-requires c = c.hold_table.ensures.there

pub chain_page-requires : goal.chain_page-requires
chain_page-requires c =
    let w = c.requires.walking in is_begun c.args.end.now c.args.machine.now w.0 c.args.wanted c.requires.answering w.1

pub unreachable-requires : goal.unreachable-requires
unreachable-requires c =
    let e = c.args.end.now in
    let e1 = c.hold_table.new.end in
    let m = c.args.machine.now in
    let m1 = c.chain_page.new.self in
    let w = c.requires.walking in
    let h = c.hold_table.ensures.holding e.view c.requires.answering.holding in
    let a1 = answering_more e e1 m h c.requires.answering in
    let w1 = walking_more e e1 m w.0 c.args.wanted h c.hold_table.ensures.among w.1 in
    let reads = subst (λ r. ReadsChain (regions_in m) c.page.result.now r (regions_in m1)) c.in-Err.is c.chain_page.ensures.chain in
    never_refused e1 m w.0 c.args.wanted a1 w1 m1 c.page.result.now c.page.ensures c.facts.ensures.possible _ reads

pub returns-clause-left : goal.returns-clause-left
returns-clause-left c =
    chain_changed c.args.machine.now c.chain_page.new.self c.chain_page.ensures.kept (ap (λ r. r.regions) c.chain_page.ensures.chain.kept)

pub returns-clause-answering : goal.returns-clause-answering
returns-clause-answering c =
    let e = c.args.end.now in
    let h = c.hold_table.ensures.holding e.view c.requires.answering.holding in
    let left = chain_changed c.args.machine.now c.chain_page.new.self c.chain_page.ensures.kept (ap (λ r. r.regions) c.chain_page.ensures.chain.kept) in
    answering_by c.hold_table.new.end c.args.machine.now c.chain_page.new.self left
    (answering_more e c.hold_table.new.end c.args.machine.now h c.requires.answering)

pub returns-clause-view : goal.returns-clause-view
returns-clause-view c = (c.hold_table.ensures.holding c.args.end.now.view c.requires.answering.holding).view

pub returns-clause-walked : goal.returns-clause-walked
returns-clause-walked c = λ read w.
    let e = c.args.end.now in
    let e1 = c.hold_table.new.end in
    let m = c.args.machine.now in
    let m1 = c.chain_page.new.self in
    let h = c.hold_table.ensures.holding e.view c.requires.answering.holding in
    let a1 = answering_more e e1 m h c.requires.answering in
    let w1 = walking_more e e1 m read c.args.wanted h c.hold_table.ensures.among w in
    let reads = subst (λ r. ReadsChain (regions_in m) c.page.result.now r (regions_in m1)) c.in-Ok.is c.chain_page.ensures.chain in
    has_walked e1 m read c.args.wanted a1 w1 m1 c.page.result.now c.page.ensures c.in-Ok.next reads
