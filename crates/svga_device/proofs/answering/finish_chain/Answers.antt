use Rattle.svga_device.specs.Chains.{chain_over}
use Rattle.svga_machine.specs.MachineSet.{regions_in}
use Rattle.svga_region.proofs.WholeLaws.{is_whole}
use Rattle.svga_device.proofs.ChainLaws.{chain_over_then, chain_run, none_refused}
use Rattle.svga_device.proofs.answering.finish_chain.Goals as goal

pub chain_finish-requires : goal.chain_finish-requires
chain_finish-requires c =
    let e = c.args.end.now in
    let w = c.requires.walked in
    is_whole (chain_over e.view e.pages) w.0 (regions_in c.args.machine.now) w.1.whole

pub unreachable-requires : goal.unreachable-requires
unreachable-requires c =
    let w = c.requires.walked in
    none_refused c.args.end.now c.args.machine.now w.0 c.requires.answering w.1 c.facts.ensures.possible c.chain_finish.new.self c.chain_finish.result c.chain_finish.ensures.chain _ c.in-Err.is

pub returns-clause-ran : goal.returns-clause-ran
returns-clause-ran c =
    let w = c.requires.walked in
    chain_run c.args.end.now c.args.machine.now w.0 c.requires.answering w.1 c.facts.ensures.possible c.chain_finish.new.self c.chain_finish.result c.chain_finish.ensures.chain c.in-Ok.is c.chain_finish.ensures.kept

pub returns-clause-chain : goal.returns-clause-chain
returns-clause-chain c =
    let w = c.requires.walked in
    chain_over_then c.args.end.now c.args.machine.now w.0 c.requires.answering w.1 c.facts.ensures.possible c.chain_finish.new.self c.chain_finish.result c.chain_finish.ensures.chain c.in-Ok.is
