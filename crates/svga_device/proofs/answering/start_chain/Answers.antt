use Rattle.std.proofs.Common.{sym, ap, subst, ◌∙◌}
use Rattle.std.proofs.lemmas.Option.{none-some}
use Rattle.std.specs.Result.{result_err}
use Rattle.svga_machine.specs.MachineSet.{regions_in}
use Rattle.svga_region.specs.ChainCalls.{StartsChain}
use Rattle.svga_device.proofs.ChainLaws.{begun_walking, chain_changed}
use Rattle.svga_device.proofs.ChainOut.{starts_none}
use Rattle.svga_device.proofs.answering.start_chain.Goals as goal

pub unreachable-requires : goal.unreachable-requires
unreachable-requires c =
    let a = c.requires.answering in
    let none = starts_none c.args.end.now c.args.machine.now c.args.request a.kept c.requires.numbers c.requires.some c.facts.ensures.possible a.waits in
    none-some _ (sym none ∙ sym c.chain_start.ensures.chain.fault ∙ ap result_err c.in-Err.is)

pub returns-clause-left : goal.returns-clause-left
returns-clause-left c =
    let starts = subst (λ r. StartsChain (regions_in c.args.machine.now) c.args.request.id c.args.request.descriptor r (regions_in c.chain_start.new.self)) c.in-Ok.is c.chain_start.ensures.chain in
    chain_changed c.args.machine.now c.chain_start.new.self c.chain_start.ensures.kept (ap (λ r. r.regions) starts.ok)

pub returns-clause-walking : goal.returns-clause-walking
returns-clause-walking c =
    let starts = subst (λ r. StartsChain (regions_in c.args.machine.now) c.args.request.id c.args.request.descriptor r (regions_in c.chain_start.new.self)) c.in-Ok.is c.chain_start.ensures.chain in
    begun_walking c.args.end.now c.args.machine.now c.chain_start.new.self c.args.request c.requires.answering.kept c.requires.numbers c.requires.some starts
