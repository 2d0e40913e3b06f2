use Rattle.std.proofs.Common.{sym, subst, ◌∙◌}
use Rattle.std.proofs.lemmas.Option.{none-some}
use Rattle.svga_model.specs.ValidStates.{IsKept}
use Rattle.svga_ring.specs.Views.{DeviceView}
use Rattle.svga_device.proofs.ChainLaws.{region_removed, same_end}
use Rattle.svga_device.proofs.ChainOut.{removal_good}
use Rattle.svga_device.proofs.KeptGood.{kept_good}
use Rattle.svga_device.proofs.ServingLaws.{no_places}
use Rattle.svga_device.proofs.answering.remove_region.Goals as goal

pub run-requires-clause-there : goal.run-requires-clause-there
run-requires-clause-there c = λ none. no_places c.args.end.now.pages

pub unreachable-requires : goal.unreachable-requires
unreachable-requires c =
    let p = c.facts.ensures.possible in
    let valid = subst (λ (e : DeviceView). IsKept e.kept) p.view_is (kept_good p.key p.core p.sound) in
    let none = removal_good c.args.end.now c.args.machine.now c.args.region c.requires.answering c.requires.region valid p in
    none-some _ (sym (c.in-Err.ensures.fault ∙ none))

pub returns-clause-end : goal.returns-clause-end
returns-clause-end c = same_end c.args.end.now c.args.machine.now c.run.new.self c.args.region c.run.new.store c.in-Ok.ensures.rest c.in-Ok.ensures.ok

pub returns-clause-ran : goal.returns-clause-ran
returns-clause-ran c =
    region_removed c.args.end.now c.args.machine.now c.run.new.self c.args.region c.run.new.store.pages c.requires.answering c.requires.region c.requires.none c.facts.ensures.possible c.in-Ok.ensures.ok
