use Rattle.std.proofs.Common.{sym, ap, subst, ◌∙◌}
use Rattle.svga_link.specs.Ends.{DeviceSeen}
use Rattle.svga_ring.specs.Views.{DeviceView}
use Rattle.svga_device.specs.Chains.{IsChainRun}
use Rattle.svga_device.proofs.ChainLaws.{answering_by}
use Rattle.svga_device.proofs.HeldLaws.{listed_none}
use Rattle.svga_device.proofs.answering.run_chain.Goals as goal

pub remove_region-requires : goal.remove_region-requires
remove_region-requires c = record {
  answering = c.requires.answering;
  region = c.requires.numbers.id_is;
  none = sym c.requires.numbers.descriptor_is ∙ c.if-request-eq0.true;
}

pub read_tables-requires : goal.read_tables-requires
read_tables-requires c = record {
  answering = answering_by c.args.end.now c.args.machine.now c.start_chain.new.machine c.start_chain.ensures.left c.requires.answering;
  walking = c.start_chain.ensures.walking;
  pages = c.requires.pages;
  empty = c.requires.empty;
}

pub finish_chain-requires : goal.finish_chain-requires
finish_chain-requires c = record { answering = c.read_tables.ensures.answering; walked = c.read_tables.ensures.walked }

pub returns-then-request-eq0-clause-listed : goal.returns-then-request-eq0-clause-listed
returns-then-request-eq0-clause-listed c =
    listed_none c.args.end.now.view.terms.limits c.remove_region.new.end.pages c.args.held.now (ap (λ (d : DeviceSeen). d.pages) c.remove_region.ensures.end ∙ c.requires.pages) c.requires.empty

pub returns-else-request-eq0-clause-ran : goal.returns-else-request-eq0-clause-ran
returns-else-request-eq0-clause-ran c =
    subst (λ (e : DeviceView). IsChainRun e.kept c.read_tables.new.end.pages e.wanted c.finish_chain.new.machine.kept)
    c.read_tables.ensures.holding.view c.finish_chain.ensures.ran
