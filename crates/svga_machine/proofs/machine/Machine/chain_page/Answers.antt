-- The regions of the machine are those of its shape.
use Rattle.std.proofs.Common.{ap, subst, ◌∙◌}
use Rattle.svga_region.specs.ChainCalls.{ReadsChain}
use Rattle.svga_region.specs.RegionSet.{RegionSet}
use Rattle.svga_machine.specs.MachineSet.{regions_in}
use Rattle.svga_machine.proofs.PartsLaws.{chain_kept, chain_parts, regions_are}
use Rattle.svga_machine.proofs.machine.Machine.chain_page.Goals as goal

pub invariant_of-self : goal.invariant_of-self
invariant_of-self c = (
  chain_parts c.self.inside.shape c.chain_page.new.self c.self.inside.screens c.self.inside.fence c.self.invariant.0 c.chain_page.ensures.kept c.chain_page.ensures.valid,
  c.self.invariant.1,
)

pub returns-clause-chain : goal.returns-clause-chain
returns-clause-chain c =
    let P : RegionSet × RegionSet → Type 0 = λ p. let old = p.0 in let new = p.1 in ReadsChain old c.args.page.now c.chain_page.result new in
    let new = chain_parts c.self.inside.shape c.chain_page.new.self c.self.inside.screens c.self.inside.fence c.self.invariant.0 c.chain_page.ensures.kept c.chain_page.ensures.valid in
    let olds = regions_are c.self.inside.shape c.self.inside.screens c.self.inside.fence c.self.invariant.0 ∙ ap regions_in c.self.view_is in
    let news = regions_are c.chain_page.new.self c.self.inside.screens c.self.inside.fence new in
    subst P (λ i. (olds i, news i)) c.chain_page.ensures.chain

pub returns-clause-kept : goal.returns-clause-kept
returns-clause-kept c = chain_kept c.self.inside.shape c.chain_page.new.self c.self.inside.screens c.self.inside.fence c.self.invariant.0 c.chain_page.ensures.kept c.chain_page.ensures.valid c.args.self.now c.self.view_is
