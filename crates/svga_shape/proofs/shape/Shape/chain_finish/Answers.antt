use Rattle.std.proofs.Common.{sym, subst, ◌∙◌}
use Rattle.svga_region.specs.Conditions.{IsChainWhole}
use Rattle.svga_shape.proofs.ChainLaws.{pages_stay}
use Rattle.svga_shape.proofs.shape.Shape.chain_finish.Goals as goal

pub invariant_of-self : goal.invariant_of-self
invariant_of-self c =
    let whole = subst (λ s. IsChainWhole s.regions.chain) (sym c.self.view_is) c.requires in
    let stay = pages_stay c.self.inside.regions c.chain_finish.new.self c.chain_finish.result whole c.chain_finish.ensures in (
      c.self.invariant.0,
      record {
        guest = stay.0 ∙ c.self.invariant.1.guest;
        frame = stay.1 ∙ c.self.invariant.1.frame;
        budget = c.self.invariant.1.budget;
      },
      c.self.invariant.2,
    )

pub returns-clause-valid : goal.returns-clause-valid
returns-clause-valid c = (invariant_of-self c).1
