-- What the end of a chain leaves of a shape's regions: how many pages there are.
use Rattle.std.proofs.Common.{◌≡◌, ℕ, refl, ap, Option, Some, None, Result, Ok, Err, OnOk, OnErr}
use Rattle.svga_cmd.specs.declared.fault.Fault.{Fault}
use Rattle.svga_model.specs.Walks.{Tables, with_pages}
use Rattle.svga_region.specs.ChainCalls.{FinishesChain}
use Rattle.svga_region.specs.Chains.{IsAnswer}
use Rattle.svga_region.specs.Conditions.{IsChainWhole}
use Rattle.svga_region.specs.RegionSet.{Chain, RegionSet}
use Rattle.svga_region.specs.declared.chain.ChainNext.{ChainNext}
use Rattle.svga_region.specs.declared.chain.ChainNext.TheVariants.{Page, Whole}

-- a begun chain is one
begun : (chain : Option Chain) → IsChainWhole chain → (c : Chain) × (chain ≡ Some c)
begun None whole = absurd whole
begun (Some c) whole = (c, refl)

pub pages_stay : (old new : RegionSet) (result : Result (Unit {0}) Fault) → IsChainWhole old.chain
    → FinishesChain old result new → (new.guest ≡ old.guest) × (new.frame ≡ old.frame)
pages_stay old new (Ok u) whole done =
    let chain = begun old.chain whole in
    let is = done.ok chain.0 chain.1 in
    (ap (λ r. r.guest) is, ap (λ r. r.frame) is)
pages_stay old new (Err f) whole done = (ap (λ r. r.guest) done.err, ap (λ r. r.frame) done.err)
