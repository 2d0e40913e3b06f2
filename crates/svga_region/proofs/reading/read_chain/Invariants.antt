use Rattle.std.proofs.Common.{◌≡◌, ℕ, List, length, slice_index_or, []}
use Rattle.svga_region.specs.RegionSet.{RegionSet}
use Rattle.svga_region.specs.WholeChains.{IsUnderWay, WholeChain}
use Rattle.svga_region.proofs.reading.read_chain.Given as goal

-- the chain, whose table page p is number p of the pages
abbrev pub chain_over : RegionSet → List (List ℕ) → ℕ → ℕ → WholeChain
chain_over regions pages id first = record { regions = regions; tables = λ p. slice_index_or pages p []; id = id; first = first }

abbrev pub invariant-loop-step : goal.invariant-loop-step
invariant-loop-step l = (read : List ℕ) × (length read ≡ l._step)
    × IsUnderWay (chain_over l.fn.regions l.pages l.id l.first) read l.wanted l.regions
