-- What the three calls of a chain do to the regions, old and new, and what they answer.
use Rattle.std.specs.Prelude.{◌≡◌, ℕ, List, length, None, Some, OnErr, OnOk, Option, Result, Ok, Err}
use Rattle.std.specs.Result.{result_err}
use Rattle.svga_cmd.specs.declared.fault.Fault.{Fault}
use Rattle.svga_model.specs.Standing.{first_standing}
use Rattle.svga_model.specs.Walks.{list_tests, start_tests, with_pages}
use Rattle.svga_region.specs.Chains.{Answers, begun_chain}
use Rattle.svga_region.specs.Conditions.{IsChainBegun, IsChainWhole}
use Rattle.svga_region.specs.RegionSet.{Chain, RegionSet}
use Rattle.svga_region.specs.declared.chain.ChainNext.{ChainNext}
use Rattle.svga_region.specs.declared.chain.ChainNext.TheVariants.{Page, Whole}

-- a chain is begun for a region, with this first table page
pub record StartsChain (old : RegionSet) (id first : ℕ) (answer : Result (Unit {0}) Fault)
    (new : RegionSet) : Type 0 where
  pub fault : result_err answer ≡ first_standing (start_tests old.guest id first)
  pub ok : OnOk answer (new ≡ record old { chain = Some (begun_chain id first) })
  pub err : OnErr answer (new ≡ old)

-- what stands after an answer: a chain that wants a table page, one whose end was read, or none
abbrev pub IsLeftBy : Result ChainNext Fault → Option Chain → Type 0
IsLeftBy (Ok (Page wanted)) chain = IsChainBegun chain
IsLeftBy (Ok Whole) chain = IsChainWhole chain
IsLeftBy (Err f) chain = chain ≡ None

-- the table page that the chain wants is read, which has these bytes; nothing but the chain changes
pub record ReadsChain (old : RegionSet) (bytes : List ℕ) (answer : Result ChainNext Fault)
    (new : RegionSet) : Type 0 where
  pub answers : Answers old.guest old.chain bytes answer new.chain
  pub left : IsLeftBy answer new.chain
  pub kept : new ≡ record old { chain = new.chain }

-- the region gets the list of the chain, which is over in any case
pub record FinishesChain (old : RegionSet) (answer : Result (Unit {0}) Fault) (new : RegionSet) : Type 0 where
  pub fault : (c : Chain) → old.chain ≡ Some c
      → result_err answer ≡ first_standing (list_tests old.regions c.id (length c.pages))
  pub ok : OnOk answer ((c : Chain) → old.chain ≡ Some c
      → new ≡ record old { regions = with_pages old.regions c.id c.pages; chain = None })
  pub err : OnErr answer (new ≡ record old { chain = None })
