-- A whole chain, made by the three calls one after another over pages that don't change between them.
use Rattle.std.specs.Prelude.{◌≡◌, ◌≢◌, ℕ, ◌<◌, ◌≤◌, List, [], ◌∷◌, ◌++◌, length, Option, Some, None, IsSomeAnd, OnErr, OnOk, Result, Ok, Err}
use Rattle.std.specs.Result.{result_err}
use Rattle.svga_cmd.specs.declared.constants.TheConstants.{MAX_DESCRIPTORS, MAX_REGION_ID}
use Rattle.svga_cmd.specs.declared.fault.Fault.{Fault}
use Rattle.svga_model.specs.Standing.{first_standing}
use Rattle.svga_model.specs.Walks.{Tables, chain_tests, entered, walk, walk_outcome, with_chain}
use Rattle.svga_region.specs.Chains.{entered_left, outcome_left}
use Rattle.svga_region.specs.RegionSet.{Chain, RegionSet}
use Rattle.svga_region.specs.declared.chain.ChainNext.{ChainNext}
use Rattle.svga_region.specs.declared.chain.ChainNext.TheVariants.{Page, Whole}

-- a chain: the regions before it, the bytes of the table pages, the region that it is for, and its first
-- table page
pub record WholeChain : Type 0 where
  pub regions : RegionSet
  pub tables : Tables
  pub id : ℕ
  pub first : ℕ

-- the table pages that its walk enters
abbrev pub walked : WholeChain → List ℕ
walked w = entered (walk w.regions.guest w.tables w.first)

-- what its walk gives
abbrev pub given : WholeChain → Result (List ℕ) Fault
given w = walk_outcome w.regions.guest w.tables w.first

-- what it is refused with, if it is
abbrev pub fault_of_chain : WholeChain → Option Fault
fault_of_chain w = first_standing (chain_tests w.regions.guest w.regions.regions w.tables w.id w.first)

-- the regions, while another chain is begun than before it, or none
abbrev pub with_begun : WholeChain → Option Chain → RegionSet
with_begun w chain = record w.regions { chain = chain }

-- what is left of it, once these table pages were read and this one is wanted
pub record IsLeft (w : WholeChain) (read : List ℕ) (wanted : ℕ) (c : Chain) : Type 0 where
  pub id : c.id ≡ w.id
  pub wants : c.wants ≡ Some wanted
  pub page : wanted < w.regions.guest
  pub more : length read ≤ c.count
  pub few : c.count < MAX_DESCRIPTORS
  pub entered : walked w ≡ read ++ entered_left w.regions.guest w.tables c
  pub next : (rest : List ℕ) × (entered_left w.regions.guest w.tables c ≡ wanted ∷ rest)
  pub outcome : outcome_left w.regions.guest w.tables c ≡ given w

-- it could be begun
pub record IsAllowed (w : WholeChain) : Type 0 where
  pub some : w.first ≢ 0
  pub id : w.id ≤ MAX_REGION_ID

-- it is under way: these table pages were read, and this one is wanted
pub record IsUnderWay (w : WholeChain) (read : List ℕ) (wanted : ℕ) (now : RegionSet) : Type 0 where
  pub allowed : IsAllowed w
  pub kept : now ≡ with_begun w now.chain
  pub left : IsSomeAnd now.chain (IsLeft w read wanted)

-- the chain that is read has the pages that the walk gives
pub record HasGiven (w : WholeChain) (c : Chain) : Type 0 where
  pub id : c.id ≡ w.id
  pub wants : c.wants ≡ None
  pub pages : given w ≡ Ok c.pages

-- its end was read on the last of these table pages, which are all that its walk enters
pub record IsRead (w : WholeChain) (read : List ℕ) (now : RegionSet) : Type 0 where
  pub allowed : IsAllowed w
  pub kept : now ≡ with_begun w now.chain
  pub entered : walked w ≡ read
  pub whole : IsSomeAnd now.chain (HasGiven w)

-- its walk ended with a fault on the last of these table pages, which are all that it enters
pub record IsRefused (w : WholeChain) (read : List ℕ) (f : Fault) (now : RegionSet) : Type 0 where
  pub over : now ≡ with_begun w None
  pub entered : walked w ≡ read
  pub fault : fault_of_chain w ≡ Some f

-- what its beginning comes to: it is under way, or refused and nothing changed
abbrev pub HasBegun : WholeChain → Result (Unit {0}) Fault → RegionSet → Type 0
HasBegun w (Ok done) new = IsUnderWay w [] w.first new
HasBegun w (Err f) new = (fault_of_chain w ≡ Some f) × (new ≡ w.regions)

-- what the reading of its next table page comes to, the last of these
abbrev pub HasRead : WholeChain → List ℕ → Result ChainNext Fault → RegionSet → Type 0
HasRead w read (Ok (Page wanted)) new = IsUnderWay w read wanted new
HasRead w read (Ok Whole) new = IsRead w read new
HasRead w read (Err f) new = IsRefused w read f new

-- what its end comes to: the regions after the chain, or the fault that it has
pub record IsDone (w : WholeChain) (answer : Result (Unit {0}) Fault) (new : RegionSet) : Type 0 where
  pub fault : result_err answer ≡ fault_of_chain w
  pub ok : OnOk answer
      (new ≡ record w.regions {
        regions = with_chain w.regions.guest w.regions.regions w.tables w.id w.first;
        chain = None;
      })
  pub err : OnErr answer (new ≡ with_begun w None)
