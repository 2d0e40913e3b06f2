-- What one table page more of a chain does, against the walk of the whole chain.
use Rattle.std.specs.Prelude.{◌≡◌, ℕ, ◌-◌, ◌<◌, List, [], ◌∷◌, Option, Some, None, option_map, IsSomeAnd, Result, Ok, Err}
use Rattle.svga_cmd.specs.declared.constants.TheConstants.{MAX_DESCRIPTORS}
use Rattle.svga_cmd.specs.declared.fault.Fault.{Fault}
use Rattle.svga_model.specs.Walks.{Tables, TablePosition, positions_from, entered, outcome_after}
use Rattle.svga_region.specs.RegionSet.{Chain}
use Rattle.svga_region.specs.Kept.{chain_of}
use Rattle.svga_region.specs.declared.chain.Reading.{Reading}
use Rattle.svga_region.specs.declared.descriptor.Descriptor.{Descriptor as Kept}
use Rattle.svga_region.specs.declared.chain.ChainNext.{ChainNext}
use Rattle.svga_region.specs.declared.chain.ChainNext.TheVariants.{Page, Whole}

-- a chain of which nothing is read yet
abbrev pub begun_chain : ℕ → ℕ → Chain
begun_chain id first = record { id = id; count = 0; pages = []; wants = Some first }

-- the positions that the walk has still to come to
abbrev pub positions_left : ℕ → Tables → Chain → List TablePosition
positions_left guest tables c = positions_from (MAX_DESCRIPTORS - c.count) guest tables
    (option_map (λ q. record { table = q; pair = 0 }) c.wants)

-- the table pages that the walk has still to enter
abbrev pub entered_left : ℕ → Tables → Chain → List ℕ
entered_left guest tables c = entered (positions_left guest tables c)

-- what the walk gives in the end
abbrev pub outcome_left : ℕ → Tables → Chain → Result (List ℕ) Fault
outcome_left guest tables c = outcome_after guest tables c.count c.pages (positions_left guest tables c)

-- The walk went through table page p and enters q next: what it has still to enter is less by p, and what
-- it gives in the end is the same.
pub record GoesOn (guest : ℕ) (tables : Tables) (p : ℕ) (c : Chain) (q : ℕ) (d : Chain) : Type 0 where
  pub id : d.id ≡ c.id
  pub wants : d.wants ≡ Some q
  pub page : q < guest
  pub more : c.count < d.count
  pub few : d.count < MAX_DESCRIPTORS
  pub entered : entered_left guest tables c ≡ p ∷ entered_left guest tables d
  pub next : (rest : List ℕ) × (entered_left guest tables d ≡ q ∷ rest)
  pub outcome : outcome_left guest tables c ≡ outcome_left guest tables d

-- the walk ended on table page p, and gives these pages
pub record Ends (guest : ℕ) (tables : Tables) (p : ℕ) (c : Chain) (d : Chain) : Type 0 where
  pub id : d.id ≡ c.id
  pub wants : d.wants ≡ None
  pub entered : entered_left guest tables c ≡ p ∷ []
  pub outcome : outcome_left guest tables c ≡ Ok d.pages

-- the walk ended on table page p with a fault, and the chain is over
pub record Fails (guest : ℕ) (tables : Tables) (p : ℕ) (c : Chain) (f : Fault)
    (new : Option Chain) : Type 0 where
  pub over : new ≡ None
  pub entered : entered_left guest tables c ≡ p ∷ []
  pub outcome : outcome_left guest tables c ≡ Err f

-- the answer to table page p, and the chain after it
abbrev pub IsAnswer : ℕ → Tables → ℕ → Chain → Result ChainNext Fault → Option Chain → Type 0
IsAnswer guest tables p c (Ok (Page q)) new = IsSomeAnd new (λ d. GoesOn guest tables p c q d)
IsAnswer guest tables p c (Ok Whole) new = IsSomeAnd new (λ d. Ends guest tables p c d)
IsAnswer guest tables p c (Err f) new = Fails guest tables p c f new

-- the same for the chain that is begun, the table page that it wants, and every memory that has these bytes
-- there
abbrev pub Answers : ℕ → Option Chain → List ℕ → Result ChainNext Fault → Option Chain → Type 0
Answers guest old bytes answer new = (c : Chain) (p : ℕ) (tables : Tables) → old ≡ Some c → c.wants ≡ Some p
    → tables p ≡ bytes → IsAnswer guest tables p c answer new

-- what is wanted after table page p: another one, or none at the end
abbrev pub Continues : ℕ → Tables → ℕ → Chain → Option ℕ → Chain → Type 0
Continues guest tables p c (Some q) d = GoesOn guest tables p c q d
Continues guest tables p c None d = Ends guest tables p c d

-- the same for what is kept of a chain
abbrev pub ReadsTable : ℕ → Tables → ℕ → Chain → Result Reading Fault → List Kept → Type 0
ReadsTable guest tables p c (Ok r) runs = Continues guest tables p c r.wants (chain_of runs r)
ReadsTable guest tables p c (Err f) runs = Fails guest tables p c f None
