-- How a driver reads a chain of table pages, and what comes of it.
use Rattle.std.specs.Prelude.{◌≡◌, ℕ, ◌≤◌, [], ◌∷◌, ◌++◌, length, true, Option, Some, None, Result, Ok, Err}
use Rattle.std.specs.FinSet as set
use Rattle.std.specs.FinSet.{FinSet}
use Rattle.svga_cmd.specs.Pages.{key_cmp}
use Rattle.svga_cmd.specs.declared.page.PageKey.{PageKey}
use Rattle.svga_cmd.specs.declared.page.PageKey.TheVariants.{Guest}
use Rattle.svga_driver.specs.declared.fault.DriverFault.{DriverFault}
use Rattle.svga_driver.specs.declared.fault.DriverFault.TheVariants as driver
use Rattle.svga_model.specs.Acts.{Chain, Put}
use Rattle.svga_model.specs.Clients.{first_table_out}
use Rattle.svga_model.specs.Faults.{IsAdmissible, fault_of}
use Rattle.svga_model.specs.Runs.{done}
use Rattle.svga_model.specs.States.{State, shape_of}
use Rattle.svga_model.specs.Steps.{step}
use Rattle.svga_model.specs.Touches.{chain_walk}
use Rattle.svga_model.specs.Walks.{entered, tables_of}
use Rattle.svga_ring.specs.Committed.{commands}
use Rattle.svga_ring.specs.Conditions.{NoneOpen, first_state}
use Rattle.svga_ring.specs.SoundPages.{known_done}
use Rattle.svga_ring.specs.TableSteps.{page_left}
use Rattle.svga_ring.specs.Views.{DriverView}
use Rattle.svga_shape.specs.ShapeSet.{ShapeSet, shape_in}

-- a lent page is taken, and lent again as the acts leave it
abbrev pub giving_again : DriverView → PageKey → DriverView
giving_again d key = record d { acts = d.acts ++ Put key (page_left d key) ∷ [] }

-- no request is open, all commands are known to be done, and all acts are admissible in their turn
pub record IsAtRest (d : DriverView) : Type 0 where
  pub none_open : NoneOpen d
  pub all_done : length (commands d.acts) ≤ known_done d.acts d.passed d.seen
  pub in_turn : done (first_state d) d.acts ≡ length d.acts

-- the lent pages of guest memory are in this state as the acts leave them
abbrev pub HasLentPages : State → DriverView → Type 0
HasLentPages s d = (p : ℕ) → set.contains d.lent (Guest p) ≡ true
    → tables_of s.memory p ≡ page_left d (Guest p)

-- the first table page that the reading of the chain enters and that isn't lent
abbrev pub table_out : State → FinSet key_cmp → ℕ → Option PageKey
table_out s lent first = first_table_out lent (entered (chain_walk s first))

-- What the reading of a chain answers, and the shape that it leaves: that of the state after the chain, or
-- else the same.
abbrev pub ChainAnswers : State → FinSet key_cmp → ℕ → ℕ → Result (Unit {0}) DriverFault → ShapeSet → ShapeSet
    → Type 0
ChainAnswers s lent id first (Ok done) old new = (table_out s lent first ≡ None)
    × IsAdmissible s (Chain id first) × (shape_of (step s (Chain id first)).kept ≡ shape_in new)
ChainAnswers s lent id first (Err (driver.PageOut key)) old new =
    (table_out s lent first ≡ Some key) × (shape_in new ≡ shape_in old)
ChainAnswers s lent id first (Err (driver.Refused f)) old new = (table_out s lent first ≡ None)
    × (fault_of s (Chain id first) ≡ Some f) × (shape_in new ≡ shape_in old)
ChainAnswers s lent id first (Err fault) old new = ⊥
