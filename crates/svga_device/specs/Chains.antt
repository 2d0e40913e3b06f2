-- A device while it serves a request for a chain, and what it comes to.
use Rattle.std.specs.Prelude.{◌≡◌, ◌≢◌, ℕ, All, List, [], Some, None, false}
use Rattle.std.specs.FinMap as map
use Rattle.svga_cmd.specs.Pages.{HasPage, Memory, page_at}
use Rattle.svga_cmd.specs.declared.page.PageKey.{PageKey}
use Rattle.svga_cmd.specs.declared.page.PageKey.TheVariants.{Guest}
use Rattle.svga_device.specs.Serving.{IsHolding}
use Rattle.svga_link.specs.Ends.{DeviceSeen}
use Rattle.svga_link.specs.Holding.{HasNumbers, RequestTold}
use Rattle.svga_link.specs.declared.requests.Request as given
use Rattle.svga_machine.specs.MachineSet.{MachineSet, regions_in}
use Rattle.svga_model.specs.Faults.{IsAdmissible}
use Rattle.svga_model.specs.States.{Kept}
use Rattle.svga_model.specs.Steps.{step}
use Rattle.svga_model.specs.Touches.{Touches}
use Rattle.svga_model.specs.Walks.{tables_of}
use Rattle.svga_region.specs.WholeChains.{IsRead, IsUnderWay, WholeChain}
use Rattle.svga_region.specs.declared.chain.ChainNext.{ChainNext}
use Rattle.svga_region.specs.declared.chain.ChainNext.TheVariants.{Page, Whole}
use Rattle.svga_ring.specs.Core.{chain_of}
use Rattle.svga_ring.specs.Requests.{Request, is_ring_request}
use Rattle.svga_ring.specs.Views.{DeviceView}

-- the request that was loaded asks for a chain, isn't answered, and has these numbers
pub record IsOut (e : DeviceView) (found : given.Request) : Type 0 where
  pub waits : e.wanted.number ≢ e.answered
  pub no_ring : is_ring_request e.wanted ≡ false
  pub numbers : HasNumbers found e.wanted

-- Such a request is in hand. The machine keeps what the view does, and the pages that are held are as they
-- were found.
pub record IsAnswering (e : DeviceSeen) (m : MachineSet) : Type 0 where
  pub waits : e.view.wanted.number ≢ e.view.answered
  pub no_ring : is_ring_request e.view.wanted ≡ false
  pub none_read : e.view.read ≡ []
  pub kept : e.view.kept ≡ m.kept
  pub limits : e.view.terms.limits ≡ e.view.kept.limits
  pub holding : IsHolding e.view e.view e.pages

-- the chain that it asks for, over these pages
abbrev pub chain_over : DeviceView → Memory → WholeChain
chain_over e pages = record {
  regions = regions_in (record { kept = e.kept; chain = None });
  tables = tables_of pages;
  id = e.wanted.id;
  first = e.wanted.descriptor;
}

-- these pages are among all, and the same there
abbrev pub AreAmong : Memory → Memory → Type 0
AreAmong pages all = (key : PageKey) → HasPage pages key → page_at all key ≡ page_at pages key

-- These table pages were read, and are held, and this one is wanted: the walk comes to them whatever the
-- pages are that aren't held yet.
pub record IsWalking (e : DeviceSeen) (m : MachineSet) (read : List ℕ) (wanted : ℕ) : Type 0 where
  pub there : All (λ p. HasPage e.pages (Guest p)) read
  pub way : (all : Memory) → AreAmong e.pages all
      → IsUnderWay (chain_over e.view all) read wanted (regions_in m)

-- these table pages, which are held, are all that the walk enters, and its end was read
pub record IsWalked (e : DeviceSeen) (m : MachineSet) (read : List ℕ) : Type 0 where
  pub there : All (λ p. HasPage e.pages (Guest p)) read
  pub whole : IsRead (chain_over e.view e.pages) read (regions_in m)

-- what the reading of a table page comes to, the last of these
abbrev pub HasWalked : DeviceSeen → MachineSet → List ℕ → ChainNext → Type 0
HasWalked e m read (Page wanted) = IsWalking e m read wanted
HasWalked e m read Whole = IsWalked e m read

-- what the chain of a request left of what was kept, on pages among which are all that it touches
pub record IsChainRun (before : Kept) (pages : Memory) (r : Request) (left : Kept) : Type 0 where
  pub there : (key : PageKey) → Touches (record { kept = before; memory = pages }) (chain_of r) key
      → HasPage pages key
  pub admissible : IsAdmissible (record { kept = before; memory = pages }) (chain_of r)
  pub stepped : left ≡ (step (record { kept = before; memory = pages }) (chain_of r)).kept

-- the request that was loaded is answered, and this is kept
abbrev pub answered_with : DeviceView → Kept → DeviceView
answered_with e kept = record e { kept = kept; noted = map.empty; answered = e.wanted.number }

-- the request that was loaded is answered: its chain is run
pub record IsAnsweredBy (before after : DeviceView) : Type 0 where
  pub pages : Memory
  pub kept : Kept
  pub ran : IsChainRun before.kept pages before.wanted kept
  pub answered : after ≡ answered_with before kept

-- a request was loaded that was out, and it is answered
pub record HasAnswered (before after : DeviceView) : Type 0 where
  pub request : given.Request
  pub loaded : DeviceView
  pub told : RequestTold before loaded (Some request)
  pub answered : IsAnsweredBy loaded after
