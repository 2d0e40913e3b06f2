-- What the call answers that describes a region by a chain of table pages, and when.
use Rattle.std.specs.Prelude.{◌≡◌, ◌≢◌, ℕ, ◌++◌, List, All, true, Option, Some, None, Result, Ok, Err, option_map}
use Rattle.std.specs.FinSet as set
use Rattle.svga_cmd.specs.Pages.{IsKey}
use Rattle.svga_driver.specs.Answering.{HasAsked, IsDone, told}
use Rattle.svga_driver.specs.Driving.{DriverHas, client_in, settled, with_view}
use Rattle.svga_driver.specs.declared.fault.DriverFault.{DriverFault}
use Rattle.svga_driver.specs.declared.fault.DriverFault.TheVariants as driver
use Rattle.svga_driver.specs.declared.fault.Posted.{Posted}
use Rattle.svga_link.specs.Lending.{asking}
use Rattle.svga_link.specs.Reserving.{next_command}
use Rattle.svga_link.specs.Told.{StopTold}
use Rattle.svga_model.specs.Acts.{Act, Chain, Do, Put}
use Rattle.svga_model.specs.ClientActs.{DescribeRegion}
use Rattle.svga_model.specs.ClientFaults.{ClientFault, first_true}
use Rattle.svga_model.specs.Clients.{refusal_of, start_refusals}
use Rattle.svga_ring.specs.TableSteps.{page_left}
use Rattle.svga_ring.specs.Views.{DriverView}

-- why a chain can't be begun, by its region and its first page alone
abbrev pub start_refusal : DriverHas → ℕ → ℕ → Option ClientFault
start_refusal d id first = first_true (start_refusals (client_in d) id first)

-- STOP was loaded, and it is NEXT_CMD: all that was sent is taken
pub record IsAllTaken (d left : DriverView) : Type 0 where
  pub stop : ℕ
  pub told_by : StopTold d left stop
  pub is_next : stop ≡ next_command d

-- STOP was loaded, and it isn't
pub record IsBehind (d : DriverView) (stop next : ℕ) (left : DriverView) : Type 0 where
  pub told_by : StopTold d left stop
  pub next_is : next ≡ next_command d
  pub differ : stop ≢ next

-- what that load answers
abbrev pub LoadAnswers : DriverView → Result (Unit {0}) DriverFault → DriverView → Type 0
LoadAnswers d (Ok done) left = IsAllTaken d left
LoadAnswers d (Err (driver.Busy stop next)) left = IsBehind d stop next left
LoadAnswers d (Err fault) left = ⊥

-- the act gives a lent page of the device again as it is
abbrev pub IsAgain : DriverView → Act → Type 0
IsAgain d (Do command) = ⊥
IsAgain d (Put key bytes) =
    IsKey d.terms.limits key × (set.contains d.lent key ≡ true) × (bytes ≡ page_left d key)
IsAgain d (Chain id first) = ⊥

-- lent pages were read: each was taken and then lent again as it was
pub record IsReread (d left : DriverView) : Type 0 where
  pub again : List Act
  pub each : All (IsAgain d) again
  pub left_is : left ≡ record d { acts = d.acts ++ again }

-- once no request is open, STOP was loaded and is NEXT_CMD, and table pages were read
pub record IsWalked (d left : DriverView) : Type 0 where
  pub loaded : DriverView
  pub all_taken : IsAllTaken (settled d) loaded
  pub reread : IsReread loaded left

-- what was loaded and read for a chain that can't be begun, and for one that can
abbrev pub IsLookedAt : Option ClientFault → DriverView → DriverView → Type 0
IsLookedAt (Some f) d left = left ≡ settled d
IsLookedAt None d left = IsWalked d left

-- the chain is asked for, by a request of this number
pub record IsPosted (d : DriverHas) (id first : ℕ) (posted : Posted) (left : DriverHas) : Type 0 where
  pub done : IsDone d (DescribeRegion id first) left
  pub walked : DriverView
  pub walk : IsWalked d.view walked
  pub number : posted.request ≡ left.view.request.number
  pub left_is : left ≡ with_view d (asking walked id first)

-- The client is refused so. Nothing changes for it, and no word is sent.
pub record IsNotDescribed (d : DriverHas) (id first : ℕ) (f : DriverFault) (left : DriverHas) : Type 0 where
  pub refused : option_map told (refusal_of (client_in d) (DescribeRegion id first)) ≡ Some f
  pub looked : IsLookedAt (start_refusal d id first) d.view left.view
  pub client_is : client_in left ≡ client_in d
  pub left_is : left ≡ with_view d left.view

-- The chain could be begun, but not all that was sent is taken. Nothing changes for the client.
pub record IsBusy (d : DriverHas) (id first stop next : ℕ) (left : DriverHas) : Type 0 where
  pub begins : start_refusal d id first ≡ None
  pub behind : IsBehind (settled d.view) stop next left.view
  pub client_is : client_in left ≡ client_in d
  pub left_is : left ≡ with_view d left.view

-- The answers of a call that describes a region. No two cases stand together.
abbrev pub DescribeAnswers : DriverHas → ℕ → ℕ → Result Posted DriverFault → DriverHas → Type 0
DescribeAnswers d id first (Ok posted) left = IsPosted d id first posted left
DescribeAnswers d id first (Err (driver.Asked request reply)) left =
    HasAsked d.view request reply left.view × (left ≡ with_view d left.view)
DescribeAnswers d id first (Err (driver.Busy stop next)) left = IsBusy d id first stop next left
DescribeAnswers d id first (Err (driver.Refused f)) left = IsNotDescribed d id first (driver.Refused f) left
DescribeAnswers d id first (Err (driver.PageOut key)) left =
    IsNotDescribed d id first (driver.PageOut key) left
DescribeAnswers d id first (Err fault) left = ⊥
