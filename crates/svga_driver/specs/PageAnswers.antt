-- What the calls on pages answer, and when.
use Rattle.std.specs.Prelude.{◌≡◌, ℕ, ◌-◌, ◌<◌, ◌≤◌, List, length, take, true, Option, Some, None, Result, Ok, Err, option_map, suc}
use Rattle.std.specs.FinMap as map
use Rattle.std.specs.FinSet as set
use Rattle.svga_client.specs.Marks.{fence_behind}
use Rattle.svga_client.specs.OwnPages.{writing}
use Rattle.svga_cmd.specs.Pages.{IsKey}
use Rattle.svga_cmd.specs.declared.page.PageKey.{PageKey}
use Rattle.svga_driver.specs.Answering.{HasAsked, IsDone, IsRefused, told}
use Rattle.svga_driver.specs.Driving.{DriverHas, client_in, settled, with_view}
use Rattle.svga_driver.specs.declared.fault.DriverFault.{DriverFault}
use Rattle.svga_driver.specs.declared.fault.DriverFault.TheVariants as driver
use Rattle.svga_driver.specs.declared.lending.Lending.{Lending}
use Rattle.svga_driver.specs.declared.lending.Lending.TheVariants.{Touched, Untouched}
use Rattle.svga_link.specs.Lending.{FenceTold, lending, taking}
use Rattle.svga_model.specs.ClientActs.{Call, LendPage, TakePage, WritePage}
use Rattle.svga_model.specs.Clients.{refusal_of}
use Rattle.svga_model.specs.Fences.{fences, number_of_fence}
use Rattle.svga_model.specs.Memories.{page_bytes}
use Rattle.svga_ring.specs.Committed.{commands}
use Rattle.svga_ring.specs.TableSteps.{page_left}
use Rattle.svga_ring.specs.Views.{DriverView}

-- the client's call is refused so, before anything is loaded
pub record IsRejected (d : DriverHas) (call : Call) (f : DriverFault) (left : DriverHas) : Type 0 where
  pub refused : option_map told (refusal_of (client_in d) call) ≡ Some f
  pub left_is : left ≡ d

-- bytes of a page are written, which is with the driver and stays there
abbrev pub WriteAnswers : DriverHas → PageKey → ℕ → List ℕ → Result (Unit {0}) DriverFault → DriverHas
    → Type 0
WriteAnswers d key offset bytes (Ok done) left =
    IsDone d (WritePage key offset bytes) left
    × (left ≡ record d { own = writing d.own key offset bytes })
WriteAnswers d key offset bytes (Err fault) left = IsRejected d (WritePage key offset bytes) fault left

-- it is lent, and no command has touched it since
abbrev pub LendAnswers : DriverHas → PageKey → Result (Unit {0}) DriverFault → DriverHas → Type 0
LendAnswers d key (Ok done) left = IsDone d (LendPage key) left × (left ≡ record d {
  view = lending d.view key (page_bytes d.own key);
  own = map.remove d.own key;
  touched = map.remove d.touched key;
})
LendAnswers d key (Err fault) left = IsRejected d (LendPage key) fault left

-- FENCE was loaded, and so many fences have been seen
pub record PollTold (d : DriverHas) (seen : ℕ) (left : DriverHas) : Type 0 where
  pub register : ℕ
  pub told : FenceTold d.view left.view register
  pub seen_are : seen ≡ left.view.seen
  pub left_is : left ≡ with_view d left.view

-- it is a lent page of the device
pub record IsLent (d : DriverHas) (key : PageKey) : Type 0 where
  pub key_is : IsKey d.view.terms.limits key
  pub lent : set.contains d.view.lent key ≡ true

-- the number of the first fence behind a command
abbrev pub fence_number_behind : DriverView → ℕ → ℕ
fence_number_behind d place =
    number_of_fence d.terms.first (length (fences (take (suc place) (commands d.acts))))

-- FENCE was loaded, and shows the first fence behind this command
abbrev pub ShowsFence : DriverView → ℕ → DriverView → Type 0
ShowsFence d place left = (register : ℕ) × FenceTold d left register
    × (fence_behind (commands d.acts) place ≤ left.seen)

-- or doesn't show it
abbrev pub ShowsNoFence : DriverView → ℕ → DriverView → Type 0
ShowsNoFence d place left = (register : ℕ) × FenceTold d left register
    × (left.seen < fence_behind (commands d.acts) place)

-- what is loaded for a page, by the last command that touches it, if one does
abbrev pub IsBack : DriverView → Option ℕ → DriverView → Type 0
IsBack d None left = left ≡ d
IsBack d (Some place) left = ShowsFence d place left

-- FENCE was loaded for a page that a command touches, behind which so many fences come with the first one
abbrev pub PassAnswers : DriverView → PageKey → Lending → Result (Unit {0}) DriverFault → DriverView → Type 0
PassAnswers d key Untouched (Ok done) left = left ≡ d
PassAnswers d key Untouched (Err fault) left = ⊥
PassAnswers d key (Touched command count) (Ok done) left = (register : ℕ) × FenceTold d left register
    × (count ≤ left.seen) × (count ≤ length (fences (commands d.acts)))
PassAnswers d key (Touched command count) (Err (driver.NoFence k)) left =
    (k ≡ key) × (length (fences (commands d.acts)) < count) × (left ≡ d)
PassAnswers d key (Touched command count) (Err (driver.NotYet k fence)) left = (k ≡ key)
    × (count ≤ length (fences (commands d.acts))) × (register : ℕ) × FenceTold d left register
    × (left.seen < count) × (fence ≡ number_of_fence d.terms.first (count - 1))
PassAnswers d key (Touched command count) (Err fault) left = ⊥

-- A page comes back: at once where no command of its lending touches it, else once FENCE shows the first
-- fence behind the last that does.
abbrev pub TakeAnswers : DriverHas → PageKey → Result (Unit {0}) DriverFault → DriverHas → Type 0
TakeAnswers d key (Ok done) left = IsDone d (TakePage key) left
    × (loaded : DriverView) × IsBack (settled d.view) (map.get d.touched key) loaded
    × (left ≡ record d {
      view = taking loaded key;
      own = map.insert d.own key (page_left loaded key);
      touched = map.remove d.touched key;
    })
TakeAnswers d key (Err (driver.PageRange k)) left = IsRejected d (TakePage key) (driver.PageRange k) left
TakeAnswers d key (Err (driver.NotLent k)) left = IsRejected d (TakePage key) (driver.NotLent k) left
TakeAnswers d key (Err (driver.Asked request reply)) left =
    IsLent d key × HasAsked d.view request reply left.view × (left ≡ with_view d left.view)
TakeAnswers d key (Err (driver.NoFence k)) left = IsRefused d (TakePage key) (driver.NoFence k) left
TakeAnswers d key (Err (driver.NotYet k fence)) left = (k ≡ key)
    × (refusal_of (client_in d) (TakePage key) ≡ None)
    × (place : ℕ) × (map.get d.touched key ≡ Some place) × ShowsNoFence (settled d.view) place left.view
    × (fence ≡ fence_number_behind d.view place) × (left ≡ with_view d left.view)
TakeAnswers d key (Err fault) left = ⊥
