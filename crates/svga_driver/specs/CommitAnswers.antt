-- What the calls that commit a command answer, and when.
use Rattle.std.specs.Prelude.{◌≡◌, ℕ, ◌+◌, ◌*◌, ◌<◌, ◌≤◌, length, None, Result, Ok, Err}
use Rattle.svga_cmd.specs.Spelling.{spelling}
use Rattle.svga_cmd.specs.declared.command.Command.{Command}
use Rattle.svga_cmd.specs.declared.command.Command.TheVariants.{Fence as FenceCommand}
use Rattle.svga_cmd.specs.declared.constants.TheConstants.{FENCE_WINDOW}
use Rattle.svga_driver.specs.Answering.{HasAsked, IsDone, IsRefused}
use Rattle.svga_driver.specs.Driving.{DriverHas, client_in, settled, with_view}
use Rattle.svga_driver.specs.Sending.{AreSent}
use Rattle.svga_driver.specs.declared.fault.DriverFault.{DriverFault}
use Rattle.svga_driver.specs.declared.fault.DriverFault.TheVariants as driver
use Rattle.svga_driver.specs.declared.fault.Fence.{Fence}
use Rattle.svga_link.specs.ReserveAnswers.{HasNoRoom}
use Rattle.svga_model.specs.ClientActs.{Call, Commit, CommitFence}
use Rattle.svga_model.specs.Clients.{next_fence, refusal_of}
use Rattle.svga_model.specs.Fences.{fences}
use Rattle.svga_ring.specs.Committed.{commands}
use Rattle.svga_ring.specs.Views.{DriverView}

-- STOP was loaded, and by it there isn't
pub record LacksRoom (d : DriverHas) (command : Command) (stop free : ℕ) (left : DriverHas) : Type 0 where
  pub too_few : HasNoRoom (settled d.view) (4 * length (spelling command)) stop free left.view
  pub left_is : left ≡ with_view d left.view

-- The command is committed: nothing changes but the view and what is noted of the pages that it touches.
pub record IsCommitted (d : DriverHas) (call : Call) (command : Command) (left : DriverHas) : Type 0 where
  pub done : IsDone d call left
  pub sent : AreSent (settled d.view) command (spelling command) left.view
  pub left_is : left ≡ record d { view = left.view; touched = left.touched }

-- The answers of a call that commits a command. No two cases stand together.
abbrev pub CommitAnswers : DriverHas → Command → Result (Unit {0}) DriverFault → DriverHas → Type 0
CommitAnswers d command (Ok done) left = IsCommitted d (Commit command) command left
CommitAnswers d command (Err (driver.Asked request reply)) left =
    HasAsked d.view request reply left.view × (left ≡ with_view d left.view)
CommitAnswers d command (Err (driver.Refused f)) left = IsRefused d (Commit command) (driver.Refused f) left
CommitAnswers d command (Err (driver.PageOut key)) left =
    IsRefused d (Commit command) (driver.PageOut key) left
CommitAnswers d command (Err (driver.NoRoom stop free)) left =
    (refusal_of (client_in d) (Commit command) ≡ None) × LacksRoom d command stop free left
CommitAnswers d command (Err fault) left = ⊥

-- how many fences were committed
abbrev pub emitted_by : DriverView → ℕ
emitted_by d = length (fences (commands d.acts))

-- the FENCE that comes next
abbrev pub fence_of : DriverHas → Command
fence_of d = FenceCommand (next_fence (client_in d))

-- those of the call that commits the next FENCE
abbrev pub FenceAnswers : DriverHas → Result Fence DriverFault → DriverHas → Type 0
FenceAnswers d (Ok fence) left =
    (emitted_by d.view < d.view.seen + FENCE_WINDOW) × (fence.number ≡ next_fence (client_in d))
    × IsCommitted d CommitFence (fence_of d) left
FenceAnswers d (Err (driver.Asked request reply)) left =
    HasAsked d.view request reply left.view × (left ≡ with_view d left.view)
FenceAnswers d (Err driver.FenceWindow) left =
    (d.view.seen + FENCE_WINDOW ≤ emitted_by d.view) × (left ≡ with_view d (settled d.view))
FenceAnswers d (Err (driver.NoRoom stop free)) left =
    (emitted_by d.view < d.view.seen + FENCE_WINDOW) × LacksRoom d (fence_of d) stop free left
FenceAnswers d (Err fault) left = ⊥
