-- What sending a command answers.
use Rattle.std.specs.Prelude.{◌≡◌, ℕ, ◌*◌, ◌<◌, List, length, Result, Ok, Err}
use Rattle.svga_cmd.specs.declared.command.Command.{Command}
use Rattle.svga_driver.specs.declared.fault.DriverFault.{DriverFault}
use Rattle.svga_driver.specs.declared.fault.DriverFault.TheVariants as driver
use Rattle.svga_link.specs.Ends.{DriverSeen}
use Rattle.svga_link.specs.ReserveAnswers.{HasNoRoom}
use Rattle.svga_link.specs.Reserving.{free_now}
use Rattle.svga_link.specs.Told.{StopTold, committed}
use Rattle.svga_ring.specs.Views.{DriverView}

-- STOP was loaded, by it there is room, and these words were sent, which spell the command
pub record AreSent (d : DriverView) (command : Command) (words : List ℕ) (left : DriverView) : Type 0 where
  pub loaded : DriverView
  pub stop : ℕ
  pub told_by : StopTold d loaded stop
  pub enough : 4 * length words < free_now loaded
  pub left_is : left ≡ committed loaded command words

-- STOP was loaded, and by it there isn't
pub record HasNoRoomFor (d : DriverView) (bytes : ℕ) (fault : DriverFault) (left : DriverView) : Type 0 where
  pub stop : ℕ
  pub free : ℕ
  pub fault_is : fault ≡ driver.NoRoom stop free
  pub too_few : HasNoRoom d bytes stop free left

abbrev pub SendAnswers : DriverSeen → Command → List ℕ → Result (Unit {0}) DriverFault → DriverSeen → Type 0
SendAnswers d command words (Ok done) left =
    AreSent d.view command words left.view × (left ≡ record d { view = left.view })
SendAnswers d command words (Err fault) left =
    HasNoRoomFor d.view (4 * length words) fault left.view × (left ≡ record d { view = left.view })
