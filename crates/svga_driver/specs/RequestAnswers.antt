-- What the calls on requests answer, and the one that stops the session.
use Rattle.std.specs.Prelude.{◌≡◌, [], Result, Ok, Err}
use Rattle.svga_driver.specs.Answering.{HasAsked, SettleAnswers}
use Rattle.svga_driver.specs.Driving.{DriverHas, settled, with_view}
use Rattle.svga_driver.specs.declared.closing.Unsettled.{Unsettled}
use Rattle.svga_driver.specs.declared.fault.DriverFault.{DriverFault}
use Rattle.svga_link.specs.Ends.{DriverSeen}
use Rattle.svga_link.specs.Lending.{stopping}

-- a request that was open isn't any more, or the reply isn't its number
abbrev pub SettledAnswers : DriverHas → Result (Unit {0}) DriverFault → DriverHas → Type 0
SettledAnswers d answer left = SettleAnswers d.view answer left.view × (left ≡ with_view d left.view)

-- the end that is left, which has stopped
abbrev pub closed_end : DriverHas → DriverSeen
closed_end d = record {
  table = d.table;
  view = stopping (settled d.view);
  reserved = 0;
  words = [];
  pages = d.own;
}

-- the driver stops, unless a request is open whose number the reply isn't
abbrev pub CloseAnswers : DriverHas → Result DriverSeen Unsettled → Type 0
CloseAnswers d (Ok end) = end ≡ closed_end d
CloseAnswers d (Err u) =
    HasAsked d.view u.request u.reply u.driver.view × (u.driver ≡ with_view d u.driver.view)
