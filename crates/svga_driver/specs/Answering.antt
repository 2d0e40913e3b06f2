-- What the driver's calls answer in common: a request that is out, a refusal that the client's rule gives,
-- and
-- a call that is done.
use Rattle.std.specs.Prelude.{◌≡◌, ◌≢◌, ℕ, Some, None, Result, Ok, Err, option_map}
use Rattle.svga_driver.specs.Driving.{DriverHas, client_in, open_request, settled, with_view}
use Rattle.svga_driver.specs.declared.fault.DriverFault.{DriverFault}
use Rattle.svga_driver.specs.declared.fault.DriverFault.TheVariants as driver
use Rattle.svga_link.specs.Lending.{with_reply}
use Rattle.svga_model.specs.ClientActs.{Call}
use Rattle.svga_model.specs.ClientFaults.{ClientFault, NoFence, NotLent, PageLent, PageOut, PageRange, Refused}
use Rattle.svga_model.specs.Clients.{after_call, refusal_of}
use Rattle.svga_ring.specs.Views.{DriverView}

-- how a driver tells why a client's call is refused
abbrev pub told : ClientFault → DriverFault
told (Refused f) = driver.Refused f
told (PageOut key) = driver.PageOut key
told (PageLent key) = driver.PageLent key
told (NotLent key) = driver.NotLent key
told (NoFence key) = driver.NoFence key
told (PageRange key) = driver.PageRange key

-- a request is open, and a reply was loaded that isn't its number
pub record HasAsked (d : DriverView) (request reply : ℕ) (left : DriverView) : Type 0 where
  pub open_is : open_request d ≡ Some request
  pub other : reply ≢ request
  pub left_is : left ≡ with_reply d reply

-- what the loading of a reply answers, where a request is open
abbrev pub SettleAnswers : DriverView → Result (Unit {0}) DriverFault → DriverView → Type 0
SettleAnswers d (Ok done) left = left ≡ settled d
SettleAnswers d (Err (driver.Asked request reply)) left = HasAsked d request reply left
SettleAnswers d (Err fault) left = ⊥

-- the client's call is refused so, and nothing is done
pub record IsRefused (d : DriverHas) (call : Call) (f : DriverFault) (left : DriverHas) : Type 0 where
  pub refused : option_map told (refusal_of (client_in d) call) ≡ Some f
  pub left_is : left ≡ with_view d (settled d.view)

-- it isn't refused, and is done: the client goes on as if at once
pub record IsDone (d : DriverHas) (call : Call) (left : DriverHas) : Type 0 where
  pub granted : refusal_of (client_in d) call ≡ None
  pub client_is : client_in left ≡ after_call (client_in d) call
