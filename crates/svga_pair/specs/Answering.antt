-- What becomes of a driver's calls, for its client.
use Rattle.std.specs.Prelude.{◌≡◌, ℕ, Option, Some, None, Result, Ok, Err}
use Rattle.svga_cmd.specs.Fault.{number_of}
use Rattle.svga_cmd.specs.declared.page.PageKey.{PageKey}
use Rattle.svga_driver.specs.declared.fault.DriverFault.{DriverFault}
use Rattle.svga_driver.specs.declared.fault.DriverFault.TheVariants as driver
use Rattle.svga_model.specs.ClientActs.{Call, ShowPage}
use Rattle.svga_model.specs.ClientFaults.{ClientFault, client_key, client_number}
use Rattle.svga_model.specs.Clients.{Client, after_call, refusal_of}
use Rattle.svga_model.specs.Meanings as model
use Rattle.svga_model.specs.Meanings.{Fenced, Shown, told_by}
use Rattle.svga_model.specs.Memories.{page_bytes}
use Rattle.svga_pair.specs.declared.answer.Answer.{Answer}
use Rattle.svga_pair.specs.declared.answer.Answer.TheVariants as answer
use Rattle.svga_pair.specs.declared.answer.Refused.{Refused}
use Rattle.svga_pair.specs.declared.answer.Told.{Told}
use Rattle.svga_pair.specs.declared.answer.Told.TheVariants.{Nothing, Fence, Page}

-- it is refused by this number, with this page
abbrev pub refused_by : ℕ → Option PageKey → Answer
refused_by number key = answer.Refused (record { number = number; key = key })

-- what becomes of a call that answers a fault: it is refused, or can be done later
abbrev pub answer_of : DriverFault → Answer
answer_of (driver.NoRoom stop free) = answer.Again
answer_of (driver.Refused f) = refused_by (number_of f) None
answer_of (driver.PageOut key) = refused_by 21 (Some key)
answer_of (driver.PageLent key) = refused_by 22 (Some key)
answer_of (driver.NotLent key) = refused_by 23 (Some key)
answer_of (driver.NoFence key) = refused_by 24 (Some key)
answer_of (driver.NotYet key fence) = answer.Again
answer_of driver.FenceWindow = answer.Unseen
answer_of (driver.Busy stop next) = answer.Again
answer_of (driver.Asked request reply) = answer.Again
answer_of (driver.PageRange key) = refused_by 25 (Some key)

-- likewise of one that tells nothing where it is done
abbrev pub answer_to : Result (Unit {0}) DriverFault → Answer
answer_to (Ok done) = answer.Done Nothing
answer_to (Err fault) = answer_of fault

-- what a client is told
abbrev pub told_in : Client → Told → Option model.Told
told_in c Nothing = None
told_in c (Fence number) = Some (Fenced number)
told_in c (Page key) = Some (Shown key (page_bytes c.state.memory key))

-- a page that is told is with the client
abbrev pub CanTell : Client → Told → Type 0
CanTell c (Page key) = refusal_of c (ShowPage key) ≡ None
CanTell c told = Unit {0}

-- the call is done, and this is told
pub record IsDoneSo (c : Client) (call : Call) (told : Told) (now : Client) : Type 0 where
  pub granted : refusal_of c call ≡ None
  pub told_is : told_by c call ≡ told_in now told
  pub can_tell : CanTell now told
  pub client_is : now ≡ after_call c call

-- or it is refused so
pub record IsRefusedSo (c : Client) (call : Call) (r : Refused) (now : Client) : Type 0 where
  pub fault : ClientFault
  pub refused : refusal_of c call ≡ Some fault
  pub number_is : r.number ≡ client_number fault
  pub key_is : r.key ≡ client_key fault
  pub client_is : now ≡ c

-- it is done, is refused, or can be done later
abbrev pub IsAnswer : Client → Call → Answer → Client → Type 0
IsAnswer c call (answer.Done told) now = IsDoneSo c call told now
IsAnswer c call (answer.Refused r) now = IsRefusedSo c call r now
IsAnswer c call answer.Again now = now ≡ c
IsAnswer c call answer.Unseen now = now ≡ c

-- it is done in the end, or refused
abbrev pub IsEnd : Client → Call → Result Told Refused → Client → Type 0
IsEnd c call (Ok told) now = IsDoneSo c call told now
IsEnd c call (Err r) now = IsRefusedSo c call r now
