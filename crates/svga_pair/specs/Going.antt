-- How a driver goes on in its session.
use Rattle.std.specs.Prelude.{◌≡◌, ℕ, ◌+◌, ◌*◌, ◌≤◌, ◌++◌, List, length, Result}
use Rattle.std.specs.FinMap as map
use Rattle.svga_cmd.specs.Pages.{IsZeroMemoryOf}
use Rattle.svga_cmd.specs.declared.command.Command.{Command}
use Rattle.svga_cmd.specs.declared.session.Session.{Session}
use Rattle.svga_driver.specs.Driving.{DriverHas, MAX_SENT_WORDS, client_in}
use Rattle.svga_model.specs.ClientActs.{Call}
use Rattle.svga_model.specs.Closings.{stores_of}
use Rattle.svga_model.specs.ScriptLines.{SessionNumbers}
use Rattle.svga_model.specs.Sentences.{spelling_all}
use Rattle.svga_pair.specs.Answering.{IsAnswer, IsEnd}
use Rattle.svga_pair.specs.Calls.{commit_count}
use Rattle.svga_pair.specs.declared.answer.Answer.{Answer}
use Rattle.svga_pair.specs.declared.answer.Refused.{Refused}
use Rattle.svga_pair.specs.declared.answer.Told.{Told}
use Rattle.svga_ring.specs.Committed.{commands}
use Rattle.svga_ring.specs.Views.{opening_driver}
use Rattle.svga_script.specs.Asked.{numbers_of}

-- it was made for a session of these numbers, and has done nothing yet
pub record IsFresh (s : SessionNumbers) (d : DriverHas) : Type 0 where
  pub session : Session
  pub opened : numbers_of session ≡ s
  pub view_is : d.view ≡ opening_driver session
  pub pages : IsZeroMemoryOf session.limits d.own
  pub touched : d.touched ≡ map.empty

-- It is in the same session, and has committed these commands more, all of whose words are sent.
pub record HasSent (d : DriverHas) (more : List Command) (left : DriverHas) : Type 0 where
  pub table_is : left.table ≡ d.table
  pub terms_are : left.view.terms ≡ d.view.terms
  pub layout_is : left.view.layout ≡ d.view.layout
  pub commands_are : commands left.view.acts ≡ commands d.view.acts ++ more
  pub sent_are : left.view.sent ≡ d.view.sent ++ spelling_all more
  pub stores_are : left.view.next_stores ≡ d.view.next_stores + stores_of d.view.terms.way more

-- it has sent so many commands at most
pub record GoesOn (d : DriverHas) (most : ℕ) (left : DriverHas) : Type 0 where
  pub more : List Command
  pub has_sent : HasSent d more left
  pub few : length (spelling_all more) ≤ most * MAX_SENT_WORDS

-- A call was made once: this becomes of it, and the driver goes on.
pub record HasTried (d : DriverHas) (call : Call) (a : Answer) (left : DriverHas) : Type 0 where
  pub answer : IsAnswer (client_in d) call a (client_in left)
  pub goes : GoesOn d (commit_count call) left

-- It was made until it was done or refused.
pub record HasEnded (d : DriverHas) (call : Call) (end : Result Told Refused)
    (left : DriverHas) : Type 0 where
  pub ends : IsEnd (client_in d) call end (client_in left)
  pub goes : GoesOn d (commit_count call) left
