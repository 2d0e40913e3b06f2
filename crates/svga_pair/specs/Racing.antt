-- What the lines of a script do, one after another.
use Rattle.std.specs.Prelude.{◌≡◌, ℕ, List, [], map as map_list, Bool, Option, Some, None, option_to_list, Result, Ok, Err}
use Rattle.std.specs.List.{flat_map}
use Rattle.svga_model.specs.ClientActs.{Call}
use Rattle.svga_model.specs.ClientFaults.{ClientFault, client_key, client_number}
use Rattle.svga_model.specs.Clients.{Client}
use Rattle.svga_model.specs.Meanings.{LineCall, Meaning, meaning_from}
use Rattle.svga_pair.specs.Answering.{CanTell, told_in}
use Rattle.svga_pair.specs.Written.{IsWritten}
use Rattle.svga_pair.specs.declared.answer.Refused.{Refused}
use Rattle.svga_pair.specs.declared.answer.Told.{Told}
use Rattle.svga_text.specs.RaceTexts.{told_text}

-- the calls of a line
abbrev pub in_line : ℕ → List Call → List LineCall
in_line line calls = map_list (λ call. record { line = line; call = call }) calls

-- calls that mean this are done, and tell this
pub record AreDone (m : Meaning) (told : Told) (now : Client) : Type 0 where
  pub none : m.refused ≡ None
  pub told_is : m.told ≡ option_to_list (told_in now told)
  pub can_tell : CanTell now told
  pub client_is : now ≡ m.client

-- or one of them, in this line, is refused so, and they tell nothing
pub record IsOneRefused (line : ℕ) (m : Meaning) (r : Refused) (now : Client) : Type 0 where
  pub fault : ClientFault
  pub refused : m.refused ≡ Some (record { line = line; fault = fault })
  pub number_is : r.number ≡ client_number fault
  pub key_is : r.key ≡ client_key fault
  pub none_told : m.told ≡ []
  pub client_is : now ≡ m.client

-- the calls of a line are done, or one of them is refused
abbrev pub AreEnded : ℕ → Client → List Call → Result Told Refused → Client → Type 0
AreEnded line c calls (Ok told) now = AreDone (meaning_from c (in_line line calls)) told now
AreEnded line c calls (Err r) now = IsOneRefused line (meaning_from c (in_line line calls)) r now

-- None of these calls was refused, the client is as they leave it, and what they tell was written.
pub record HasRaced {K : Type 0} (held : K → Option (List ℕ)) (faults : K → ℕ) (first : Client)
    (calls : List LineCall) (now : Client) (before after : K) (failed : Bool) : Type 0 where
  pub none : (meaning_from first calls).refused ≡ None
  pub client_is : now ≡ (meaning_from first calls).client
  pub text : IsWritten held faults before after (flat_map told_text (meaning_from first calls).told) failed
