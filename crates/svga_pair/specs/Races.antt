-- What a race of a script leaves.
use Rattle.std.specs.Prelude.{◌≡◌, ℕ, List, Option}
use Rattle.svga_cmd.specs.declared.session.Session.{Session}
use Rattle.svga_head.specs.HeadStates.{HeadState}
use Rattle.svga_head.specs.Plugs.{plug_states}
use Rattle.svga_head.specs.Showing.{AllShow}
use Rattle.svga_head.specs.declared.plug.PlugOf.{PlugOf}
use Rattle.svga_model.specs.Closings.{IsMeant}
use Rattle.svga_model.specs.Pictures.{pictures_of}
use Rattle.svga_model.specs.Scripts.{Script, meaning_of}
use Rattle.svga_pair.specs.Refusals.{IsTold}
use Rattle.svga_pair.specs.Written.{IsWritten}
use Rattle.svga_pair.specs.declared.race_end.RaceEnd.{RaceEnd}
use Rattle.svga_script.specs.Asked.{numbers_of}
use Rattle.svga_text.specs.RaceTexts.{meaning_text}

-- The session that the script opens is closed as its meaning leaves it, with the refused act and the text of
-- its meaning, and each head that is plugged shows the screens in the end.
pub record IsRaced {B K : Type 0} (state : B → HeadState) (held : K → Option (List ℕ)) (faults : K → ℕ)
    (s : Script) (heads : List (PlugOf B)) (before now : K) (end : RaceEnd B) : Type 0 where
  pub session : Session
  pub opened : numbers_of session ≡ s.session
  pub meant : IsMeant session (meaning_of s) end.closed
  pub refused : IsTold end.raced.refused (meaning_of s).refused
  pub text : IsWritten held faults before now (meaning_text (meaning_of s)) end.raced.write_fault
  pub shown : AllShow (pictures_of end.closed.kept.screens) (plug_states state heads)
      (plug_states state end.heads)
