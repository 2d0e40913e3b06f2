-- The text and the status of a script, and of bytes that are none.
use Rattle.std.proofs.Common.{◌≡◌, inl, inr, ℕ, List, Bool, true, false, cond, Some, None, Ok, Err, refl, ap, ◌∙◌}
use Rattle.std.specs.Prelude.{Option}
use Rattle.svga.specs.Inputs as input
use Rattle.svga.specs.Inputs.{TellsInput}
use Rattle.svga.specs.RaceStatus.{race_status, refused_status}
use Rattle.svga.specs.Telling.{Tells}
use Rattle.svga.specs.declared.form.Form.TheVariants as form
use Rattle.svga_head.specs.HeadStates.{HeadState}
use Rattle.svga_head.specs.declared.plug.PlugOf.{PlugOf}
use Rattle.svga_model.specs.Closings.{Closed}
use Rattle.svga_model.specs.Meanings.{Refusal as Refused}
use Rattle.svga_model.specs.Scripts.{Script, ScriptFlaw, meaning_of, script_of}
use Rattle.svga_pair.specs.Races.{IsRaced}
use Rattle.svga_pair.specs.Refusals.{IsTold}
use Rattle.svga_pair.specs.Written.{IsWritten}
use Rattle.svga_pair.specs.declared.race_end.RaceEnd.{RaceEnd}
use Rattle.svga_pair.specs.declared.raced.Refusal.{Refusal}
use Rattle.svga_text.specs.RaceTexts.{meaning_status, meaning_text, no_script_text}

-- an act that is told as refused has the status of one that the meaning refuses
refused_same : (r : Option Refusal) (f : Option Refused) → IsTold r f → refused_status r ≡ meaning_status f
refused_same None None told = refl
refused_same None (Some f) told = absurd told
refused_same (Some r) None told = absurd told
refused_same (Some r) (Some f) told = refl

module _ {K : Type 0} {held : K → Option (List ℕ)} {faults : K → ℕ} where
  -- a script was run
  pub of_script : {B : Type 0} (state : B → HeadState) (before now : K) (bytes : List ℕ) (s : Script)
      (heads : List (PlugOf B)) (end : RaceEnd B) (answer : ℕ) (race : Option Closed)
      → script_of bytes ≡ Ok s → IsRaced state held faults s heads before now end
      → answer ≡ race_status end.raced → race ≡ Some end.closed
      → TellsInput held faults before now form.Race bytes answer race
  of_script state before now bytes s heads end answer race is of status some =
      inr (
        meaning_status (meaning_of s).refused,
        meaning_text (meaning_of s),
        input.raced s is of.session of.opened end.closed some of.meant refl refl,
        by end.raced.write_fault refl of.text,
      )
    where
      by : (failed : Bool) → end.raced.write_fault ≡ failed
          → IsWritten held faults before now (meaning_text (meaning_of s)) failed
          → Tells held faults before now (meaning_text (meaning_of s)) (meaning_status (meaning_of s).refused)
          answer
      by false whole grown =
          inl (
            status ∙ ap (λ b. cond b 5 (refused_status end.raced.refused)) whole
                ∙ refused_same end.raced.refused (meaning_of s).refused of.refused,
            grown,
          )
      by true failed prefix =
          inr (status ∙ ap (λ b. cond b 5 (refused_status end.raced.refused)) failed, prefix)

  -- the bytes are none
  pub of_no_script : (before now : K) (bytes : List ℕ) (f : ScriptFlaw) (answer : ℕ) (race : Option Closed)
      → script_of bytes ≡ Err f → race ≡ None → Tells held faults before now (no_script_text f) 3 answer
      → TellsInput held faults before now form.Race bytes answer race
  of_no_script before now bytes f answer race is none wrote =
      inr (3, no_script_text f, input.no_script f is none refl refl, wrote)
