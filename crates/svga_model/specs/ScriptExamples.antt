-- Scripts to try the grammar on.
use Rattle.std.specs.Prelude.{ℕ, List, [], ◌∷◌, ◌++◌, codes, Result, Ok, Err, Option, Some, None}
use Rattle.std.specs.List.{flat_map}
use Rattle.std.specs.Result.{result_err}
use Rattle.svga_cmd.specs.declared.script_cause.ScriptCause.{ScriptCause}
use Rattle.svga_model.specs.Scripts.{Script, ScriptFlaw, meaning_of, script_of}
use Rattle.svga_model.specs.ClientActs.{ClientAct}
use Rattle.svga_model.specs.Meanings.{LineAct, Meaning, Refusal, Told}
use Rattle.std.specs.Prelude.{option_map}

-- lines, each ended by a line feed
abbrev pub text_of : List (List ℕ) → List ℕ
text_of lines = flat_map (λ line. line ++ 10 ∷ []) lines

-- the first line of a small session
abbrev pub small_session : List ℕ
small_session = codes "session 65536 1 1 1 1 4294967295 reserve"

-- what is wrong with the line behind it
abbrev pub flaw_behind : List ℕ → Option ScriptFlaw
flaw_behind line = result_err (script_of (text_of (small_session ∷ line ∷ [])))

abbrev pub flaw : ℕ → ℕ → ScriptCause → Option ScriptFlaw
flaw line column cause = Some (record { line = line; column = column; cause = cause })

-- what a text means, where it is a script
abbrev pub meaning_in : Result Script ScriptFlaw → Option Meaning
meaning_in (Ok s) = Some (meaning_of s)
meaning_in (Err f) = None

abbrev pub told_in : List (List ℕ) → Option (List Told)
told_in lines = option_map (λ (m : Meaning). m.told) (meaning_in (script_of (text_of lines)))

abbrev pub refused_in : List (List ℕ) → Option (Option Refusal)
refused_in lines = option_map (λ (m : Meaning). m.refused) (meaning_in (script_of (text_of lines)))

-- the acts of a script, where it is one
abbrev pub acts_in : Result Script ScriptFlaw → Option (List LineAct)
acts_in (Ok s) = Some s.acts
acts_in (Err f) = None

-- the acts that a line behind the small session asks for
abbrev pub asked_behind : List ℕ → Option (List LineAct)
asked_behind line = acts_in (script_of (text_of (small_session ∷ line ∷ [])))

-- one act, asked for in that line
abbrev pub asks : ClientAct → Option (List LineAct)
asks act = Some (record { line = 2; act = act } ∷ [])
