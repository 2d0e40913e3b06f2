-- The text of a race: what its calls tell, the screens that they leave, and how they end.
use Rattle.std.specs.Prelude.{ℕ, List, [], ◌∷◌, ◌++◌, codes, Option, Some, None, option_to_list, map as map_list, Result, Ok, Err}
use Rattle.std.specs.Fmt.{decimal}
use Rattle.std.specs.List.{flat_map}
use Rattle.svga_cmd.specs.declared.script_cause.ScriptCause.{ScriptCause}
use Rattle.svga_cmd.specs.declared.script_cause.ScriptCause.TheVariants as script
use Rattle.svga_model.specs.ClientFaults.{ClientFault, NoFence, NotLent, PageLent, PageOut, PageRange, Refused, client_key, client_number}
use Rattle.svga_model.specs.Meanings.{Fenced, Meaning, Refusal, Shown, Told}
use Rattle.svga_model.specs.Scripts.{Script, ScriptFlaw, meaning_of}
use Rattle.svga_text.specs.Lines.{line}
use Rattle.svga_text.specs.Names.{fault_name}
use Rattle.svga_text.specs.Keys.{key_text}
use Rattle.svga_text.specs.Pages.{page_text}
use Rattle.svga_text.specs.Pictures.{screens_text}

-- the name of a client's fault, and why bytes are no script
abbrev pub client_name : ClientFault → List ℕ
client_name (Refused f) = fault_name f
client_name (PageOut key) = codes "PageOut"
client_name (PageLent key) = codes "PageLent"
client_name (NotLent key) = codes "NotLent"
client_name (NoFence key) = codes "NoFence"
client_name (PageRange key) = codes "PageRange"

abbrev pub script_cause_name : ScriptCause → List ℕ
script_cause_name script.Limit = codes "Limit"
script_cause_name script.Character = codes "Character"
script_cause_name script.Space = codes "Space"
script_cause_name script.Session = codes "Session"
script_cause_name script.Word = codes "Word"
script_cause_name script.Number = codes "Number"
script_cause_name script.Missing = codes "Missing"
script_cause_name script.Extra = codes "Extra"

-- a fence, or a page that is shown
abbrev pub told_text : Told → List ℕ
told_text (Fenced number) = line (codes "fence") (decimal number ∷ [])
told_text (Shown key bytes) = page_text key bytes

-- the last line: with the number of the refused act's line, and the page that is told with its fault
abbrev pub end_text : Option Refusal → List ℕ
end_text None = line (codes "end") []
end_text (Some r) = line (codes "refused line")
    (decimal r.line ∷ codes "fault" ∷ decimal (client_number r.fault) ∷ client_name r.fault
    ∷ map_list key_text (option_to_list (client_key r.fault)))

abbrev pub meaning_text : Meaning → List ℕ
meaning_text m = flat_map told_text m.told ++ screens_text m.client.state.kept.screens ++ end_text m.refused

abbrev pub meaning_status : Option Refusal → ℕ
meaning_status None = 0
meaning_status (Some r) = 1

-- bytes that are no script
abbrev pub no_script_text : ScriptFlaw → List ℕ
no_script_text f = line (codes "script line")
    (decimal f.line ∷ codes "column" ∷ decimal f.column ∷ script_cause_name f.cause ∷ [])

-- the text and the status of a script, or of none
abbrev pub script_text : Result Script ScriptFlaw → List ℕ
script_text (Ok s) = meaning_text (meaning_of s)
script_text (Err f) = no_script_text f

abbrev pub script_status : Result Script ScriptFlaw → ℕ
script_status (Ok s) = meaning_status (meaning_of s).refused
script_status (Err f) = 3
