-- Words that are taken from the front of those that are left.
use Rattle.std.specs.Prelude.{◌≡◌, ℕ, List, [], ◌∷◌, Some, None, Result, Ok, Err}
use Rattle.svga_cmd.specs.declared.script_cause.ScriptCause.TheVariants.{Missing}
use Rattle.svga_model.specs.ScriptLines.{Rule, flaw_at, front_flaw}
use Rattle.svga_model.specs.ScriptWords.{Word}
use Rattle.svga_script.specs.Faults.{flaw_of}
use denote.Ref.{Bor}
use Rattle.svga_script.specs.declared.fault.LineFault.{LineFault}
use Rattle.svga_script.specs.declared.words.Taken.{Taken}

abbrev pub word_of : Taken → Word
word_of w = record { column = w.column; letters = w.letters.now }

-- the first of the words, or there is none
abbrev pub IsNext : ℕ → List Word → Result Taken LineFault → List Word → Type 0
IsNext behind before (Ok w) now = before ≡ word_of w ∷ now
IsNext behind before (Err f) now = (before ≡ []) × (flaw_of f ≡ flaw_at behind Missing)

-- A word was taken from the front that keeps the rule, and this was read of it; or it is missing or breaks
-- the rule.
abbrev pub IsTaken : {X : Type 0} → Rule → (List ℕ → X) → ℕ → List Word → Result X LineFault → List Word
    → Type 0
IsTaken rule value behind before (Ok x) now = (w : Word) × (before ≡ w ∷ now) × (rule w.letters ≡ None)
    × (x ≡ value w.letters)
IsTaken rule value behind before (Err f) now = front_flaw behind rule before ≡ Some (flaw_of f)

-- likewise, and these are its letters
abbrev pub AreTaken : Rule → ℕ → List Word → Result (Bor (List ℕ)) LineFault → List Word → Type 0
AreTaken rule behind before (Ok letters) now = (w : Word) × (before ≡ w ∷ now) × (rule w.letters ≡ None)
    × (letters.now ≡ w.letters)
AreTaken rule behind before (Err f) now = front_flaw behind rule before ≡ Some (flaw_of f)
