-- What is wrong in a line, as the model has it.
use Rattle.std.specs.Prelude.{◌≡◌, Option, Some, None, Result, Ok, Err}
use Rattle.svga_model.specs.ScriptLines.{LineFlaw}
use Rattle.svga_script.specs.declared.fault.LineFault.{LineFault}

abbrev pub flaw_of : LineFault → LineFlaw
flaw_of f = record { column = f.column; cause = f.cause }

-- nothing is wrong and this is the value, or this is wrong
abbrev pub IsJudged : {X : Type 0} → Option LineFlaw → X → Result X LineFault → Type 0
IsJudged flaw value (Ok x) = (flaw ≡ None) × (x ≡ value)
IsJudged flaw value (Err f) = flaw ≡ Some (flaw_of f)
