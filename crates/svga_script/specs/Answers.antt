-- What the reading of a script answers.
use Rattle.std.specs.Prelude.{◌≡◌, Result, Ok, Err, IsOk}
use Rattle.svga_model.specs.Scripts.{Script, ScriptFlaw}
use Rattle.svga_script.specs.declared.fault.ScriptFault.{ScriptFault}
use Rattle.svga_script.specs.declared.fault.ScriptFault.TheVariants.{Line, Memory}

-- The answer to bytes that are this: the script, or where they are none and why. Memory is wanting for a
-- script alone.
abbrev pub IsAnswer : Result Script ScriptFlaw → Result Script ScriptFault → Type 0
IsAnswer expected (Ok s) = expected ≡ Ok s
IsAnswer expected (Err (Line number column cause)) = expected
    ≡ Err (record { line = number; column = column; cause = cause })
IsAnswer expected (Err Memory) = IsOk expected
