-- Lines of a script that were read, and what is held of them.
use Rattle.std.specs.Prelude.{◌≡◌, Option, Some, None, option_map, Result, Ok, Err, false, map as map_list}
use Rattle.svga_model.specs.Meanings as model
use Rattle.svga_model.specs.ScriptLines.{LineFlaw}
use Rattle.svga_model.specs.Scripts.{Read}
use Rattle.svga_script.specs.Acts.{act_of}
use Rattle.svga_script.specs.Asked.{numbers_of}
use Rattle.svga_script.specs.Faults.{flaw_of}
use Rattle.svga_script.specs.declared.fault.LineFault.{LineFault}
use Rattle.svga_script.specs.declared.reading.LineAct.{LineAct}
use Rattle.svga_script.specs.declared.reading.Reading.{Reading}

abbrev pub line_act : LineAct → model.LineAct
line_act a = record { line = a.line; act = act_of a.act }

-- the lines say this; the acts are held unless memory was short
pub record IsReadingOf (r : Read) (held : Reading) : Type 0 where
  pub lines : held.lines ≡ r.lines
  pub session : option_map numbers_of held.session ≡ r.session
  pub acts : held.short ≡ false → map_list line_act held.acts.items ≡ r.acts

-- A line more has no flaw, and what the lines say then is held; or it has this flaw, and no line is counted.
abbrev pub IsAdded : {X : Type 0} → Option LineFlaw → (Read → Read) → Reading → Reading → Result X LineFault
    → Type 0
IsAdded flaw more old new (Ok x) = (flaw ≡ None) × ((r : Read) → IsReadingOf r old → IsReadingOf (more r) new)
IsAdded flaw more old new (Err f) = (flaw ≡ Some (flaw_of f)) × (new.lines ≡ old.lines)
