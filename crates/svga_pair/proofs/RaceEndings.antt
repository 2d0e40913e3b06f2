-- How a race's text ends.
use Rattle.std.proofs.Common.{◌≡◌, ℕ, List, ◌++◌, Bool, true, false, sym, subst, append_assoc, Option, Result, Ok, Err, OnOk, OnErr}
use Rattle.std.specs.List.{flat_map}
use Rattle.svga_io.proofs.Chains.{Grows-then, GrowsByPrefix-first, GrowsByPrefix-then}
use Rattle.svga_io.specs.Growing.{Grows, GrowsByPrefix}
use Rattle.svga_io.specs.declared.fault.WriteFault.{WriteFault}
use Rattle.svga_model.specs.Meanings.{Meaning}
use Rattle.svga_model.specs.Screens.{Screens}
use Rattle.svga_pair.specs.Written.{IsWritten, IsWrittenOn}
use Rattle.svga_text.specs.Passing.{Writes}
use Rattle.svga_text.specs.Pictures.{screens_text}
use Rattle.svga_text.specs.RaceTexts.{end_text, meaning_text, told_text}

module _ {K : Type 0} (held : K → Option (List ℕ)) (faults : K → ℕ) where
  -- a line behind a text that arrived
  pub line_behind : (before between now : K) (text line same : List ℕ) (r : Result (Unit {0}) WriteFault)
      → Grows held faults before between text → line ≡ same → OnOk r (Grows held faults between now line)
      → OnErr r (GrowsByPrefix held faults between now line) → Writes held faults before now (text ++ same) r
  line_behind before between now text line same (Ok done) old is ok err =
      Grows-then old (subst (Grows held faults between now) is ok)
  line_behind before between now text line same (Err fault) old is ok err =
      GrowsByPrefix-then old (subst (GrowsByPrefix held faults between now) is err)

  -- a text behind another
  written_behind : (before between now : K) (text more : List ℕ) (failed fails : Bool)
      → IsWritten held faults before between text failed
      → IsWrittenOn held faults failed between now more fails
      → IsWritten held faults before now (text ++ more) fails
  written_behind before between now text more false false old new = Grows-then old new
  written_behind before between now text more false true old new = GrowsByPrefix-then old new
  written_behind before between now text more true fails old new =
      subst (λ b. IsWritten held faults before now (text ++ more) b) (sym new.1)
      (GrowsByPrefix-first more (subst (λ k. IsWritten held faults before k text true) (sym new.0) old))

  -- all of the text: what was told, the screens and the last line
  pub text_whole : (before between now : K) (m : Meaning) (screens : Screens) (failed fails : Bool)
      → IsWritten held faults before between (flat_map told_text m.told) failed
      → screens ≡ m.client.state.kept.screens
      → IsWrittenOn held faults failed between now (screens_text screens ++ end_text m.refused) fails
      → IsWritten held faults before now (meaning_text m) fails
  text_whole before between now m screens failed fails told is rest =
      let text = flat_map told_text m.told in
      let shown = screens_text m.client.state.kept.screens in
      subst (λ t. IsWritten held faults before now t fails) (sym (append_assoc text shown (end_text m.refused)))
      (written_behind before between now text (shown ++ end_text m.refused) failed fails told
      (subst (λ s. IsWrittenOn held faults failed between now (screens_text s ++ end_text m.refused) fails) is rest))
