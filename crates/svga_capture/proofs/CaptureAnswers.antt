-- What the reading of a capture answers, by what is wrong with its bytes.
use Rattle.std.proofs.Common.{◌≡◌, ℕ, ◌∙◌, sym, ap, List, Option, Some, None}
use Rattle.std.specs.Prelude.{Ok, Err}
use Rattle.svga_cmd.specs.declared.capture_cause.CaptureCause.{CaptureCause}
use Rattle.svga_model.specs.Captures.{Capture, capture_of, captured, flaw_in, held}

pub good_answer : (bytes : List ℕ) → flaw_in bytes ≡ None → capture_of bytes ≡ Ok (held bytes)
unfolding capture_of
good_answer bytes good = ap (λ (o : Option (ℕ × CaptureCause)). captured o (held bytes)) good

-- what is seen of bytes with no flaw is a capture
pub seen_answer : (view : Capture) (bytes : List ℕ) → held bytes ≡ view → flaw_in bytes ≡ None
    → (bytes : List ℕ) × (capture_of bytes ≡ Ok view)
seen_answer view bytes seen good = (bytes, good_answer bytes good ∙ ap (λ (c : Capture). Ok c) seen)

-- where it is wrong
pub wrong_answer : (bytes : List ℕ) (w : ℕ × CaptureCause) → Some w ≡ flaw_in bytes → capture_of bytes ≡ Err w
unfolding capture_of
wrong_answer bytes w e = ap (λ (o : Option (ℕ × CaptureCause)). captured o (held bytes)) (sym e)
