-- What the reading of a capture answers.
use Rattle.std.specs.Prelude.{◌≡◌, ℕ, Result, Ok, Err}
use Rattle.svga_cmd.specs.declared.capture_cause.CaptureCause.{CaptureCause}
use Rattle.svga_model.specs.Captures.{Capture}
use Rattle.svga_capture.specs.declared.fault.CaptureFault.{CaptureFault}
use Rattle.svga_capture.specs.declared.fault.CaptureFault.TheVariants.{Byte, Memory}

-- The answer to bytes that are this: what they hold, or where they are wrong and why. Memory is never wanted.
abbrev pub IsAnswer : Result Capture (ℕ × CaptureCause) → Result Capture CaptureFault → Type 0
IsAnswer expected (Ok c) = expected ≡ Ok c
IsAnswer expected (Err (Byte place cause)) = expected ≡ Err (place, cause)
IsAnswer expected (Err Memory) = ⊥
