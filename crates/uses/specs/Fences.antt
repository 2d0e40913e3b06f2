-- What is told of the fence of a capture.
use Rattle.std.specs.Prelude.{◌≡◌, ℕ, List, Option, Some, None, Ok, IsErr}
use Rattle.svga_model.specs.Captures.{Capture, capture_of}
use Rattle.svga_model.specs.Replays.{IsReplay, Replay}

-- the fence that the replay of these bytes leaves, or none where they are no capture
abbrev pub IsFenceOf : List ℕ → Option ℕ → Type 0
IsFenceOf bytes (Some value) =
    (c : Capture) × (capture_of bytes ≡ Ok c) × (r : Replay) × IsReplay c.opening c.words r
    × (value ≡ r.state.kept.fence)
IsFenceOf bytes None = IsErr (capture_of bytes)
