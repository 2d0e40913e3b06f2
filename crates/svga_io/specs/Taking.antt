-- How many bytes were taken from a source.
use Rattle.std.specs.Prelude.{ℕ, ◌-◌, List, length, Option, None, Some}
use Rattle.std.specs.Io.KnownBytes.{Consumes}

-- how many bytes were taken, where the source tells what it has left: by so many that is shorter
abbrev pub taken_count : Option (List ℕ) → Option (List ℕ) → Option ℕ
taken_count (Some before) (Some now) = Some (length before - length now)
taken_count before now = None

-- the bytes that are left are those that were left but for some at the front
abbrev pub LosesFront : Option (List ℕ) → Option (List ℕ) → Type 0
LosesFront before now = (front : List ℕ) × Consumes before now front
