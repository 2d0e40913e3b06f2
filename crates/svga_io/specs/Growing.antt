-- What writing does to a sink.
use Rattle.std.specs.Prelude.{ℕ, ◌≤◌, List, length, take, Option}
use Rattle.std.specs.Io.KnownBytes.{Appends}
use Rattle.svga_io.specs.Rising.{Rises}

-- the bytes held grew by a prefix of these, which may be all of them
abbrev pub AppendsPrefix : Option (List ℕ) → Option (List ℕ) → List ℕ → Type 0
AppendsPrefix before now bytes = (n : ℕ) × (n ≤ length bytes) × Appends before now (take n bytes)

-- The sink holds these bytes more, and its count didn't fall.
pub record Grows {K : Type 0} (held : K → Option (List ℕ)) (faults : K → ℕ) (before now : K)
    (bytes : List ℕ) : Type 0 where
  pub appended : Appends (held before) (held now) bytes
  pub steady : faults before ≤ faults now

-- The sink holds a prefix of these bytes more, and its count rose.
pub record GrowsByPrefix {K : Type 0} (held : K → Option (List ℕ)) (faults : K → ℕ) (before now : K)
    (bytes : List ℕ) : Type 0 where
  pub appended : AppendsPrefix (held before) (held now) bytes
  pub cause : Rises (faults before) (faults now)
