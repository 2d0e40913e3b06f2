-- How far a text was written to a sink that may fail on the way, behind which no more is written.
use Rattle.std.specs.Prelude.{◌≡◌, ℕ, List, Bool, true, false, Option}
use Rattle.svga_io.specs.Growing.{Grows, GrowsByPrefix}

-- all of it, or where the sink failed a prefix
abbrev pub IsWritten : {K : Type 0} → (K → Option (List ℕ)) → (K → ℕ) → K → K → List ℕ → Bool → Type 0
IsWritten held faults before now text false = Grows held faults before now text
IsWritten held faults before now text true = GrowsByPrefix held faults before now text

-- one text more, of which nothing is written where the sink failed before
abbrev pub IsWrittenOn : {K : Type 0} → (K → Option (List ℕ)) → (K → ℕ) → Bool → K → K → List ℕ → Bool
    → Type 0
IsWrittenOn held faults false before now text failed = IsWritten held faults before now text failed
IsWrittenOn held faults true before now text failed = (now ≡ before) × (failed ≡ true)
