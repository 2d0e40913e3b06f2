-- Text that goes to a sink in pieces: what is on its way, and what has arrived.
use Rattle.std.specs.Prelude.{◌≡◌, ℕ, List, ◌++◌, Option, Result, MatchResult}
use Rattle.svga_io.specs.Growing.{Grows, GrowsByPrefix}
use Rattle.svga_io.specs.declared.fault.WriteFault.{WriteFault}

-- Of what was pending and these bytes a front arrived, and the rest is pending.
pub record Passes {K : Type 0} (held : K → Option (List ℕ)) (faults : K → ℕ) (before now : K)
    (pending left bytes : List ℕ) : Type 0 where
  pub sent : List ℕ
  pub arrived : Grows held faults before now sent
  pub rest : pending ++ bytes ≡ sent ++ left

-- the bytes were taken on, or only a prefix of what was pending and of these arrived
abbrev pub PassesOn : {K : Type 0} → (K → Option (List ℕ)) → (K → ℕ) → K → K → List ℕ → List ℕ → List ℕ
    → Result (Unit {0}) WriteFault → Type 0
PassesOn held faults before now pending left bytes result = MatchResult result
    (λ _. Passes held faults before now pending left bytes)
    (λ _. GrowsByPrefix held faults before now (pending ++ bytes))

-- the text arrived, or only a prefix of it
abbrev pub Writes : {K : Type 0} → (K → Option (List ℕ)) → (K → ℕ) → K → K → List ℕ
    → Result (Unit {0}) WriteFault → Type 0
Writes held faults before now text result = MatchResult result
    (λ _. Grows held faults before now text)
    (λ _. GrowsByPrefix held faults before now text)
