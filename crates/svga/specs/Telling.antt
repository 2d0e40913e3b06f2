-- Whether a text was told whole.
use Rattle.std.specs.Prelude.{◌≡◌, ◌⊎◌, ℕ, List, Option}
use Rattle.svga_io.specs.Growing.{Grows, GrowsByPrefix}

-- all of the text was written and the answer is this status, or writing failed and the answer is 5
abbrev pub Tells : {K : Type 0} → (K → Option (List ℕ)) → (K → ℕ) → K → K → List ℕ → ℕ → ℕ → Type 0
Tells held faults before now text status answer =
    ((answer ≡ status) × Grows held faults before now text) ⊎
    ((answer ≡ 5) × GrowsByPrefix held faults before now text)
