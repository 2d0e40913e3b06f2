-- Which faults stand, and which of them is the answer.
use Rattle.std.specs.Prelude.{◌≡◌, ℕ, ◌<◌, ◌≤◌, ⊤, List, [], ◌∷◌, Bool, true, nat_le, if◌then◌else◌, Option, Some, None}
use Rattle.svga_cmd.specs.Fault.{number_of}
use Rattle.svga_cmd.specs.declared.fault.Fault.{Fault}
use Rattle.svga_model.specs.Members.{IsIn}

-- the fault is among those whose tests are true
abbrev pub Stands : List (Bool × Fault) → Fault → Type 0
Stands rules f = IsIn (true, f) rules

-- of a fault and perhaps another one that with the lesser number
abbrev pub lesser_of : Fault → Option Fault → Fault
lesser_of f None = f
lesser_of f (Some g) = if nat_le (number_of f) (number_of g) then f else g

-- the fault with the least number among those whose tests are true
abbrev pub least_standing : List (Bool × Fault) → Option Fault
least_standing [] = None
least_standing (rule ∷ rules) =
    if rule.0 then Some (lesser_of rule.1 (least_standing rules)) else least_standing rules

-- the first fault whose test is true: the least one where the faults' numbers go up
abbrev pub first_standing : List (Bool × Fault) → Option Fault
first_standing [] = None
first_standing (rule ∷ rules) = if rule.0 then Some rule.1 else first_standing rules

-- the numbers of the tests' faults go up, from above this one on
abbrev pub AreOrdered : ℕ → List (Bool × Fault) → Type 0
AreOrdered low [] = ⊤
AreOrdered low (rule ∷ rules) = (low < number_of rule.1) × AreOrdered (number_of rule.1) rules

-- no fault whose test is true has a number below this one
abbrev pub AreAtLeast : ℕ → List (Bool × Fault) → Type 0
AreAtLeast low [] = ⊤
AreAtLeast low (rule ∷ rules) = (rule.0 ≡ true → low ≤ number_of rule.1) × AreAtLeast low rules
