-- The page numbers that a remap names.
use Rattle.std.specs.Prelude.{ℕ, List, [], ◌∷◌, Bool, nat_le}
use Rattle.std.specs.List.{list_any}
use Rattle.svga_cmd.specs.declared.fault.Fault.{Fault}
use Rattle.svga_cmd.specs.declared.fault.Fault.TheVariants as fault

-- when they are refused by themselves, whatever they are for
abbrev pub number_tests : ℕ → List ℕ → List (Bool × Fault)
number_tests guest numbers = (list_any (λ n. nat_le guest n) numbers, fault.BadPage) ∷ []
