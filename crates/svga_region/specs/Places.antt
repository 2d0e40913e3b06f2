-- A region by the list of its places alone.
use Rattle.std.specs.Prelude.{ℕ, List, [], ◌∷◌, Bool}
use Rattle.svga_cmd.specs.declared.fault.Fault.{Fault}
use Rattle.svga_cmd.specs.declared.fault.Fault.TheVariants as fault
use Rattle.svga_model.specs.RegionBytes.{is_beyond, is_unmapped}
use Rattle.svga_model.specs.Regions.{Places}

-- when byte i of a defined region can't be had
abbrev pub tests_of_byte : Places → ℕ → List (Bool × Fault)
tests_of_byte places i =
    (is_unmapped places i, fault.Unmapped) ∷ (is_beyond places i, fault.BeyondRegion) ∷ []
