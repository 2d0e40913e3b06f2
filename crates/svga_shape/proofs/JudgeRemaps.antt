-- The rules on a remap and those on reading its numbers stand in the order of their faults.
use Rattle.std.proofs.Common.{◌≡◌, ℕ, List, arith}
use Rattle.svga_model.proofs.StandingLaws.{first_is_least}
use Rattle.svga_model.specs.PointedNumbers.{Pointed, pointer_tests}
use Rattle.svga_model.specs.Regions.{Regions, remap_tests}
use Rattle.svga_model.specs.Standing.{first_standing, least_standing}

-- what a remap is refused with for its range and its numbers
pub range_least : (guest : ℕ) (regions : Regions) (id offset pages : ℕ) (numbers : List ℕ)
    → first_standing (remap_tests guest regions id offset pages numbers)
    ≡ least_standing (remap_tests guest regions id offset pages numbers)
range_least guest regions id offset pages numbers = first_is_least 0 (remap_tests guest regions id offset pages numbers)
    (omega arith, (omega arith, (omega arith, (omega arith, tt))))

-- what reading numbers is refused with
pub pointer_least : (frame : ℕ) (regions : Regions) (at : Pointed) (pages : ℕ)
    → first_standing (pointer_tests frame regions at pages) ≡ least_standing (pointer_tests frame regions at pages)
pointer_least frame regions at pages = first_is_least 0 (pointer_tests frame regions at pages)
    (omega arith, (omega arith, (omega arith, (omega arith, tt))))
