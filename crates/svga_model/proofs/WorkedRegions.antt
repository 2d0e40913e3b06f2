-- A region defined with no pages.
use Rattle.std.proofs.Common.{◌≡◌, ℕ, ◌-◌, ◌+◌, ◌≤◌, Bool, false, nat_lt, nat_le, ◌&&◌, refl, sym, ap, arith, [], ◌∷◌, None}
use Rattle.std.proofs.lemmas.Bool.Decides.{nat_tests}
use Rattle.std.specs.Cmp.{nat_cmp_total}
use Rattle.std.specs.FinMap as map
use Rattle.std.specs.FinMap.{nat_cmp-IsAntisymmetric}
use Rattle.svga_cmd.proofs.Maps.{is_remove}
use Rattle.svga_cmd.specs.declared.command.Command.TheVariants.{DefineGmr2}
use Rattle.svga_cmd.specs.declared.constants.TheConstants.{MAX_PLACES, MAX_REGION_ID}
use Rattle.svga_cmd.specs.declared.fault.Fault.{Fault}
use Rattle.svga_cmd.specs.declared.fault.Fault.TheVariants.{RegionId, PlaceLimit}
use Rattle.svga_model.specs.Acts.{Do}
use Rattle.svga_model.specs.Faults.{IsAdmissible, fault_of}
use Rattle.svga_model.specs.Regions.{Regions, places_with, place_count, region_length}
use Rattle.svga_model.specs.Standing.{least_standing}
use Rattle.svga_model.specs.States.{State, with_regions}
use Rattle.svga_model.specs.Worked.{after}

-- of two tests that are false none stands
neither : (t u : Bool) (f g : Fault) → t ≡ false → u ≡ false → least_standing ((t, f) ∷ (u, g) ∷ []) ≡ None
neither t u f g first second = rw (first, second) refl

small_id : (id : ℕ) → id ≤ MAX_REGION_ID → nat_lt MAX_REGION_ID id ≡ false
small_id id small = grind (arith, nat_tests)

room : (id count length pages : ℕ) → count + pages ≤ MAX_PLACES
    → (nat_le id MAX_REGION_ID && nat_lt MAX_PLACES (count - length + pages)) ≡ false
room id count length pages few = grind (arith, nat_tests)

-- a definition for which there is room
pub define_admissible : (s : State) (id pages : ℕ) → id ≤ MAX_REGION_ID → place_count s.kept.regions + pages ≤ MAX_PLACES
    → IsAdmissible s (Do (DefineGmr2 id pages))
unfolding fault_of
define_admissible s id pages small few =
    neither (nat_lt MAX_REGION_ID id) (nat_le id MAX_REGION_ID && nat_lt MAX_PLACES (places_with regions id pages))
    RegionId PlaceLimit (small_id id small) (room id (place_count regions) (region_length regions id) pages few)
  where
    regions : Regions
    regions = s.kept.regions

pub empty_admissible : (s : State) (region : ℕ) → region ≤ MAX_REGION_ID → place_count s.kept.regions ≤ MAX_PLACES
    → IsAdmissible s (Do (DefineGmr2 region 0))
empty_admissible s region small few = define_admissible s region 0 small (omega arith)

-- what isn't there can't be removed
pub empty_same : (s : State) (region : ℕ) → map.get s.kept.regions region ≡ None → after s (DefineGmr2 region 0) ≡ s
empty_same s region none = ap (with_regions s) (sym removed) where
  removed : s.kept.regions ≡ map.remove s.kept.regions region
  removed = is_remove nat_cmp_total nat_cmp-IsAntisymmetric s.kept.regions s.kept.regions region none (λ q away. refl)
