-- A remap by VIA_GMR means the remap by the numbers that stand there, named.
use Rattle.std.proofs.Common.{◌≡◌, ℕ, ◌*◌, ◌+◌, ◌&&◌, ap, refl, is_none, is_some, nat_le, nat_lt, ◌∙◌, List, [], ◌∷◌, ◌++◌, Bool, true, false, Some, None}
use Rattle.std.specs.List.{list_any}
use Rattle.svga_cmd.specs.Limits.{frame_page_count}
use Rattle.svga_cmd.specs.declared.command.Command.TheVariants.{RemapGmr2}
use Rattle.svga_cmd.specs.declared.constants.TheConstants.{MAX_REGION_ID}
use Rattle.svga_cmd.specs.declared.fault.Fault.{Fault}
use Rattle.svga_cmd.specs.declared.fault.Fault.TheVariants as fault
use Rattle.svga_cmd.specs.declared.gmrfb.GuestPtr.{GuestPtr}
use Rattle.svga_cmd.specs.declared.remap.RemapData.{RemapData}
use Rattle.svga_cmd.specs.declared.remap.RemapData.TheVariants.{Ppn32, Ppn64, SinglePpn32, SinglePpn64, ViaGmr32, ViaGmr64}
use Rattle.svga_model.proofs.ActLaws.{fault_is}
use Rattle.svga_model.proofs.ValidRemaps.{pointed_judged}
use Rattle.svga_model.proofs.ValidRules.{parts_none}
use Rattle.svga_model.specs.Acts.{Do}
use Rattle.svga_model.specs.Faults.{ReadsNumbers, fault_of, shape_tests}
use Rattle.svga_model.specs.Memories.{region_byte}
use Rattle.svga_model.specs.PointedNumbers.{Pointed, numbers_at, numbers_judged, pointed_by, pointer_tests}
use Rattle.svga_model.specs.Regions.{defined_places, joined_list, named_pages, region_length, region_places, remap_tests, with_remap}
use Rattle.svga_model.specs.Standing.{first_standing, least_standing, lesser_of}
use Rattle.svga_model.specs.States.{Shape, State, shape_of, with_regions}
use Rattle.svga_model.specs.Steps.{step}
use Rattle.svga_region.specs.Numbers.{number_tests}
use Rattle.svga_machine.specs.Remaps.{IsRangeAdmitted}
use Rattle.svga_machine.proofs.ViaNumbers.{joined_numbers, single_numbers, words_from}

-- the bytes of the region that the pointer points into
abbrev pub bytes_of : State → GuestPtr → ℕ → ℕ
bytes_of s at = region_byte s.memory (region_places (frame_page_count s.kept.limits) s.kept.regions at.region)

-- so many words that stand there
abbrev pub words : State → GuestPtr → ℕ → List ℕ
words s at count = words_from (bytes_of s at) at.offset count

-- rules that don't refuse change no answer
none_behind : (xs ys : List (Bool × Fault)) → least_standing ys ≡ None → least_standing (xs ++ ys) ≡ least_standing xs
none_behind [] ys none = none
none_behind ((true, f) ∷ xs) ys none = ap (λ rest. Some (lesser_of f rest)) (none_behind xs ys none)
none_behind ((false, f) ∷ xs) ys none = none_behind xs ys none

-- a remap by numbers that stand in a region
module _ (s : State) (region offset pages : ℕ) (at : Pointed) where
  -- the rules on its range and its numbers
  abbrev pub own_tests : List ℕ → List (Bool × Fault)
  own_tests numbers = remap_tests s.kept.limits.pages s.kept.regions region offset pages numbers

  -- the rules on reading them
  abbrev pub reading_tests : List (Bool × Fault)
  reading_tests = pointer_tests (frame_page_count s.kept.limits) s.kept.regions at pages

  -- no rule that is judged without bytes refuses it
  abbrev pub IsAdmitted : Type 0
  IsAdmitted = least_standing (own_tests [] ++ reading_tests) ≡ None

  -- then none on reading does
  pub is_readable : IsAdmitted → least_standing reading_tests ≡ None
  is_readable none = (parts_none (own_tests []) reading_tests none).1

  -- and it is judged by the numbers that stand there alone
  pub judged_named : (numbers : List ℕ) → IsAdmitted
      → numbers_at (frame_page_count s.kept.limits) s.kept.regions s.memory at pages ≡ numbers
      → least_standing (own_tests (numbers_judged (frame_page_count s.kept.limits) s.kept.regions s.memory at pages)
      ++ reading_tests)
      ≡ least_standing (own_tests numbers)
  judged_named numbers none stand =
      let frame = frame_page_count s.kept.limits in
      let free = is_readable none in
      none_behind (own_tests (numbers_judged frame s.kept.regions s.memory at pages)) reading_tests free
      ∙ ap (λ judged. least_standing (own_tests judged))
      (pointed_judged frame s.kept.regions s.memory at pages free ∙ stand)

-- the fault is that of the remap by the numbers, named
pub via32_fault : (s : State) (region offset pages : ℕ) (at : GuestPtr)
    → least_standing (shape_tests (shape_of s.kept) (RemapGmr2 region offset pages (ViaGmr32 at))) ≡ None
    → fault_of s (Do (RemapGmr2 region offset pages (ViaGmr32 at)))
    ≡ least_standing (shape_tests (shape_of s.kept) (RemapGmr2 region offset pages (Ppn32 (words s at pages))))
via32_fault s region offset pages at none = fault_is s (Do (RemapGmr2 region offset pages (ViaGmr32 at)))
    ∙ judged_named s region offset pages (pointed_by 1 at) (words s at pages) none
    (single_numbers (bytes_of s at) at pages)

pub via64_fault : (s : State) (region offset pages : ℕ) (at : GuestPtr)
    → least_standing (shape_tests (shape_of s.kept) (RemapGmr2 region offset pages (ViaGmr64 at))) ≡ None
    → fault_of s (Do (RemapGmr2 region offset pages (ViaGmr64 at)))
    ≡ least_standing (shape_tests (shape_of s.kept) (RemapGmr2 region offset pages (Ppn64 (words s at (2 * pages)))))
via64_fault s region offset pages at none = fault_is s (Do (RemapGmr2 region offset pages (ViaGmr64 at)))
    ∙ judged_named s region offset pages (pointed_by 2 at) (joined_list (words s at (2 * pages)) pages) none
    (joined_numbers (bytes_of s at) at pages)

-- the step is that of the remap by the numbers, named
pub via32_step : (s : State) (region offset pages : ℕ) (at : GuestPtr)
    → step s (Do (RemapGmr2 region offset pages (ViaGmr32 at)))
    ≡ step s (Do (RemapGmr2 region offset pages (Ppn32 (words s at pages))))
via32_step s region offset pages at =
    ap (λ numbers. with_regions s (with_remap s.kept.regions region offset numbers))
    (single_numbers (bytes_of s at) at pages)

pub via64_step : (s : State) (region offset pages : ℕ) (at : GuestPtr)
    → step s (Do (RemapGmr2 region offset pages (ViaGmr64 at)))
    ≡ step s (Do (RemapGmr2 region offset pages (Ppn64 (words s at (2 * pages)))))
via64_step s region offset pages at =
    ap (λ numbers. with_regions s (with_remap s.kept.regions region offset numbers))
    (joined_numbers (bytes_of s at) at pages)

-- where the range of a remap isn't refused, its numbers alone are judged
range_alone : (a b c d : Bool)
    → least_standing ((a, fault.NoRegion) ∷ (b, fault.RegionId) ∷ (c, fault.RangeBeyond) ∷ (false, fault.BadPage) ∷ []) ≡ None
    → least_standing ((a, fault.NoRegion) ∷ (b, fault.RegionId) ∷ (c, fault.RangeBeyond) ∷ (d, fault.BadPage) ∷ [])
    ≡ first_standing ((d, fault.BadPage) ∷ [])
range_alone true b c d none = absurd cc
range_alone false true c d none = absurd cc
range_alone false false true d none = absurd cc
range_alone false false false true none = refl
range_alone false false false false none = refl

pub named_tests : (s : Shape) (region offset pages : ℕ) (entries : RemapData) → IsRangeAdmitted s region offset pages
    → ¬ (ReadsNumbers (RemapGmr2 region offset pages entries))
    → least_standing (shape_tests s (RemapGmr2 region offset pages entries))
    ≡ first_standing (number_tests s.limits.pages (named_pages entries pages))
named_tests s region offset pages entries none named = at entries named where
  of : (numbers : List ℕ) → least_standing (remap_tests s.limits.pages s.regions region offset pages numbers ++ [])
      ≡ first_standing (number_tests s.limits.pages numbers)
  of numbers = range_alone
      (nat_le region MAX_REGION_ID && is_none (defined_places s.regions region)) (nat_lt MAX_REGION_ID region)
      (is_some (defined_places s.regions region) && nat_lt (region_length s.regions region) (offset + pages))
      (list_any (λ n. nat_le s.limits.pages n) numbers) none

  at : (e : RemapData) → ¬ (ReadsNumbers (RemapGmr2 region offset pages e))
      → least_standing (shape_tests s (RemapGmr2 region offset pages e))
      ≡ first_standing (number_tests s.limits.pages (named_pages e pages))
  at (Ppn32 list) named = of list
  at (Ppn64 list) named = of (joined_list list pages)
  at (SinglePpn32 page) named = of (page ∷ [])
  at (SinglePpn64 low high) named = of (named_pages (SinglePpn64 low high) pages)
  at (ViaGmr32 pointer) named = absurd (named refl)
  at (ViaGmr64 pointer) named = absurd (named refl)

-- a remap by numbers that are read has a range that isn't refused
pub via_range : (s : Shape) (region offset pages : ℕ) (at : Pointed)
    → least_standing (remap_tests s.limits.pages s.regions region offset pages []
    ++ pointer_tests (frame_page_count s.limits) s.regions at pages) ≡ None
    → IsRangeAdmitted s region offset pages
via_range s region offset pages at none = (parts_none (remap_tests s.limits.pages s.regions region offset pages [])
    (pointer_tests (frame_page_count s.limits) s.regions at pages) none).0
