-- The worked pixel whose bytes lie across a region's two places.
use Rattle.std.proofs.Common.{◌≡◌, ℕ, ◌+◌, ◌*◌, ◌<◌, ◌≤◌, ◌∙◌, Bool, false, List, [], ◌∷◌, length, Option, Some, None}
use Rattle.std.proofs.Common.{pos, slice_index, arith, refl, ap}
use Rattle.std.specs.Prelude.{if◌then◌else◌, ◌&&◌, ◌||◌, is_none, is_some, nat_lt, nat_le, unwrap_or}
use Rattle.std.specs.Cmp.{nat_cmp_total}
use Rattle.std.specs.FinMap as map
use Rattle.std.specs.FinMap.{nat_cmp-IsAntisymmetric}
use Rattle.std.proofs.lemmas.Bool.Decides.{nat_tests}
use Rattle.svga_cmd.proofs.Maps.{get_same}
use Rattle.svga_cmd.specs.Pages.{page_at}
use Rattle.svga_cmd.specs.declared.command.Command.TheVariants.{BlitToScreen}
use Rattle.svga_cmd.specs.declared.constants.TheConstants.{MAX_PLACES}
use Rattle.svga_cmd.specs.declared.fault.Fault.{Fault}
use Rattle.svga_cmd.specs.declared.fault.Fault.TheVariants as fault
use Rattle.svga_cmd.specs.declared.page.PageKey.TheVariants.{Guest}
use Rattle.svga_cmd.specs.declared.screen.ScreenDef.{ScreenDef}
use Rattle.svga_model.proofs.WorkedBlits.{shown_row}
use Rattle.svga_model.proofs.WorkedRegions.{define_admissible}
use Rattle.svga_model.proofs.WorkedRules.{blit_rules, done_more, may_blit}
use Rattle.svga_model.specs.Acts.{Act, Do}
use Rattle.svga_model.specs.BlitEffects.{blit_colour}
use Rattle.svga_model.specs.BlitExamples.{screen_def}
use Rattle.svga_model.specs.BlitFaults.{some_byte}
use Rattle.svga_model.specs.Faults.{IsAdmissible, fault_of}
use Rattle.svga_model.specs.Memories.{region_byte}
use Rattle.svga_model.specs.Regions.{Places, guest_places, place_count, remapped}
use Rattle.svga_model.specs.Runs.{done}
use Rattle.svga_model.specs.Screens.{row_of}
use Rattle.svga_model.specs.Standing.{least_standing}
use Rattle.svga_model.specs.States.{State}
use Rattle.svga_model.specs.Worked.{IsSetUp, IsSplit, after, after_remap}
use Rattle.svga_model.specs.Worked.{define_two, one_pixel, pixel_blit, remap_both, split_gmrfb}

-- both places are page 4
abbrev pub page_twice : Places
page_twice = Some (Guest 4) ∷ Some (Guest 4) ∷ []

-- the region as it is defined
defined : (s : State) → map.get (after s define_two).kept.regions 1 ≡ Some (None ∷ None ∷ [])
defined s = get_same nat_cmp_total nat_cmp-IsAntisymmetric s.kept.regions 1 (None ∷ None ∷ [])

-- and as it is remapped
abbrev pub twice_remapped : Option Places → Places
twice_remapped o = remapped (unwrap_or o []) 0 (guest_places (4 ∷ 4 ∷ []))

pub twice : (s : State) → map.get (after_remap s).kept.regions 1 ≡ Some page_twice
twice s = get_same nat_cmp_total nat_cmp-IsAntisymmetric (after s define_two).kept.regions 1
    (twice_remapped (map.get (after s define_two).kept.regions 1))
    ∙ ap (λ o. Some (twice_remapped o)) (defined s)

-- the screen of one pixel
abbrev pub pixel_screen : ScreenDef
pixel_screen = screen_def 0 1 1 (pos 0) (pos 0)

set_up : (s : State) → IsSplit s → IsSetUp (after_remap s) split_gmrfb page_twice one_pixel
set_up s is = record { gmrfb = is.gmrfb; region = twice s; screens = is.screens }

-- the pixel's colour, by the page
abbrev pub split_colour : Option (List ℕ) → ℕ
split_colour o = 65536 * slice_index bytes 1 + 256 * slice_index bytes 0 + slice_index bytes 4095 where
  bytes : List ℕ
  bytes = unwrap_or o []

split_given : (s : State) → blit_colour (region_byte s.memory page_twice) split_gmrfb pixel_blit 0 pixel_screen 0 0
    ≡ Some (split_colour (page_at s.memory (Guest 4)))
unfolding region_byte
split_given s = refl

pub split_shown : (s : State) (bytes : List ℕ) → IsSplit s → page_at s.memory (Guest 4) ≡ Some bytes
    → row_of (after (after_remap s) (BlitToScreen pixel_blit)).kept.screens 0 0
    ≡ Some ((65536 * slice_index bytes 1 + 256 * slice_index bytes 0 + slice_index bytes 4095) ∷ [])
split_shown s bytes is page =
    shown_row (after_remap s) split_gmrfb page_twice one_pixel (set_up s is) pixel_blit
    0 pixel_screen (omega arith) refl 0 (omega arith)
    ∙ ap (λ o. Some (unwrap_or o 0 ∷ [])) (split_given s)
    ∙ ap (λ o. Some (split_colour o ∷ [])) page

-- page 4 is a guest page
good_page : (guest : ℕ) → 4 < guest → (nat_le guest 4 || false) ≡ false
good_page guest small = grind (arith, nat_tests)

-- the rules on the remap, by the region's places
abbrev pub twice_rules : ℕ → Option Places → List (Bool × Fault)
twice_rules guest o =
    (is_none o, fault.NoRegion)
    ∷ (false, fault.RegionId)
    ∷ (is_some o && nat_lt (length (unwrap_or o [])) 2, fault.RangeBeyond)
    ∷ (nat_le guest 4 || false, fault.BadPage) ∷ []

remap_admissible : (s : State) → 4 < s.kept.limits.pages → IsAdmissible (after s define_two) (Do remap_both)
unfolding fault_of
remap_admissible s small = ap (λ o. least_standing (twice_rules s.kept.limits.pages o)) (defined s)
    ∙ ap (λ t. if t then Some fault.BadPage else None) (good_page s.kept.limits.pages small)

blit_allowed : least_standing (blit_rules one_pixel (Some split_gmrfb) (Some page_twice) pixel_blit) ≡ None
unfolding some_byte
blit_allowed = refl

-- the acts, from the last to all
abbrev pub split_act : List Act
split_act = Do (BlitToScreen pixel_blit) ∷ []

abbrev pub split_acts : List Act
split_acts = Do remap_both ∷ split_act

pub split_done : (s : State) → IsSplit s → place_count s.kept.regions + 2 ≤ MAX_PLACES → 4 < s.kept.limits.pages
    → done s (Do define_two ∷ split_acts) ≡ 3
split_done s is few small = done_more s (Do define_two) split_acts 2 (define_admissible s 1 2 (omega arith) few)
    (done_more (after s define_two) (Do remap_both) split_act 1 (remap_admissible s small)
    (done_more (after_remap s) (Do (BlitToScreen pixel_blit)) [] 0 blit refl))
  where
    blit : IsAdmissible (after_remap s) (Do (BlitToScreen pixel_blit))
    blit = (may_blit (after_remap s) split_gmrfb page_twice one_pixel pixel_blit (set_up s is) blit_allowed).to_screen
