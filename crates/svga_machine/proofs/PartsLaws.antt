-- The parts of a machine, before and after a change to what it keeps.
use Rattle.std.proofs.Common.{◌≡◌, ℕ, refl, sym, ap, subst, ◌∙◌, Bool, true, false, not, ◌&&◌, ◌==◌, nat_le, nat_lt, [], ◌∷◌, Option, Some, None, is_some, is_none, unwrap_or}
use Rattle.std.specs.FinMap as map
use Rattle.std.specs.FinMap.{get-empty}
use Rattle.std.specs.Ordering.{nat_cmp}
use Rattle.std.specs.Prelude.{Result, Ok, Err, OnErr, OnOk, option_and_then, option_map}
use Rattle.svga_cmd.specs.Limits.{AreLimits, frame_page_count}
use Rattle.svga_cmd.specs.Pages.{Memory}
use Rattle.svga_cmd.specs.declared.blit.Blit.{Blit}
use Rattle.svga_cmd.specs.declared.command.Command.TheVariants.{RemapGmr2}
use Rattle.svga_cmd.specs.declared.constants.TheConstants.{SVGA_ID_INVALID}
use Rattle.svga_cmd.specs.declared.fault.Fault.{Fault}
use Rattle.svga_cmd.specs.declared.fault.Fault.TheVariants as fault
use Rattle.svga_cmd.specs.declared.gmrfb.Gmrfb.{Gmrfb}
use Rattle.svga_cmd.specs.declared.limits.Limits.{Limits}
use Rattle.svga_cmd.specs.declared.remap.RemapData.{RemapData}
use Rattle.svga_cmd.specs.declared.screen.ScreenDef.{ScreenDef}
use Rattle.svga_model.specs.Acts.{Do}
use Rattle.svga_model.specs.BlitEffects.{repainted_screens}
use Rattle.svga_model.specs.BlitFaults.{blit_tests, gmrfb_places, is_negative, is_on_unmapped, is_outside, some_gmrfb_byte}
use Rattle.svga_model.specs.PointedNumbers.{Pointed}
use Rattle.svga_model.specs.Regions.{Places, Regions, places_of, region_places}
use Rattle.svga_model.specs.Screens.{definitions_of}
use Rattle.svga_model.specs.Standing.{least_standing}
use Rattle.svga_model.specs.States.{Kept, State, shape_of}
use Rattle.svga_model.specs.Steps.{step}
use Rattle.svga_region.specs.RegionSet.{RegionSet}
use Rattle.svga_screen.specs.ScreenSet.{ScreenSet}
use Rattle.svga_shape.proofs.ApplyLaws.{with_repainted}
use Rattle.svga_screen.specs.Definitions.{AreScreenDefinitions}
use Rattle.svga_shape.specs.ShapeSet.{AreOfLimits, ShapeSet, opening_shape, shape_in}
use Rattle.svga_machine.specs.MachineSet.{AreParts, MachineSet, kept_of, regions_in, with_regions_of}
use Rattle.svga_transfer.specs.Reach.{AreMapped, HasPages}
use Rattle.svga_machine.specs.Touched.{HasPointed}

-- what is to be kept, where its parts are those of a machine's new parts
pub record AreNew (k : Kept) (set : ShapeSet) (screens : ScreenSet) (fence : ℕ) : Type 0 where
  pub shape : shape_of k ≡ shape_in set
  pub screens_are : k.screens ≡ screens.screens
  pub fence_is : k.fence ≡ fence

-- it is what they keep
pub kept_is : (k : Kept) (set : ShapeSet) (screens : ScreenSet) (fence : ℕ) → AreNew k set screens fence
    → kept_of set screens fence ≡ k
kept_is k set screens fence new = λ i. record {
  limits = ap (λ s. s.limits) (sym new.shape) i;
  regions = ap (λ s. s.regions) (sym new.shape) i;
  gmrfb = ap (λ s. s.gmrfb) (sym new.shape) i;
  screens = sym new.screens_are i;
  fence = sym new.fence_is i;
}

-- and they fit together as the old ones did
pub new_parts : (k old : Kept) (set set0 : ShapeSet) (screens screens0 : ScreenSet) (fence : ℕ)
    → AreParts old set0 screens0 → k.limits ≡ set0.limits → AreOfLimits set → screens.budget ≡ screens0.budget
    → AreNew k set screens fence → AreParts (kept_of set screens fence) set screens
new_parts k old set set0 screens screens0 fence parts same valid budget new =
    let limits = ap (λ s. s.limits) (sym parts.shape) ∙ sym same ∙ ap (λ s. s.limits) new.shape in
    record {
      limits = subst AreLimits limits parts.limits;
      valid = valid;
      shape = sym new.shape ∙ ap shape_of (sym (kept_is k set screens fence new));
      budget = budget ∙ parts.budget ∙ ap (λ l. l.budget) limits;
    }

-- no screen is defined at first, with a picture or without
none_defined : (id : ℕ) → map.get {X = ScreenDef} {R = nat_cmp} map.empty id ≡ definitions_of map.empty id
none_defined id = get-empty nat_cmp id ∙ sym (ap (option_map (λ s. s.def)) (get-empty nat_cmp id))

-- the parts of a machine at its opening
pub opened_parts : (l : Limits) (regions : RegionSet) (set : ShapeSet) (screens : ScreenSet) (fence : ℕ)
    → AreLimits l → regions.guest ≡ l.pages → regions.frame ≡ frame_page_count l
    → set ≡ record (opening_shape l) { regions = regions } → screens ≡ record { budget = l.budget; screens = map.empty }
    → AreParts (kept_of set screens fence) set screens
opened_parts l regions set screens fence limits guest frame shape_is screens_are =
    let P : ShapeSet × ScreenSet → Type 0 = λ p. AreParts (kept_of p.0 p.1 fence) p.0 p.1 in
    subst P (λ i. (sym shape_is i, sym screens_are i)) (record {
      limits = limits;
      valid = record { guest = guest; frame = frame; budget = refl };
      shape = λ i. record { limits = l; regions = regions.regions; gmrfb = None; definitions = λ id. none_defined id i };
      budget = refl;
    })

-- what is kept once screens were repainted
pub repainted_new : (k : Kept) (set : ShapeSet) (screens new : ScreenSet) (colour : ℕ → ScreenDef → ℕ → ℕ → Option ℕ) → AreParts k set screens → AreScreenDefinitions set.screens
    → new ≡ record screens { screens = repainted_screens colour k.screens } → AreNew (record k { screens = repainted_screens colour k.screens }) set new k.fence
repainted_new k set screens new colour parts valid is = record {
  shape = with_repainted k colour set (sym parts.shape) valid;
  screens_are = ap (λ s. s.screens) (sym is);
  fence_is = refl;
}

-- the regions of a shape have as many pages of the framebuffer as what is kept
pub frame_is : (k : Kept) (set : ShapeSet) (screens : ScreenSet) → AreParts k set screens → set.regions.frame ≡ frame_page_count k.limits
frame_is k set screens parts = parts.valid.frame ∙ ap (λ s. frame_page_count s.limits) parts.shape

-- where no rule on a blit stands the first two don't, nor the last
blit_none : (a b c d e f g : Bool)
    → least_standing ((a, fault.NoRegion) ∷ (b, fault.Unmapped) ∷ (c, fault.NoGmrfb) ∷ (d, fault.NoScreen) ∷ (e, fault.ScreenId) ∷ (f, fault.NegativeSide) ∷ (g, fault.BeyondRegion) ∷ []) ≡ None
    → (a ≡ false) × (b ≡ false) × (g ≡ false)
blit_none true b c d e f g none = absurd cc
blit_none false true c d e f g none = absurd cc
blit_none false false true d e f g none = absurd cc
blit_none false false false true e f g none = absurd cc
blit_none false false false false true f g none = absurd cc
blit_none false false false false false true g none = absurd cc
blit_none false false false false false false true none = absurd cc
blit_none false false false false false false false none = (refl, refl, refl)

-- the bytes of a blit that isn't refused are mapped
pub blit_mapped : (k : Kept) (g : Gmrfb) (b : Blit) → k.gmrfb ≡ Some g → least_standing (blit_tests (shape_of k) b) ≡ None
    → AreMapped (definitions_of k.screens) g b (region_places (frame_page_count k.limits) k.regions g.region)
blit_mapped k g b is none = mapped (places_of (frame_page_count k.limits) k.regions g.region) (subst (λ o. Told o (gmrfb_places (frame_page_count k.limits) k.regions o)) is none) where
  Told : Option Gmrfb → Option Places → Type 0
  Told o p = least_standing ((is_some o && is_none p, fault.NoRegion) ∷ (some_gmrfb_byte (definitions_of k.screens) o p b is_on_unmapped, fault.Unmapped) ∷ (is_none o, fault.NoGmrfb)
      ∷ (nat_le b.screen 15 && is_none (definitions_of k.screens b.screen), fault.NoScreen) ∷ (nat_lt 15 b.screen && not (b.screen == SVGA_ID_INVALID), fault.ScreenId) ∷ (is_negative b.rect, fault.NegativeSide)
      ∷ (some_gmrfb_byte (definitions_of k.screens) o p b is_outside, fault.BeyondRegion) ∷ []) ≡ None

  tests : (places : Option Places) → Told (Some g) places
      → (is_none places ≡ false) × (some_gmrfb_byte (definitions_of k.screens) (Some g) places b is_on_unmapped ≡ false) × (some_gmrfb_byte (definitions_of k.screens) (Some g) places b is_outside ≡ false)
  tests places told = blit_none (is_none places) (some_gmrfb_byte (definitions_of k.screens) (Some g) places b is_on_unmapped) false
      (nat_le b.screen 15 && is_none (definitions_of k.screens b.screen)) (nat_lt 15 b.screen && not (b.screen == SVGA_ID_INVALID)) (is_negative b.rect)
      (some_gmrfb_byte (definitions_of k.screens) (Some g) places b is_outside) told

  mapped : (places : Option Places) → Told (Some g) places → AreMapped (definitions_of k.screens) g b (unwrap_or places [])
  mapped None told = absurd (let never = (tests None told).0 in cc never)
  mapped (Some places) told = record { mapped = (tests (Some places) told).1; within = (tests (Some places) told).2 }

-- the regions that the machine has are those of its shape
pub regions_are : (set : ShapeSet) (screens : ScreenSet) (fence : ℕ) → AreParts (kept_of set screens fence) set screens
    → set.regions ≡ regions_in (record { kept = kept_of set screens fence; chain = set.regions.chain })
regions_are set screens fence parts = λ i. record {
  guest = parts.valid.guest i;
  frame = parts.valid.frame i;
  regions = set.regions.regions;
  chain = set.regions.chain;
}

-- a step of a chain, which changes the regions alone
module _ (set new : ShapeSet) (screens : ScreenSet) (fence : ℕ) (parts : AreParts (kept_of set screens fence) set screens)
    (kept : new ≡ record set { regions = new.regions }) (valid : AreOfLimits new) where
  pub chain_parts : AreParts (kept_of new screens fence) new screens
  chain_parts =
      let limits = ap (λ s. s.limits) (sym kept) in
      let same = ap (λ s. s.definitions) parts.shape in
      record {
        limits = subst AreLimits limits parts.limits;
        valid = valid;
        shape = λ i. record {
          limits = new.limits;
          regions = new.regions.regions;
          gmrfb = new.gmrfb;
          definitions = (ap (λ s. map.get s.screens.screens) kept ∙ same) i;
        };
        budget = parts.budget ∙ ap (λ l. l.budget) limits;
      }

  -- so does the machine
  pub chain_kept : (old : MachineSet) → record { kept = kept_of set screens fence; chain = set.regions.chain } ≡ old
      → record { kept = kept_of new screens fence; chain = new.regions.chain }
      ≡ with_regions_of old (record { kept = kept_of new screens fence; chain = new.regions.chain })
  chain_kept old is = (λ i. record { kept = kept_of (kept i) screens fence; chain = new.regions.chain })
      ∙ ap {A = MachineSet} (λ m. with_regions_of m (record { kept = kept_of new screens fence; chain = new.regions.chain })) is

-- as many pages of the guest
pub guest_is : (k : Kept) (set : ShapeSet) (screens : ScreenSet) → AreParts k set screens → set.regions.guest ≡ k.limits.pages
guest_is k set screens parts = parts.valid.guest ∙ ap (λ s. s.limits.pages) parts.shape

-- the parts after a remap, done or refused
pub remap_parts : (s : State) (set new : ShapeSet) (screens : ScreenSet) (fence region offset pages : ℕ) (entries : RemapData) (r : Result (Unit {0}) Fault)
    → s.kept ≡ kept_of set screens fence → AreParts (kept_of set screens fence) set screens → AreOfLimits new
    → OnOk r (shape_of (step s (Do (RemapGmr2 region offset pages entries))).kept ≡ shape_in new) → OnErr r (new ≡ set) → AreParts (kept_of new screens fence) new screens
remap_parts s set new screens fence region offset pages entries (Ok u) is parts valid ok err =
    new_parts (step s (Do (RemapGmr2 region offset pages entries))).kept (kept_of set screens fence) new set screens screens fence parts (ap (λ k. k.limits) is) valid refl (record {
      shape = ok;
      screens_are = ap (λ k. k.screens) is;
      fence_is = ap (λ k. k.fence) is;
    })
remap_parts s set new screens fence region offset pages entries (Err f) is parts valid ok err = subst (λ n. AreParts (kept_of n screens fence) n screens) (sym err) parts

-- the pages of the region that numbers are read from
pub pointed_there : (frame : ℕ) (regions : Regions) (m : Memory) (o : Option Pointed) → HasPages m (unwrap_or (option_and_then (places_of frame regions) (option_map (λ at. at.region) o)) [])
    → HasPointed frame regions m o
pointed_there frame regions m None has = tt
pointed_there frame regions m (Some at) has = has
