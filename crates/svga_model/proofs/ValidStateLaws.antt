-- Admissible acts keep what holds of every state.
use Rattle.std.proofs.Common.{◌≡◌, ℕ, ◌≤◌, refl, sym, ◌∙◌, All, Bool, true, false, cond, ◌&&◌, not, nat_lt, ◌==◌, ◌⊎◌, Option, Some, None, is_some, IfSome, unsigned_abs, arith}
use Rattle.std.proofs.lemmas.Bool.Decides.{nat_tests}
use Rattle.svga_cmd.specs.Limits.{AreLimits}
use Rattle.svga_cmd.specs.Pages.{HasPage, Memory, page_at}
use Rattle.svga_cmd.specs.WellFormed.{IsWellFormed}
use Rattle.svga_cmd.specs.declared.blit.Blit.{Blit}
use Rattle.svga_cmd.specs.declared.command.Command.{Command}
use Rattle.svga_cmd.specs.declared.command.Command.TheVariants.{Update, Fence, DefineScreen, DestroyScreen, DefineGmrfb, BlitToScreen, BlitToGmrfb, DefineGmr2, RemapGmr2}
use Rattle.svga_cmd.specs.declared.constants.TheConstants.{MAX_REGION_ID, SVGA_GMR_FRAMEBUFFER, SVGA_GMR_NULL}
use Rattle.svga_cmd.specs.declared.gmrfb.Gmrfb.{Gmrfb}
use Rattle.svga_cmd.specs.declared.limits.Limits.{Limits}
use Rattle.svga_cmd.specs.declared.page.PageKey.{PageKey}
use Rattle.svga_model.proofs.ValidChains.{chain_good}
use Rattle.svga_model.proofs.ValidColours.{IsByte, blit_colour-good, bytes_of-good, update_colour-good}
use Rattle.svga_model.proofs.ValidMemory.{opening_pages, pages_put, pages_written, region_byte-good, same_keys, same_keys_written, writes_good}
use Rattle.svga_model.proofs.ValidRegions.{no_regions, regions_defined}
use Rattle.svga_model.proofs.ValidRemaps.{remap_good}
use Rattle.svga_model.proofs.ValidRules.{all_false, all_flat}
use Rattle.svga_model.proofs.ValidScreens.{first_colour-good, no_screens, screen_defined, screen_destroyed, screens_repainted}
use Rattle.svga_model.specs.Acts.{Act, Do, Put, Chain, IsAct}
use Rattle.svga_model.specs.BlitEffects.{blit_colour, blit_writes, first_colour, repainted_screens, update_colour}
use Rattle.svga_model.specs.BlitPixels.{BlitPixel, blit_pixels, covers}
use Rattle.svga_model.specs.Colours.{bytes_of}
use Rattle.svga_model.specs.Faults.{IsAdmissible, act_tests, fault_of, gmrfb_tests}
use Rattle.svga_model.specs.Memories.{ByteWrite, region_byte, writes_from, written}
use Rattle.svga_model.specs.Regions.{Regions, frame_places}
use Rattle.svga_model.specs.Screens.{AreScreens, Screens, definitions_of}
use Rattle.svga_model.specs.Standing.{least_standing}
use Rattle.svga_model.specs.States.{State, frame_pages, opening_state, with_regions, with_screens}
use Rattle.svga_model.specs.Steps.{command_step, new_gmrfb, places_for, read_back, shown, step}
use Rattle.svga_model.specs.ValidStates.{AreRegions, ArePages, IsGmrfb, IsState}
use Rattle.svga_model.specs.Walks.{tables_of}

-- the opening state
pub opening_good : (l : Limits) (first : ℕ) → AreLimits l → IsState (opening_state l first)
opening_good l first limits = record {
  kept = record { limits = limits; regions = no_regions l; gmrfb = tt; screens = no_screens l.budget };
  memory = opening_pages l;
}

-- a state with other screens
screens_good : (s : State) (screens : Screens) → IsState s → AreScreens s.kept.limits.budget screens
    → IsState (with_screens s screens)
screens_good s screens is are = record {
  kept = record { limits = is.kept.limits; regions = is.kept.regions; gmrfb = is.kept.gmrfb; screens = are };
  memory = is.memory;
}

-- with other regions
regions_good : (s : State) (regions : Regions) → IsState s → AreRegions s.kept.limits regions
    → IsState (with_regions s regions)
regions_good s regions is are = record {
  kept = record { limits = is.kept.limits; regions = are; gmrfb = is.kept.gmrfb; screens = is.kept.screens };
  memory = is.memory;
}

-- with other pages
memory_good : (s : State) (m : Memory) → IsState s → ArePages s.kept.limits m → IsState (record s { memory = m })
memory_good s m is are = record { kept = is.kept; memory = are }

-- with another fence
fence_good : (s : State) (value : ℕ) → IsState s → IsState (record s { kept = record s.kept { fence = value } })
fence_good s value is = record {
  kept = record {
    limits = is.kept.limits;
    regions = is.kept.regions;
    gmrfb = is.kept.gmrfb;
    screens = is.kept.screens;
  };
  memory = is.memory;
}

-- with another GMRFB, or none
gmrfb_good : (s : State) (g : Option Gmrfb) → IsState s → IfSome g IsGmrfb
    → IsState (record s { kept = record s.kept { gmrfb = g } })
gmrfb_good s g is good = record {
  kept = record { limits = is.kept.limits; regions = is.kept.regions; gmrfb = good; screens = is.kept.screens };
  memory = is.memory;
}

-- a region that no rule refuses for a GMRFB is one that it may have
region_good : (region : ℕ) → (nat_lt MAX_REGION_ID region && not (region == SVGA_GMR_FRAMEBUFFER) && not (region == SVGA_GMR_NULL)) ≡ false
    → (region == SVGA_GMR_NULL) ≡ false → (region ≤ MAX_REGION_ID) ⊎ (region ≡ SVGA_GMR_FRAMEBUFFER)
region_good region free there = grind (arith, nat_tests)

-- DEFINE_GMRFB
new_gmrfb-good : (g : Gmrfb) → least_standing (gmrfb_tests g.region) ≡ None → IfSome (new_gmrfb g) IsGmrfb
new_gmrfb-good g none = at (g.region == SVGA_GMR_NULL) refl where
  at : (t : Bool) → (g.region == SVGA_GMR_NULL) ≡ t → IfSome (cond t None (Some g)) IsGmrfb
  at true e = tt
  at false e = region_good g.region (all_false (gmrfb_tests g.region) none).0 e

-- BLIT_GMRFB_TO_SCREEN
shown_good : (s : State) (g : Option Gmrfb) (b : Blit) → IsState s → IsState (shown s g b)
shown_good s None b is = is
shown_good s (Some g) b is =
    let bytes = region_byte s.memory (places_for s g) in
    let good = region_byte-good s.kept.limits s.memory (places_for s g) is.memory in
    screens_good s (repainted_screens (blit_colour bytes g b) s.kept.screens) is
    (screens_repainted (blit_colour bytes g b) s.kept.limits.budget s.kept.screens is.kept.screens
    (λ id d x y. blit_colour-good bytes g b id d x y good))

-- the bytes that a blit back writes
writes_bytes : (budget : ℕ) (screens : Screens) (g : Gmrfb) (b : Blit) → AreScreens budget screens
    → All (λ w. IsByte w.byte) (blit_writes screens g b)
unfolding blit_writes
writes_bytes budget screens g b are =
    all_flat (λ (w : ByteWrite). IsByte w.byte)
    (λ p. writes_from (unsigned_abs p.offset) (bytes_of g.format (colour p))) (blit_pixels (definitions_of screens) g b)
    (λ p. writes_good (unsigned_abs p.offset) (bytes_of g.format (colour p)) (bytes_of-good g.format (colour p)
    (first_colour-good budget screens (covers (definitions_of screens) b.screen p.x p.y) are)))
  where
    colour : BlitPixel → ℕ
    colour p = first_colour screens (covers (definitions_of screens) b.screen p.x p.y)

-- BLIT_SCREEN_TO_GMRFB
read_back-good : (s : State) (g : Option Gmrfb) (b : Blit) → IsState s → IsState (read_back s g b)
read_back-good s None b is = is
read_back-good s (Some g) b is = memory_good s (written (places_for s g) s.memory (blit_writes s.kept.screens g b)) is
    (pages_written s.kept.limits (places_for s g) s.memory (blit_writes s.kept.screens g b) is.memory
    (writes_bytes s.kept.limits.budget s.kept.screens g b is.kept.screens))

-- UPDATE
updated_good : (s : State) (x y width height : ℕ) → IsState s → IsState (command_step s (Update x y width height))
updated_good s x y width height is =
    let bytes = region_byte s.memory (frame_places (frame_pages s.kept)) in
    let good = region_byte-good s.kept.limits s.memory (frame_places (frame_pages s.kept)) is.memory in
    let colour = λ (id : ℕ). update_colour bytes s.kept.limits x y width height in
    screens_good s (repainted_screens colour s.kept.screens) is
    (screens_repainted colour s.kept.limits.budget s.kept.screens is.kept.screens
    (λ id d px py. update_colour-good bytes s.kept.limits x y width height d px py good))

-- each command
command_good : (s : State) (c : Command) → IsState s → IsWellFormed c → least_standing (act_tests s (Do c)) ≡ None
    → IsState (command_step s c)
command_good s (Update x y width height) is well none = updated_good s x y width height is
command_good s (Fence value) is well none = fence_good s value is
command_good s (DefineScreen d) is well none = screens_good s _ is
    (screen_defined s.kept.limits.budget s.kept.screens is.kept.screens d none)
command_good s (DestroyScreen id) is well none = screens_good s _ is
    (screen_destroyed s.kept.limits.budget s.kept.screens is.kept.screens id none)
command_good s (DefineGmrfb g) is well none = gmrfb_good s (new_gmrfb g) is (new_gmrfb-good g none)
command_good s (BlitToScreen b) is well none = shown_good s s.kept.gmrfb b is
command_good s (BlitToGmrfb b) is well none = read_back-good s s.kept.gmrfb b is
command_good s (DefineGmr2 region pages) is well none = regions_good s _ is
    (regions_defined s.kept.limits s.kept.regions region pages is.kept.regions none)
command_good s (RemapGmr2 region offset pages entries) is well none = regions_good s _ is
    (remap_good s region offset pages entries is.kept.regions well.1 none)

-- no rule refuses an admissible act
none_stands : (s : State) (act : Act) → IsAdmissible s act → least_standing (act_tests s act) ≡ None
unfolding fault_of
none_stands s act h = h

-- each act
pub step_good : (s : State) (act : Act) → IsState s → IsAct s.kept.limits act → IsAdmissible s act
    → IsState (step s act)
step_good s (Do c) is well h = command_good s c is well (none_stands s (Do c) h)
step_good s (Put key bytes) is well h = memory_good s _ is
    (pages_put s.kept.limits s.memory key bytes is.memory (λ there. well.1))
step_good s (Chain id first) is well h = regions_good s _ is
    (chain_good s.kept.limits s.kept.regions (tables_of s.memory) id first is.kept.regions
    (none_stands s (Chain id first) h))

-- a blit back leaves the pages that are there
read_back-keys : (s : State) (g : Option Gmrfb) (b : Blit) (key : PageKey)
    → is_some (page_at (read_back s g b).memory key) ≡ is_some (page_at s.memory key)
read_back-keys s None b key = refl
read_back-keys s (Some g) b key = same_keys_written (places_for s g) s.memory (blit_writes s.kept.screens g b) key

-- a blit to the screen does too
shown_keys : (s : State) (g : Option Gmrfb) (b : Blit) (key : PageKey)
    → is_some (page_at (shown s g b).memory key) ≡ is_some (page_at s.memory key)
shown_keys s None b key = refl
shown_keys s (Some g) b key = refl

-- each act leaves them
keys_stay : (s : State) (act : Act) (key : PageKey)
    → is_some (page_at (step s act).memory key) ≡ is_some (page_at s.memory key)
keys_stay s (Do (Update x y width height)) key = refl
keys_stay s (Do (Fence value)) key = refl
keys_stay s (Do (DefineScreen d)) key = refl
keys_stay s (Do (DestroyScreen id)) key = refl
keys_stay s (Do (DefineGmrfb g)) key = refl
keys_stay s (Do (BlitToScreen b)) key = shown_keys s s.kept.gmrfb b key
keys_stay s (Do (BlitToGmrfb b)) key = read_back-keys s s.kept.gmrfb b key
keys_stay s (Do (DefineGmr2 region pages)) key = refl
keys_stay s (Do (RemapGmr2 region offset pages entries)) key = refl
keys_stay s (Put other bytes) key = same_keys s.memory other bytes key
keys_stay s (Chain id first) key = refl

-- the pages after an act are those before it
pub step_keys : (s : State) (act : Act) (key : PageKey)
    → (HasPage s.memory key → HasPage (step s act).memory key)
    × (HasPage (step s act).memory key → HasPage s.memory key)
step_keys s act key = ((λ has. keys_stay s act key ∙ has), (λ has. sym (keys_stay s act key) ∙ has))

-- blits leave the limits
shown_limits : (s : State) (g : Option Gmrfb) (b : Blit) → (shown s g b).kept.limits ≡ s.kept.limits
shown_limits s None b = refl
shown_limits s (Some g) b = refl

read_back-limits : (s : State) (g : Option Gmrfb) (b : Blit) → (read_back s g b).kept.limits ≡ s.kept.limits
read_back-limits s None b = refl
read_back-limits s (Some g) b = refl

-- the limits never change
pub step_limits : (s : State) (act : Act) → (step s act).kept.limits ≡ s.kept.limits
step_limits s (Do (Update x y width height)) = refl
step_limits s (Do (Fence value)) = refl
step_limits s (Do (DefineScreen d)) = refl
step_limits s (Do (DestroyScreen id)) = refl
step_limits s (Do (DefineGmrfb g)) = refl
step_limits s (Do (BlitToScreen b)) = shown_limits s s.kept.gmrfb b
step_limits s (Do (BlitToGmrfb b)) = read_back-limits s s.kept.gmrfb b
step_limits s (Do (DefineGmr2 region pages)) = refl
step_limits s (Do (RemapGmr2 region offset pages entries)) = refl
step_limits s (Put other bytes) = refl
step_limits s (Chain id first) = refl
