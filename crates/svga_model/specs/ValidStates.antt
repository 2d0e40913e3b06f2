-- What holds of every state of a device, and of one whose memory is cut down. Numbers aren't bounded by their
-- words here: a value of the code's types has them bounded, and no effect makes them greater.
use Rattle.std.specs.Prelude.{◌≡◌, ◌⊎◌, ℕ, ◌<◌, ◌≤◌, All, None, IfSome}
use Rattle.std.specs.FinMap as map
use Rattle.svga_cmd.specs.Limits.{AreLimits}
use Rattle.svga_cmd.specs.Pages.{HasPage, IsKey, IsPage, Memory, page_at}
use Rattle.svga_cmd.specs.declared.constants.TheConstants.{MAX_PLACES, MAX_REGION_ID, SVGA_GMR_FRAMEBUFFER}
use Rattle.svga_cmd.specs.declared.gmrfb.Gmrfb.{Gmrfb}
use Rattle.svga_cmd.specs.declared.limits.Limits.{Limits}
use Rattle.svga_cmd.specs.declared.page.PageKey.{PageKey}
use Rattle.svga_model.specs.Regions.{Places, Regions, place_count}
use Rattle.svga_model.specs.Screens.{AreScreens}
use Rattle.svga_model.specs.States.{Kept, State}

-- each place is unmapped or a page of the device
abbrev pub ArePlaces : Limits → Places → Type 0
ArePlaces l places = All (λ place. IfSome place (IsKey l)) places

-- The regions that commands and chains define have ids up to 4,095, so that the
-- framebuffer's id is always that of its own pages.
pub record AreRegions (l : Limits) (regions : Regions) : Type 0 where
  pub ids : (id : ℕ) → MAX_REGION_ID < id → map.get regions id ≡ None
  pub each : (id : ℕ) → IfSome (map.get regions id) (ArePlaces l)
  pub within : place_count regions ≤ MAX_PLACES

-- a GMRFB lies in the framebuffer's region or in one that commands may define
abbrev pub IsGmrfb : Gmrfb → Type 0
IsGmrfb g = (g.region ≤ MAX_REGION_ID) ⊎ (g.region ≡ SVGA_GMR_FRAMEBUFFER)

pub record IsKept (k : Kept) : Type 0 where
  pub limits : AreLimits k.limits
  pub regions : AreRegions k.limits k.regions
  pub gmrfb : IfSome k.gmrfb IsGmrfb
  pub screens : AreScreens k.limits.budget k.screens

-- pages of the device, but not all of them need be there
pub record ArePages (l : Limits) (m : Memory) : Type 0 where
  pub keys : (key : PageKey) → HasPage m key → IsKey l key
  pub pages : (key : PageKey) → IfSome (page_at m key) IsPage

pub record IsState (s : State) : Type 0 where
  pub kept : IsKept s.kept
  pub memory : ArePages s.kept.limits s.memory
