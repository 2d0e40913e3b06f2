-- The places of regions, and those that a command touches, are pages of the device.
use Rattle.std.proofs.Common.{ℕ, [], Bool, true, false, cond, nat_lt, ◌==◌, Option, Some, None, IfSome, option_and_then, unwrap_or}
use Rattle.std.proofs.lemmas.List.Elements.{All-nil}
use Rattle.std.specs.FinMap as map
use Rattle.svga_cmd.specs.Limits.{frame_page_count}
use Rattle.svga_cmd.specs.Pages.{IsKey}
use Rattle.svga_cmd.specs.declared.command.Command.{Command}
use Rattle.svga_cmd.specs.declared.constants.TheConstants.{MAX_REGION_ID, SVGA_GMR_FRAMEBUFFER}
use Rattle.svga_cmd.specs.declared.limits.Limits.{Limits}
use Rattle.svga_cmd.specs.declared.page.PageKey.TheVariants.{Frame}
use Rattle.svga_model.proofs.ValidRules.{all_made}
use Rattle.svga_model.specs.Regions.{Places, Regions, defined_places, frame_places, places_of}
use Rattle.svga_model.specs.States.{State, frame_pages}
use Rattle.svga_model.specs.Touches.{touched_places, touched_region}
use Rattle.svga_model.specs.ValidStates.{ArePlaces, AreRegions, IsState}

-- The places of each region are pages of the device: of none,
defined_keys : (l : Limits) (above : Bool) (o : Option Places) → IfSome o (ArePlaces l)
    → ArePlaces l (unwrap_or (cond above None o) [])
defined_keys l true o are = All-nil (λ place. IfSome place (IsKey l))
defined_keys l false None are = All-nil (λ place. IfSome place (IsKey l))
defined_keys l false (Some places) are = are

-- of the framebuffer's,
frame_keys : (l : Limits) → ArePlaces l (frame_places (frame_page_count l))
frame_keys l =
    all_made (λ place. IfSome place (IsKey l)) (λ g. Some (Frame g)) (frame_page_count l) (λ k low. low)

-- and of any.
region_keys : (l : Limits) (regions : Regions) (id : ℕ) → AreRegions l regions
    → ArePlaces l (unwrap_or (places_of (frame_page_count l) regions id) [])
region_keys l regions id are = at (id == SVGA_GMR_FRAMEBUFFER) where
  at : (t : Bool)
      → ArePlaces l (unwrap_or (cond t (Some (frame_places (frame_page_count l))) (defined_places regions id)) [])
  at true = frame_keys l
  at false = defined_keys l (nat_lt MAX_REGION_ID id) (map.get regions id) (are.each id)

-- So are those of the region that a command touches, and there are none where it touches no region.
pub touched_keys : (s : State) (c : Command) → IsState s → ArePlaces s.kept.limits (touched_places s.kept c)
touched_keys s c is = at (touched_region s.kept.gmrfb c) where
  at : (region : Option ℕ)
      → ArePlaces s.kept.limits (unwrap_or (option_and_then (places_of (frame_pages s.kept) s.kept.regions) region) [])
  at None = All-nil (λ place. IfSome place (IsKey s.kept.limits))
  at (Some id) = region_keys s.kept.limits s.kept.regions id is.kept.regions
