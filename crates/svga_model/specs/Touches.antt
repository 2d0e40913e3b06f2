-- Which pages an act may read or write. It is meant of admissible acts, and of a
-- chain also where its walk is refused.
use Rattle.std.specs.Prelude.{◌≡◌, ⊤, ℕ, List, [], Bool, true, false, ◌==◌, if◌then◌else◌, Option, Some, None, option_map, unwrap_or, option_and_then}
use Rattle.std.specs.List.{list_any}
use Rattle.std.specs.Ordering.{eq_by_cmp}
use Rattle.svga_cmd.specs.Pages.{key_cmp, page_at}
use Rattle.svga_cmd.specs.declared.command.Command.{Command}
use Rattle.svga_cmd.specs.declared.command.Command.TheVariants.{Update, Fence, DefineScreen, DestroyScreen, DefineGmrfb, BlitToScreen, BlitToGmrfb, DefineGmr2, RemapGmr2}
use Rattle.svga_cmd.specs.declared.constants.TheConstants.{SVGA_GMR_FRAMEBUFFER}
use Rattle.svga_cmd.specs.declared.gmrfb.Gmrfb.{Gmrfb}
use Rattle.svga_cmd.specs.declared.page.PageKey.{PageKey}
use Rattle.svga_cmd.specs.declared.page.PageKey.TheVariants.{Guest}
use Rattle.svga_model.specs.Acts.{Act, Do, Put, Chain}
use Rattle.svga_model.specs.PointedNumbers.{pointed}
use Rattle.svga_model.specs.Regions.{Places, places_of}
use Rattle.svga_model.specs.States.{Kept, State, frame_pages}
use Rattle.svga_model.specs.Walks.{TablePosition, tables_of, walk}

abbrev pub is_page : PageKey → Option PageKey → Bool
is_page key None = false
is_page key (Some other) = eq_by_cmp key_cmp key other

-- some place is mapped to the page
unfoldable pub has_page : Places → PageKey → Bool
has_page places key = list_any (is_page key) places

-- the region whose pages a command may read or write
abbrev pub touched_region : Option Gmrfb → Command → Option ℕ
touched_region gmrfb (Update x y width height) = Some SVGA_GMR_FRAMEBUFFER
touched_region gmrfb (Fence value) = None
touched_region gmrfb (DefineScreen d) = None
touched_region gmrfb (DestroyScreen id) = None
touched_region gmrfb (DefineGmrfb g) = None
touched_region gmrfb (BlitToScreen b) = option_map (λ g. g.region) gmrfb
touched_region gmrfb (BlitToGmrfb b) = option_map (λ g. g.region) gmrfb
touched_region gmrfb (DefineGmr2 region pages) = None
touched_region gmrfb (RemapGmr2 region offset pages entries) = option_map (λ at. at.region) (pointed entries)

-- its places, mapped and unmapped
abbrev pub touched_places : Kept → Command → Places
touched_places k c =
    unwrap_or (option_and_then (places_of (frame_pages k) k.regions) (touched_region k.gmrfb c)) []

-- the positions of a chain's walk: with first page 0 there is none
abbrev pub chain_walk : State → ℕ → List TablePosition
chain_walk s first = if first == 0 then [] else walk s.kept.limits.pages (tables_of s.memory) first

-- the act may read or write the page; of a Put it isn't said
abbrev pub touches : State → Act → PageKey → Bool
touches s (Do c) key = has_page (touched_places s.kept c) key
touches s (Put other bytes) key = false
touches s (Chain id first) key = list_any (λ at. is_page key (Some (Guest at.table))) (chain_walk s first)

abbrev pub Touches : State → Act → PageKey → Type 0
Touches s act key = touches s act key ≡ true

abbrev pub IsPut : Act → Type 0
IsPut (Do c) = ⊥
IsPut (Put key bytes) = ⊤
IsPut (Chain id first) = ⊥

-- the two states' memories have the same on the pages that the act touches in the first
abbrev pub AgreeOn : State → State → Act → Type 0
AgreeOn s t act = (key : PageKey) → Touches s act key → page_at s.memory key ≡ page_at t.memory key
