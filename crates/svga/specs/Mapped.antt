-- Which pages of guest memory stand in a region, as a list of answers.
use Rattle.std.specs.Prelude.{◌≡◌, ℕ, ◌<◌, List, [], Bool, false, ◌||◌, length, map, slice_index_or, if◌then◌else◌, Some, None, unwrap_or}
use Rattle.std.specs.List.{list_any, range_with_len}
use Rattle.svga.specs.ReplayTexts.{shown_page}
use Rattle.svga_cmd.specs.Pages.{Memory}
use Rattle.svga_cmd.specs.declared.page.PageKey.{PageKey}
use Rattle.svga_cmd.specs.declared.page.PageKey.TheVariants.{Guest}
use Rattle.svga_model.specs.Regions.{Places, Regions, defined_places}
use Rattle.svga_model.specs.Runs.{in_regions}
use Rattle.svga_model.specs.States.{Kept}
use Rattle.svga_model.specs.Touches.{has_page}

-- an answer for each page, by its number
abbrev pub AreMapped : Kept → List Bool → Type 0
AreMapped k mapped = mapped ≡ map (λ p. in_regions k (Guest p)) (range_with_len 0 k.limits.pages)

-- the text of a guest page if the answer for it is yes
abbrev pub mapped_page : Memory → List Bool → ℕ → List ℕ
mapped_page m mapped p = if slice_index_or mapped p false then shown_page m (Guest p) else []

-- each guest page among the places has a number below this one
abbrev pub AreBelow : ℕ → Places → Type 0
AreBelow count places = (k p : ℕ) → slice_index_or places k None ≡ Some (Guest p) → p < count

-- the places of a region that commands and chains define
abbrev pub defined_list : Regions → ℕ → Places
defined_list regions id = unwrap_or (defined_places regions id) []

-- the page stands in a region that commands and chains define, with an id below this one
unfoldable pub in_first : Regions → ℕ → PageKey → Bool
in_first regions count key = list_any (λ id. has_page (defined_list regions id) key) (range_with_len 0 count)

-- the answers are yes where they were, and where this test of the page says so
abbrev pub AreMarked : (PageKey → Bool) → List Bool → List Bool → Type 0
AreMarked test before now = (p : ℕ) → p < length before
    → slice_index_or now p false ≡ (slice_index_or before p false || test (Guest p))
