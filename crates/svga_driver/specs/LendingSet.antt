-- What is known of the pages that are lent.
use Rattle.std.specs.Prelude.{◌≡◌, ℕ, List, [], ◌∷◌, Option, Some, None, is_some, option_and_then, map as map_list}
use Rattle.std.specs.FinMap as map
use Rattle.std.specs.FinMap.{FinMap}
use Rattle.std.specs.FinSet as set
use Rattle.std.specs.FinSet.{FinSet}
use Rattle.svga_cmd.specs.Pages.{key_cmp}
use Rattle.svga_cmd.specs.Slots.{from_slots, key_of}
use Rattle.svga_cmd.specs.declared.limits.Limits.{Limits}
use Rattle.svga_cmd.specs.declared.page.PageKey.{PageKey}
use Rattle.svga_driver.specs.declared.lending.Lending.{Lending}
use Rattle.svga_driver.specs.declared.lending.Lending.TheVariants.{Touched, Untouched}
use Rattle.svga_model.specs.Regions.{Places}
use Rattle.svga_region.specs.RegionSet.{RegionSet, places_in}

-- what happened to each page that is lent, and the numbers of the last commands that touch some of them
pub record LendingSet : Type 0 where
  pub limits : Limits
  pub lent : FinMap key_cmp Lending
  pub touched : FinMap key_cmp ℕ

-- the command that touches a page last
abbrev pub command_of : Lending → Option ℕ
command_of Untouched = None
command_of (Touched command fences) = Some command

-- what stands in a row with a place for each page
abbrev pub lendings_in : Limits → List (Option Lending) → FinMap key_cmp Lending
lendings_in limits row = from_slots (key_of limits.pages) row

abbrev pub commands_in : Limits → List (Option Lending) → FinMap key_cmp ℕ
commands_in limits row = from_slots (key_of limits.pages) (map_list (option_and_then command_of) row)

-- these pages are the lent ones
abbrev pub AreLent : FinSet key_cmp → LendingSet → Type 0
AreLent lent s = (key : PageKey) → is_some (map.get s.lent key) ≡ set.contains lent key

-- the page is lent
abbrev pub with_lent : LendingSet → PageKey → LendingSet
with_lent s key =
    record s { lent = map.insert s.lent key Untouched; touched = map.remove s.touched key }

-- it is with the driver again
abbrev pub without : LendingSet → PageKey → LendingSet
without s key = record s { lent = map.remove s.lent key; touched = map.remove s.touched key }

-- a command touches it, behind which so many fences come with the first one
abbrev pub with_touched : LendingSet → PageKey → ℕ → ℕ → LendingSet
with_touched s key command fences = record s {
  lent = map.insert s.lent key (Touched command fences);
  touched = map.insert s.touched key command;
}

-- it touches what stands in these places
abbrev pub all_touched : Places → ℕ → ℕ → LendingSet → LendingSet
all_touched [] command fences s = s
all_touched (None ∷ places) command fences s = all_touched places command fences s
all_touched (Some key ∷ places) command fences s =
    all_touched places command fences (with_touched s key command fences)

-- the places of a region that is touched, none where none is
abbrev pub places_for : RegionSet → Option ℕ → Places
places_for regions None = []
places_for regions (Some id) = places_in regions id
