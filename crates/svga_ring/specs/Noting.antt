-- What the pages that are noted for the act in hand say.
use Rattle.std.specs.Prelude.{ℕ, List, Bool, false, Option, Some, None, is_none, map as map_list, option_and_then, unwrap_or}
use Rattle.std.specs.FinMap as map
use Rattle.std.specs.FinMap.{FinMap}
use Rattle.svga_cmd.specs.Pages.{Memory, key_cmp}
use Rattle.svga_cmd.specs.declared.page.PageKey.{PageKey}
use Rattle.svga_model.specs.Acts.{Act}
use Rattle.svga_model.specs.States.{State}
use Rattle.svga_model.specs.Touches.{Touches}
use Rattle.svga_ring.specs.Views.{DeviceView, Noted}

-- the pages that are noted
abbrev pub NotedPages : Type 0
NotedPages = FinMap key_cmp Noted

abbrev pub is_held_now : Option Noted → Bool
is_held_now None = false
is_held_now (Some n) = is_none n.back

-- the device holds the page
abbrev pub holds : NotedPages → PageKey → Bool
holds noted key = is_held_now (map.get noted key)

-- the bytes with which it was given back, if it was
abbrev pub given_back : NotedPages → PageKey → Option (List ℕ)
given_back noted key = option_and_then (λ n. n.back) (map.get noted key)

-- the pages with the bytes with which they were first held
abbrev pub first_held : NotedPages → Memory
first_held noted = map.from_entries (map_list (λ e. (e.0, e.1.first)) (map.entries noted))

-- the state as far as the device knows it: what is kept, and the pages that are noted
abbrev pub known_state : DeviceView → State
known_state e = record { kept = e.kept; memory = first_held e.noted }

-- the device may take the page for the act: as far as it knows the state, the act touches it
abbrev pub MayHold : DeviceView → Act → PageKey → Type 0
MayHold e act key = Touches (known_state e) act key

-- what a page at home holds: what was given back for the act in hand, else what these bytes are
abbrev pub bytes_at_home : NotedPages → PageKey → List ℕ → List ℕ
bytes_at_home noted key bytes = unwrap_or (given_back noted key) bytes
