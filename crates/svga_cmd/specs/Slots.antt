-- A row of slots as a finite map: what slot i holds stands at key i.
use Rattle.std.specs.Prelude.{ℕ, ◌+◌, ◌-◌, suc, List, [], ◌∷◌, Option, Some, None, nat_lt, if◌then◌else◌, map as map_list}
use Rattle.std.specs.FinMap as map
use Rattle.std.specs.FinMap.{FinMap}
use Rattle.std.specs.declared.cmp.Ordering.{Ordering}
use Rattle.svga_cmd.specs.declared.page.PageKey.{PageKey}
use Rattle.svga_cmd.specs.declared.page.PageKey.TheVariants.{Guest, Frame}
use Rattle.svga_cmd.specs.Pages.{Memory}

-- what the full slots hold, with their keys, from slot i on
abbrev pub slots_from : {K X : Type 0} → (ℕ → K) → ℕ → List (Option X) → List (K × X)
slots_from key i [] = []
slots_from key i (None ∷ slots) = slots_from key (suc i) slots
slots_from key i (Some x ∷ slots) = (key i, x) ∷ slots_from key (suc i) slots

-- the map of a row of slots: an empty slot leaves its key out
unfoldable pub from_slots : {K X : Type 0} {R : K → K → Ordering} → (ℕ → K) → List (Option X) → FinMap R X
from_slots key slots = map.from_entries (slots_from key 0 slots)

-- the key of a slot: the pages of guest memory come first, and then those of the framebuffer
abbrev pub key_of : ℕ → ℕ → PageKey
key_of guest i = if nat_lt i guest then Guest i else Frame (i - guest)

-- the slot of a key, where there is one
abbrev pub slot_of : ℕ → PageKey → Option ℕ
slot_of guest (Guest p) = if nat_lt p guest then Some p else None
slot_of guest (Frame g) = Some (guest + g)

-- the memory of pages in a row
abbrev pub memory_of : ℕ → List (List ℕ) → Memory
memory_of guest pages = from_slots (key_of guest) (map_list Some pages)
