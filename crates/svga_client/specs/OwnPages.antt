-- The pages that are with the driver, put in their places.
use Rattle.std.specs.FinMap as map
use Rattle.std.specs.Prelude.{◌≡◌, ℕ, List, ◌++◌}
use Rattle.std.specs.Option.{option_or}
use Rattle.svga_cmd.specs.Pages.{Memory, page_at}
use Rattle.svga_cmd.specs.declared.page.PageKey.{PageKey}
use Rattle.svga_model.specs.Clients.{over_written}
use Rattle.svga_model.specs.Memories.{page_bytes}
use Rattle.svga_model.specs.States.{State}

-- The state `now` is `s` with these pages in their places: it keeps the same, and has their bytes where they
-- are, else its own.
pub record IsWithPages (own : Memory) (s now : State) : Type 0 where
  pub kept : now.kept ≡ s.kept
  pub pages : (key : PageKey) → page_at now.memory key ≡ option_or (page_at own key) (page_at s.memory key)

-- A memory with these pages over its own.
unfoldable pub overlaid : Memory → Memory → Memory
overlaid own m = map.from_entries (map.entries own ++ map.entries m)

abbrev pub with_own : Memory → State → State
with_own own s = record s { memory = overlaid own s.memory }

-- one of these pages is written from an offset on
abbrev pub writing : Memory → PageKey → ℕ → List ℕ → Memory
writing own key offset bytes = map.insert own key (over_written (page_bytes own key) offset bytes)
