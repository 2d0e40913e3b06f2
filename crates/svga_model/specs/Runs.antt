-- Acts one after another, and the pages that they can be about.
use Rattle.std.specs.Prelude.{ℕ, suc, List, [], ◌∷◌, Bool, false, ◌&&◌, ◌||◌, if◌then◌else◌, Option, unwrap_or, option_and_then}
use Rattle.std.specs.FinMap as map
use Rattle.std.specs.List.{list_any, range_with_len, slice_get}
use Rattle.svga_cmd.specs.Pages.{Memory}
use Rattle.svga_cmd.specs.declared.constants.TheConstants.{REGION_IDS}
use Rattle.svga_cmd.specs.declared.fault.Fault.{Fault}
use Rattle.svga_cmd.specs.declared.page.PageKey.{PageKey}
use Rattle.svga_model.specs.Acts.{Act, Do, Put, Chain}
use Rattle.svga_model.specs.Faults.{fault_of, is_admissible}
use Rattle.svga_model.specs.Memories.{with_page}
use Rattle.svga_model.specs.Regions.{defined_places, frame_places}
use Rattle.svga_model.specs.States.{Kept, State, frame_pages}
use Rattle.svga_model.specs.Steps.{step}
use Rattle.svga_model.specs.Touches.{has_page, touches}

-- the state after the acts, up to the first that isn't admissible
abbrev pub run : State → List Act → State
run s [] = s
run s (act ∷ acts) = if is_admissible s act then run (step s act) acts else s

-- how many of them were run
abbrev pub done : State → List Act → ℕ
done s [] = 0
done s (act ∷ acts) = if is_admissible s act then suc (done (step s act) acts) else 0

-- the fault of the act behind those that are run, at which the run stops; none where it runs them all
abbrev pub stopping_fault : State → List Act → Option Fault
stopping_fault s acts = option_and_then (fault_of (run s acts)) (slice_get acts (done s acts))

-- the page stands in a region
unfoldable pub in_regions : Kept → PageKey → Bool
in_regions k key =
    has_page (frame_places (frame_pages k)) key
    || list_any (λ id. has_page (unwrap_or (defined_places k.regions id) []) key)
    (range_with_len 0 REGION_IDS)

-- the page is a table page of the act's walk
abbrev pub on_walk : State → Act → PageKey → Bool
on_walk s (Do c) key = false
on_walk s (Put other bytes) key = false
on_walk s (Chain id first) key = touches s (Chain id first) key

-- The page stands in a region at some point of the run, at its beginning and its end too, or on the walk of a
-- chain that the run does or at which it ends.
abbrev pub is_met : State → List Act → PageKey → Bool
is_met s [] key = in_regions s.kept key
is_met s (act ∷ acts) key =
    in_regions s.kept key || on_walk s act key || (is_admissible s act && is_met (step s act) acts key)

-- the state with these pages alone
abbrev pub only : State → List Act → State
only s acts = record s { memory = map.retain_keys s.memory (is_met s acts) }

-- a memory after the Puts among the acts, without what else they do
abbrev pub puts : Memory → List Act → Memory
puts m [] = m
puts m (Do c ∷ acts) = puts m acts
puts m (Put key bytes ∷ acts) = puts (with_page m key bytes) acts
puts m (Chain id first ∷ acts) = puts m acts
