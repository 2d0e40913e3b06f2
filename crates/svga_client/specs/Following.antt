-- How a driver's acts, of which the device may have done some, stand to its client, each of whose calls is
-- done at once.
use Rattle.std.specs.Prelude.{◌≡◌, ℕ, ◌<◌, ◌≤◌, List, [], ◌∷◌, ◌++◌, length, true, false, IsSome, Option, Some, option_map}
use Rattle.std.specs.FinMap as map
use Rattle.std.specs.FinMap.{FinMap}
use Rattle.std.specs.FinSet as set
use Rattle.std.specs.FinSet.{FinSet}
use Rattle.std.specs.Option.{option_or}
use Rattle.svga_cmd.specs.Pages.{IsKey, Memory, key_cmp, page_at}
use Rattle.svga_cmd.specs.declared.command.Command.{Command}
use Rattle.svga_cmd.specs.declared.limits.Limits.{Limits}
use Rattle.svga_cmd.specs.declared.page.PageKey.{PageKey}
use Rattle.svga_client.specs.OwnPages.{IsWithPages, with_own}
use Rattle.svga_model.specs.Acts.{Act, Put}
use Rattle.svga_model.specs.Clients.{Client, first_out}
use Rattle.svga_model.specs.ClientFaults.{ClientFault, PageOut, Refused}
use Rattle.svga_model.specs.Faults.{shape_tests}
use Rattle.svga_model.specs.Fences.{fences}
use Rattle.svga_model.specs.Memories.{page_bytes}
use Rattle.svga_model.specs.Runs.{done, run}
use Rattle.svga_model.specs.Standing.{least_standing}
use Rattle.svga_model.specs.States.{Kept, State, opening_memory, opening_state, shape_of}
use Rattle.svga_model.specs.Touches.{touched_places}
use Rattle.svga_ring.specs.Committed.{commands}
use Rattle.svga_ring.specs.SoundPages.{TouchesAt, known_done}

-- what a driver knows by itself: all acts, how many commands are taken by the last load of STOP, how many
-- fences were seen, the pages that aren't with it, and those that are, with their bytes
pub record Known : Type 0 where
  pub acts : List Act
  pub passed : ℕ
  pub seen : ℕ
  pub lent : FinSet key_cmp
  pub own : Memory

-- the same with an act more
abbrev pub acting : Known → Act → Known
acting k act = record k { acts = k.acts ++ act ∷ [] }

-- what its acts leave, once they are done
abbrev pub state_of : Limits → Client → Known → State
state_of l c k = run (opening_state l c.first) k.acts

-- The client is what these acts mean, where a page that is with the driver counts as it is there.
pub record IsFollowed (l : Limits) (c : Client) (k : Known) : Type 0 where
  pub state : IsWithPages k.own (state_of l c k) c.state
  pub commands_are : c.commands ≡ commands k.acts
  pub lent_is : c.lent ≡ k.lent
  -- each page of the device is with the driver or is lent
  pub own_keys : (key : PageKey) → IsSome (page_at k.own key)
      → IsKey l key × (set.contains k.lent key ≡ false)
  pub own_pages : (key : PageKey) → IsKey l key → set.contains k.lent key ≡ false → IsSome (page_at k.own key)
  -- all acts are admissible in their turn
  pub in_turn : done (opening_state l c.first) k.acts ≡ length k.acts
  pub seen_low : k.seen ≤ length (fences (commands k.acts))
  -- A command that isn't known to be done touches lent pages alone, and is no later than the last one that is
  -- known to touch the page in this lending.
  pub touched_lent : (n : ℕ) (key : PageKey) → known_done k.acts k.passed k.seen ≤ n
      → TouchesAt (opening_state l c.first) k.acts n key
      → set.contains k.lent key ≡ true
  pub touched_last : (n : ℕ) (key : PageKey) → known_done k.acts k.passed k.seen ≤ n
      → TouchesAt (opening_state l c.first) k.acts n key
      → (place : ℕ) × (map.get c.touched key ≡ Some place) × (n ≤ place)
  pub places_low : (key : PageKey) (place : ℕ) → map.get c.touched key ≡ Some place
      → place < length (commands k.acts)

-- the client that this driver stands for: these places of last commands with what it knows by itself
abbrev pub client_of : Limits → ℕ → FinMap key_cmp ℕ → Known → Client
client_of l first touched k = record {
  first = first;
  state = with_own k.own (run (opening_state l first) k.acts);
  commands = commands k.acts;
  lent = k.lent;
  touched = touched;
}

-- what it knows at first: all pages are with it, each of zeros
abbrev pub opening_known : Limits → Known
opening_known l = record { acts = []; passed = 0; seen = 0; lent = set.empty; own = opening_memory l }

-- A page is lent with its bytes,
abbrev pub lending : Known → PageKey → Known
lending k key = record k {
  acts = k.acts ++ Put key (page_bytes k.own key) ∷ [];
  lent = set.insert k.lent key;
  own = map.remove k.own key;
}

-- is taken back with those that the acts leave,
abbrev pub taking : Limits → Client → Known → PageKey → Known
taking l c k key = record k {
  lent = set.remove k.lent key;
  own = map.insert k.own key (page_bytes (state_of l c k).memory key);
}

-- and, while it is lent, is given once more as they leave it.
abbrev pub giving_again : Limits → Client → Known → PageKey → Known
giving_again l c k key = acting k (Put key (page_bytes (state_of l c k).memory key))

-- Why a command is refused, by what is kept and the pages that are lent: for its fault, where it is judged
-- without bytes, else for a page that isn't lent.
abbrev pub refusal_by : Kept → FinSet key_cmp → Command → Option ClientFault
refusal_by kept lent command =
    option_or (option_map Refused (least_standing (shape_tests (shape_of kept) command)))
    (option_map PageOut (first_out lent (touched_places kept command)))
