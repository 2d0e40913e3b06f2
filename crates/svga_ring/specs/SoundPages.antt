-- What is sound of the pages: of where they are, of what they hold, and of the acts that touch them.
use Rattle.std.specs.Prelude.{◌≡◌, ℕ, ◌-◌, ◌≤◌, List, [], ◌∷◌, ◌++◌, length, slice_index, Bool, true, ◌==◌, nat_lt, if◌then◌else◌, All, Option, Some}
use Rattle.std.specs.FinMap as map
use Rattle.std.specs.FinSet as set
use Rattle.std.specs.FinSet.{FinSet}
use Rattle.std.specs.List.{slice_get}
use lib.ListN.{get_elem?}
use mathlib.Core.Option as maybe
use Rattle.svga_cmd.specs.Pages.{IsKey, key_cmp}
use Rattle.svga_cmd.specs.Spelling.{Spells}
use Rattle.svga_cmd.specs.declared.command.Command.{Command}
use Rattle.svga_cmd.specs.declared.limits.Limits.{Limits}
use Rattle.svga_cmd.specs.declared.page.PageKey.{PageKey}
use Rattle.svga_model.specs.Acts.{Act, Do, Put, Chain}
use Rattle.svga_model.specs.Members.{IsIn}
use Rattle.svga_model.specs.Memories.{page_bytes}
use Rattle.svga_model.specs.Runs.{run}
use Rattle.svga_model.specs.States.{Kept, State}
use Rattle.svga_model.specs.Touches.{IsPut, Touches, is_page}
use Rattle.svga_ring.specs.Committed.{before, before_fence, behind, commands, settled}
use Rattle.svga_ring.specs.Noting.{NotedPages, bytes_at_home, holds}
use Rattle.svga_ring.specs.Locations.{Home, Location, location_home, location_word, views_say}
use Rattle.svga_ring.specs.Requests.{IsChainOut, Request, is_chain_out}
use Rattle.svga_ring.specs.SharedTable.{page_count, page_word, slot_number}

-- the state that what is settled leaves
abbrev pub reached : State → ℕ → Bool → List Act → State
reached s n out acts = run s (settled n out acts)

-- command n touches the page in its turn: in the state that the acts before it leave
abbrev pub TouchesAt : State → List Act → ℕ → PageKey → Type 0
TouchesAt s acts n key = (c : Command) × (slice_get (commands acts) n ≡ Some c)
    × Touches (run s (before n acts)) (Do c) key

-- a Put of the page stands among the acts
abbrev pub PutsPage : List Act → PageKey → Type 0
PutsPage acts key = (bytes : List ℕ) × IsIn (Put key bytes) acts

-- the number of the first command that the driver doesn't know to be taken: by its last load of STOP, or by
-- the last fence that it saw, which may itself still be in hand
abbrev pub known_done : List Act → ℕ → ℕ → ℕ
known_done acts passed seen =
    let by_fence = if seen == 0 then 0 else before_fence (seen - 1) (commands acts) in
    if nat_lt passed by_fence then by_fence else passed

-- Where the last request is out and asks for a chain, that is the last chain of the acts, and Puts alone
-- stand behind it.
pub record IsLastChain (r : Request) (acts : List Act) : Type 0 where
  pub front : List Act
  pub rest : List Act
  pub acts_are : acts ≡ front ++ Chain r.id r.descriptor ∷ rest
  pub puts_behind : All IsPut rest

-- the chain of such a request touches the page in its turn
abbrev pub ChainTouches : State → Request → List Act → PageKey → Type 0
ChainTouches s r acts key = (chain : IsLastChain r acts)
    × Touches (run s chain.front) (Chain r.id r.descriptor) key

-- The act in hand touches the page in its turn: the command that was read, or else the chain of the request
-- that is out and loaded.
pub data TouchesInHand (s : State) (acts : List Act) (done : ℕ) (read : List ℕ) (request wanted : Request)
    (answered : ℕ) (key : PageKey) : Type 0 where
  by_command : (c : Command) → Spells c read → TouchesAt s acts done key
      → TouchesInHand s acts done read request wanted answered key
  by_chain : read ≡ [] → IsChainOut request answered → wanted ≡ request → ChainTouches s request acts key
      → TouchesInHand s acts done read request wanted answered key

-- Where one page is: its word, its slot, and what the views say of it agree.
pub record IsLocated (location : Location) (word : ℕ) (home : maybe.Option Home) (bytes : List ℕ)
    (lent held driver_out device_out : Bool) : Type 0 where
  pub word_is : word ≡ location_word location
  pub home_is : home ≡ maybe.some (location_home bytes location)
  pub lent_is : lent ≡ (views_say location).0
  pub held_is : held ≡ (views_say location).1
  pub driver_out_is : driver_out ≡ (views_say location).2
  pub device_out_is : device_out ≡ (views_say location).3

-- Each page has one location. At home it has the bytes that were given back for the act in hand, or else
-- those that what is settled leaves.
pub record AreLocated (l : Limits) (words : List ℕ) (homes : List Home) (settled_state : State)
    (lent driver_out : FinSet key_cmp) (noted : NotedPages) (device_out : Option PageKey) : Type 0 where
  pub slots : length homes ≡ page_count l
  pub location : PageKey → Location
  pub each : (key : PageKey) → IsKey l key
      → IsLocated (location key) (slice_index words (page_word l key)) (get_elem? homes (slot_number l key))
      (bytes_at_home noted key (page_bytes settled_state.memory key))
      (set.contains lent key) (holds noted key) (set.contains driver_out key) (is_page key device_out)

-- Acts that touch a page come between its Puts: no command that isn't known to be done, and no chain that is
-- asked for, touches a page with the driver; none that isn't done touches a page that is put behind it.
pub record AreClear (s : State) (acts : List Act) (done passed seen : ℕ) (lent : FinSet key_cmp)
    (request : Request) (answered : ℕ) : Type 0 where
  pub with_driver_free : (n : ℕ) (key : PageKey) → known_done acts passed seen ≤ n → TouchesAt s acts n key
      → set.contains lent key ≡ true
  pub request_free : (key : PageKey) → IsChainOut request answered → ChainTouches s request acts key
      → set.contains lent key ≡ true
  pub later_puts : (n : ℕ) (key : PageKey) → done ≤ n → TouchesAt s acts n key → PutsPage (behind n acts) key
      → ⊥
  pub request_later_puts : (key : PageKey) → IsChainOut request answered → (chain : IsLastChain request acts)
      → Touches (run s chain.front) (Chain request.id request.descriptor) key → PutsPage chain.rest key → ⊥

-- What the device keeps and has noted is what the settled acts leave.
pub record IsRunSoFar (s : State) (acts : List Act) (done : ℕ) (read : List ℕ) (kept : Kept)
    (noted : NotedPages) (request wanted : Request) (answered : ℕ) : Type 0 where
  pub kept_is_run : kept ≡ (reached s done (is_chain_out request answered) acts).kept
  pub noted_is_run : (key : PageKey) (bytes : List ℕ) (back : Option (List ℕ))
      → map.get noted key ≡ Some (record { first = bytes; back = back })
      → bytes ≡ page_bytes (reached s done (is_chain_out request answered) acts).memory key
  -- a page that is noted is touched by the act in hand, in its turn
  pub noted_touched : (key : PageKey) → map.contains_key noted key ≡ true
      → TouchesInHand s acts done read request wanted answered key
  -- no chain stands behind a command that isn't done
  pub chains_done : (front rest : List Act) (id first : ℕ) → acts ≡ front ++ Chain id first ∷ rest
      → length (commands front) ≤ done
