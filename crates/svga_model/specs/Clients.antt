-- A client of a device, each of whose calls is done at once: its state,
-- when a call is refused, and what it does.
use Rattle.std.specs.Prelude.{◌≡◌, ℕ, suc, ◌+◌, List, [], ◌∷◌, ◌++◌, length, take, drop, Bool, false, true, nat_lt, nat_le, ◌==◌, ◌&&◌, not, if◌then◌else◌, Option, Some, None, option_map}
use Rattle.std.specs.FinMap as map
use Rattle.std.specs.FinMap.{FinMap}
use Rattle.std.specs.FinSet as set
use Rattle.std.specs.FinSet.{FinSet}
use Rattle.std.specs.Option.{option_or}
use Rattle.svga_cmd.specs.Pages.{is_key, key_cmp}
use Rattle.svga_cmd.specs.declared.command.Command.{Command}
use Rattle.svga_cmd.specs.declared.command.Command.TheVariants.{Fence}
use Rattle.svga_cmd.specs.declared.constants.TheConstants.{MAX_REGION_ID, PAGE_SIZE}
use Rattle.svga_cmd.specs.declared.fault.Fault.TheVariants as fault
use Rattle.svga_cmd.specs.declared.limits.Limits.{Limits}
use Rattle.svga_cmd.specs.declared.page.PageKey.{PageKey}
use Rattle.svga_cmd.specs.declared.page.PageKey.TheVariants.{Guest}
use Rattle.svga_model.specs.Acts.{Act, Do, Put, Chain}
use Rattle.svga_model.specs.ClientActs.{Call, Commit, CommitFence, DescribeRegion, LendPage, ShowPage, TakePage, WritePage}
use Rattle.svga_model.specs.ClientFaults.{ClientFault, NoFence, NotLent, PageLent, PageOut, PageRange, Refused, first_true}
use Rattle.svga_model.specs.Faults.{fault_of}
use Rattle.svga_model.specs.Fences.{fence_value, fences, number_of_fence, register_after}
use Rattle.svga_model.specs.Memories.{page_bytes}
use Rattle.svga_model.specs.Regions.{Places}
use Rattle.svga_model.specs.States.{State, opening_state}
use Rattle.svga_model.specs.Steps.{step}
use Rattle.svga_model.specs.Touches.{chain_walk, touched_places}
use Rattle.svga_model.specs.Walks.{entered}

pub record Client : Type 0 where
  -- the number of the first fence, which never changes
  pub first : ℕ
  pub state : State
  -- the commands so far
  pub commands : List Command
  -- the pages that are lent, and for each of them the number of the last command since
  -- its lend that touches it, if one does
  pub lent : FinSet key_cmp
  pub touched : FinMap key_cmp ℕ

abbrev pub opening_client : Limits → ℕ → Client
opening_client l first = record {
  first = first;
  state = opening_state l first;
  commands = [];
  lent = set.empty;
  touched = map.empty;
}

-- the number of the next fence
abbrev pub next_fence : Client → ℕ
next_fence c = number_of_fence c.first (length (fences c.commands))

-- the first of the places' pages that isn't lent
abbrev pub first_out : FinSet key_cmp → Places → Option PageKey
first_out lent [] = None
first_out lent (None ∷ places) = first_out lent places
first_out lent (Some key ∷ places) = if set.contains lent key then first_out lent places else Some key

-- the first of these table pages that isn't lent
abbrev pub first_table_out : FinSet key_cmp → List ℕ → Option PageKey
first_table_out lent [] = None
first_table_out lent (p ∷ pages) =
    if set.contains lent (Guest p) then first_table_out lent pages else Some (Guest p)

-- When a command is refused: for its fault, else for a page that it touches and that is with the client.
abbrev pub commit_refusal : Client → Command → Option ClientFault
commit_refusal c command =
    option_or (option_map Refused (fault_of c.state (Do command)))
    (option_map PageOut (first_out c.lent (touched_places c.state.kept command)))

-- when a page can't be had, of which so many bytes are meant
abbrev pub page_tests : Client → PageKey → ℕ → List (Bool × ClientFault)
page_tests c key bytes =
    (not (is_key c.state.kept.limits key && nat_le bytes PAGE_SIZE), PageRange key)
    ∷ (set.contains c.lent key, PageLent key) ∷ []

-- the command with this number touches the page, and no fence stands behind it
abbrev pub is_empty : {X : Type 0} → List X → Bool
is_empty [] = true
is_empty (x ∷ xs) = false

abbrev pub is_unfenced : List Command → Option ℕ → Bool
is_unfenced commands None = false
is_unfenced commands (Some number) = is_empty (fences (drop (suc number) commands))

-- when a page can't be taken back
abbrev pub take_tests : Client → PageKey → List (Bool × ClientFault)
take_tests c key =
    (not (is_key c.state.kept.limits key), PageRange key)
    ∷ (not (set.contains c.lent key), NotLent key)
    ∷ (is_unfenced c.commands (map.get c.touched key), NoFence key) ∷ []

-- When a chain is refused: for its region or its first page, else for the first table page that its walk
-- enters and that is with the client, else for its fault.
abbrev pub start_refusals : Client → ℕ → ℕ → List (Bool × ClientFault)
start_refusals c id first =
    (nat_lt MAX_REGION_ID id, Refused fault.RegionId)
    ∷ (not (first == 0) && nat_le c.state.kept.limits.pages first, Refused fault.BadPage) ∷ []

abbrev pub describe_refusal : Client → ℕ → ℕ → Option ClientFault
describe_refusal c id first =
    option_or (first_true (start_refusals c id first))
    (option_or (option_map PageOut (first_table_out c.lent (entered (chain_walk c.state first))))
    (option_map Refused (fault_of c.state (Chain id first))))

-- why a call is refused, if it is
abbrev pub refusal_of : Client → Call → Option ClientFault
refusal_of c (Commit command) = commit_refusal c command
refusal_of c CommitFence = None
refusal_of c (WritePage key offset bytes) = first_true (page_tests c key (offset + length bytes))
refusal_of c (LendPage key) = first_true (page_tests c key 0)
refusal_of c (TakePage key) = first_true (take_tests c key)
refusal_of c (ShowPage key) = first_true (page_tests c key 0)
refusal_of c (DescribeRegion id first) = describe_refusal c id first

-- a list with others over it from an offset on
abbrev pub over_written : List ℕ → ℕ → List ℕ → List ℕ
over_written old offset bytes = take offset old ++ bytes ++ drop (offset + length bytes) old

-- what a call does to the device's state, if it does something
abbrev pub act_of : Client → Call → Option Act
act_of c (Commit command) = Some (Do command)
act_of c CommitFence = Some (Do (Fence (next_fence c)))
act_of c (WritePage key offset bytes) =
    Some (Put key (over_written (page_bytes c.state.memory key) offset bytes))
act_of c (LendPage key) = None
act_of c (TakePage key) = None
act_of c (ShowPage key) = None
act_of c (DescribeRegion id first) = Some (Chain id first)

-- the numbers of the last commands, once the command with this number touches
-- what stands in these places of its region
abbrev pub marked : Places → ℕ → FinMap key_cmp ℕ → FinMap key_cmp ℕ
marked [] number touched = touched
marked (None ∷ places) number touched = marked places number touched
marked (Some key ∷ places) number touched = marked places number (map.insert touched key number)

abbrev pub committed : Client → Command → Client
committed c command = record c {
  state = step c.state (Do command);
  commands = c.commands ++ command ∷ [];
  touched = marked (touched_places c.state.kept command) (length c.commands) c.touched;
}

-- the client after a call that isn't refused
abbrev pub after_call : Client → Call → Client
after_call c (Commit command) = committed c command
after_call c CommitFence = committed c (Fence (next_fence c))
after_call c (WritePage key offset bytes) =
    record c { state = step c.state (Put key (over_written (page_bytes c.state.memory key) offset bytes)) }
after_call c (LendPage key) = record c { lent = set.insert c.lent key; touched = map.remove c.touched key }
after_call c (TakePage key) = record c { lent = set.remove c.lent key; touched = map.remove c.touched key }
after_call c (ShowPage key) = c
after_call c (DescribeRegion id first) = record c { state = step c.state (Chain id first) }

-- a call that commits no FENCE by itself, as all calls of acts are
abbrev pub IsPlain : Call → Type 0
IsPlain (Commit command) = fence_value command ≡ None
IsPlain call = Unit {0}

-- the fence of the state is what the register shows after the fences so far
abbrev pub HasFence : Client → Type 0
HasFence c = c.state.kept.fence ≡ register_after c.first (length (fences c.commands))
