-- When a seat may make each step: said of the seat's own view, of which seats there are, and for a join of
-- what the device's view had come to.
use Rattle.std.specs.Prelude.{◌≡◌, ◌≢◌, ℕ, ◌+◌, ◌<◌, ◌≤◌, ◌^◌, List, [], ◌++◌, length, drop, false, true, Some, None}
use Rattle.std.specs.FinSet as set
use Rattle.svga_cmd.specs.Pages.{IsKey, IsPage, page_at}
use Rattle.svga_cmd.specs.Spelling.{Spells, spelling}
use Rattle.svga_cmd.specs.declared.command.Command.{Command}
use Rattle.svga_cmd.specs.declared.command.Command.TheVariants.{Fence}
use Rattle.svga_cmd.specs.declared.constants.TheConstants.{FENCE_WINDOW}
use Rattle.svga_cmd.specs.declared.page.PageKey.{PageKey}
use Rattle.svga_cmd.specs.declared.session.Way.{Way}
use Rattle.svga_cmd.specs.declared.session.Way.TheVariants.{Reserve, Dword}
use Rattle.svga_model.specs.Acts.{Act, Do, Chain}
use Rattle.svga_model.specs.Faults.{IsAdmissible}
use Rattle.svga_model.specs.Fences.{fences, number_of_fence}
use Rattle.svga_model.specs.Runs.{run}
use Rattle.svga_model.specs.Sentences.{spelling_all}
use Rattle.svga_model.specs.States.{State, opening_state}
use Rattle.svga_model.specs.Steps.{step}
use Rattle.svga_model.specs.Touches.{Touches}
use Rattle.svga_ring.specs.Committed.{commands}
use Rattle.svga_ring.specs.Core.{Commit, Core, Event, Give, GiveBack, HeldSlotHome, HeldSlotOut, Hold, Join, LoadCell, LoadConfig, LoadFence, LoadNext, LoadReply, LoadRequest, LoadStop, SendMore, SlotHome, SlotOut, Split, StoreCell, StoreConfig, StoreFence, StoreReply, StoreRequest, StoreReserved, StoreStop, Take, TakeJoined, chain_of, put_count, read_count, seat_of}
use Rattle.svga_ring.specs.Layouts.{ring_dwords, word_address}
use Rattle.svga_ring.specs.Noting.{MayHold, given_back, holds, known_state}
use Rattle.svga_ring.specs.Requests.{is_ring_request}
use Rattle.svga_ring.specs.SoundPages.{TouchesAt, known_done}
use Rattle.svga_ring.specs.Views.{Apart, DeviceView, DriverView, Joined, Opening, Role, both, device, driver, joined, spent}

-- the state before all acts
abbrev pub first_state : DriverView → State
first_state d = opening_state d.terms.limits d.terms.first

-- the words of the commands that aren't sent
abbrev pub unsent : DriverView → List ℕ
unsent d = drop (length d.sent) (spelling_all (commands d.acts))

-- no request is open to the driver
abbrev pub NoneOpen : DriverView → Type 0
NoneOpen d = d.request.number ≡ d.reply_loads.last

-- some words at the front of others
abbrev pub IsFrontOf : List ℕ → List ℕ → Type 0
IsFrontOf front ws = (front ≢ []) × ((rest : List ℕ) × (ws ≡ front ++ rest))

-- the pending words are those of the command: all of them, or by dword some at the front
abbrev pub ArePending : Way → List ℕ → Command → Type 0
ArePending Reserve pending c = pending ≡ spelling c
ArePending Dword pending c = IsFrontOf pending (spelling c)

-- a FENCE has the next number, and fewer than the window has are past those seen
abbrev pub IsNextFence : ℕ → List Command → ℕ → Command → Type 0
IsNextFence first cs seen (Fence value) = (value ≡ number_of_fence first (length (fences cs)))
    × (length (fences cs) < seen + FENCE_WINDOW)
IsNextFence first cs seen c = Unit {0}

-- the command may be committed
pub record MayCommit (d : DriverView) (c : Command) : Type 0 where
  pub all_sent : unsent d ≡ []
  pub spelled : Spells c (spelling c)
  pub pending : ArePending d.terms.way d.pending c
  pub none_open : NoneOpen d
  pub admissible : IsAdmissible (run (first_state d) d.acts) (Do c)
  pub pages_lent : (key : PageKey) → Touches (run (first_state d) d.acts) (Do c) key
      → set.contains d.lent key ≡ true
  pub fence : IsNextFence d.terms.first (commands d.acts) d.seen c
  pub by_dword : d.terms.way ≡ Dword → length d.pending ≡ 1

-- a word more fits
pub record MayStoreCell (d : DriverView) : Type 0 where
  pub runs : d.stopped ≡ false
  pub reserved : d.terms.way ≡ Reserve → d.reserved ≢ 0
  pub room : put_count d + 1 < d.stop + ring_dwords d.layout
  pub short : put_count d < 2 ^ 62

-- A chain may be asked for: nothing else is under way, neither a command, since the last STOP loaded is
-- NEXT_CMD, nor a reservation.
pub record MayAsk (d : DriverView) (id first : ℕ) : Type 0 where
  pub runs : d.stopped ≡ false
  pub none_pending : d.pending ≡ []
  pub none_reserved : d.terms.way ≡ Reserve → d.reserved ≡ 0
  pub none_open : NoneOpen d
  pub all_taken : d.stop_loads.last ≡ word_address d.layout (length d.sent)
  pub admissible : IsAdmissible (run (first_state d) d.acts) (Chain id first)
  pub pages_lent : (key : PageKey) → Touches (run (first_state d) d.acts) (Chain id first) key
      → set.contains d.lent key ≡ true

-- The driver may stop: nothing is begun, neither a request, a command nor a reservation.
pub record MayStop (d : DriverView) : Type 0 where
  pub none_open : NoneOpen d
  pub none_pending : d.pending ≡ []
  pub all_sent : unsent d ≡ []
  pub none_reserved : d.terms.way ≡ Reserve → d.reserved ≡ 0

-- no slot is out with the driver
abbrev pub NoSlotOut : DriverView → Type 0
NoSlotOut d = (key : PageKey) → set.contains d.out key ≡ false

-- a page that is lent may be taken: no request is open, and no command that isn't known to be done touches it
pub record MayTake (d : DriverView) (key : PageKey) : Type 0 where
  pub lent : set.contains d.lent key ≡ true
  pub none_out : NoSlotOut d
  pub none_open : NoneOpen d
  pub untouched : (n : ℕ) → known_done d.acts d.passed d.seen ≤ n → TouchesAt (first_state d) d.acts n key → ⊥

-- the act that the device has in hand: the command that it read, or else the chain that it loaded and hasn't
-- answered
pub data IsInHand (e : DeviceView) : Act → Type 0 where
  read_command : (c : Command) → Spells c e.read → IsInHand e (Do c)
  loaded_chain : e.read ≡ [] → e.wanted.number ≢ e.answered → is_ring_request e.wanted ≡ false
      → IsInHand e (Chain e.wanted.id e.wanted.descriptor)

-- the command in hand is served: no page is held any more, each page that it touches is given back as it
-- leaves it, and its fence is stored, if it is one
pub record IsServed (e : DeviceView) (c : Command) : Type 0 where
  pub read_whole : Spells c e.read
  pub none_held : (key : PageKey) → holds e.noted key ≡ false
  pub given : (key : PageKey) → Touches (known_state e) (Do c) key
      → given_back e.noted key ≡ page_at (step (known_state e) (Do c)).memory key
  pub all_given : (key : PageKey) → Touches (known_state e) (Do c) key → given_back e.noted key ≢ None
  pub fence : (value : ℕ) → c ≡ Fence value → e.stored ≡ true

-- The chain that was loaded is served: no page is held any more, and each page that it touches is given back
-- as it was.
pub record IsChainServed (e : DeviceView) : Type 0 where
  pub waits : e.wanted.number ≢ e.answered
  pub no_ring : is_ring_request e.wanted ≡ false
  pub none_held : (key : PageKey) → holds e.noted key ≡ false
  pub given : (key : PageKey) → Touches (known_state e) (chain_of e.wanted) key
      → given_back e.noted key ≡ page_at (known_state e).memory key
  pub all_given : (key : PageKey) → Touches (known_state e) (chain_of e.wanted) key
      → given_back e.noted key ≢ None

-- the condition of each step of the driver's seat
abbrev pub DriverMay : Event → DriverView → Type 0
DriverMay LoadStop d = Unit {0}
DriverMay (StoreCell word) d = MayStoreCell d × (word < 2 ^ 32)
DriverMay (Commit command) d = MayCommit d command
DriverMay SendMore d = IsFrontOf d.pending (unsent d) × (length d.pending ≡ 1)
DriverMay LoadFence d = Unit {0}
DriverMay (Give key bytes) d = (set.contains d.out key ≡ true) × IsKey d.terms.limits key × IsPage bytes
DriverMay (Take key) d = IsKey d.terms.limits key × MayTake d key
DriverMay (SlotOut key) d = IsKey d.terms.limits key × (set.contains d.lent key ≡ false) × NoSlotOut d
DriverMay (SlotHome key) d = IsKey d.terms.limits key × (set.contains d.out key ≡ true)
DriverMay (StoreReserved value) d = (d.terms.way ≡ Reserve) × (d.pending ≡ [])
DriverMay (StoreRequest id first) d = MayAsk d id first
DriverMay LoadReply d = Unit {0}
DriverMay StoreConfig d = MayStop d
DriverMay event d = ⊥

-- of each step of the device's
abbrev pub DeviceMay : Event → DeviceView → Type 0
DeviceMay LoadNext e = Unit {0}
DeviceMay LoadCell e = (read_count e < e.next) × ((command : Command) → Spells command e.read → ⊥)
DeviceMay (StoreStop command) e = IsServed e command
DeviceMay (StoreFence value) e = Spells (Fence value) e.read
DeviceMay (Hold key act) e = IsKey e.terms.limits key × IsInHand e act × MayHold e act key
    × (holds e.noted key ≡ false) × (e.out ≡ None)
DeviceMay (GiveBack key bytes) e = IsKey e.terms.limits key × (e.out ≡ Some key) × IsPage bytes
DeviceMay (HeldSlotOut key) e = IsKey e.terms.limits key × (holds e.noted key ≡ true) × (e.out ≡ None)
DeviceMay (HeldSlotHome key) e = IsKey e.terms.limits key × (e.out ≡ Some key)
DeviceMay LoadRequest e = Unit {0}
DeviceMay StoreReply e = IsChainServed e
DeviceMay LoadConfig e = Unit {0}
DeviceMay event e = ⊥

-- of a step of the seat that has joined them
abbrev pub JoinedMay : Event → DriverView → Type 0
JoinedMay (TakeJoined key) d = IsKey d.terms.limits key × (set.contains d.lent key ≡ true)
JoinedMay event d = ⊥

-- the seats may be joined: the driver has stopped, and all that was sent then is taken
abbrev pub MayJoin : DeviceView → Type 0
MayJoin e = (e.saw_stopped ≡ true) × (e.drained ≡ true)
    × (e.next_loads.last ≡ word_address e.layout (length e.taken))

-- the condition of a step of such a seat
abbrev pub CanAs : Role → Event → Core → Type 0
CanAs both Split c = c.seats ≡ Opening
CanAs both Join c = (c.seats ≡ Apart) × MayJoin c.device
CanAs both event c = ⊥
CanAs driver event c = (c.seats ≡ Apart) × DriverMay event c.driver
CanAs device event c = (c.seats ≡ Apart) × DeviceMay event c.device
CanAs joined event c = (c.seats ≡ Joined) × JoinedMay event c.driver
CanAs spent event c = ⊥

-- the condition of each step
abbrev pub Can : Event → Core → Type 0
Can event c = CanAs (seat_of event) event c
