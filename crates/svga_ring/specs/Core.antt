-- The two ends of a session as one pure machine: the words of the shared table, the pages at home, and both
-- views. Each event is one atomic step of one seat.
use Rattle.std.specs.Prelude.{ℕ, ◌+◌, ◌-◌, ◌==◌, List, [], ◌∷◌, ◌++◌, length, replicate, slice_index, slice_index_or, slice_set, true, false, Option, Some, None, unwrap_or}
use Rattle.std.specs.FinMap as map
use Rattle.std.specs.FinSet as set
use mathlib.Core.Option as maybe
use Rattle.svga_cmd.specs.declared.command.Command.{Command}
use Rattle.svga_cmd.specs.declared.limits.Limits.{Limits}
use Rattle.svga_cmd.specs.declared.page.PageKey.{PageKey}
use Rattle.svga_cmd.specs.declared.session.Session.{Session}
use Rattle.svga_model.specs.Acts.{Act, Do, Put, Chain}
use Rattle.svga_model.specs.Steps.{step}
use Rattle.svga_ring.specs.Committed.{commands, fences_passed}
use Rattle.svga_ring.specs.Layouts.{ring_start, word_address, word_cell}
use Rattle.svga_ring.specs.Noting.{known_state}
use Rattle.svga_ring.specs.Locations.{Home}
use Rattle.svga_ring.specs.Requests.{Request, next_request, request_value}
use Rattle.svga_ring.specs.SharedTable.{config_word, fence_word, next_word, page_count, page_word, reply_word, request_word, reserved_word, slot_number, stop_word, table_length}
use Rattle.svga_ring.specs.SoundWords.{capabilities}
use Rattle.svga_ring.specs.Views.{Apart, DeviceView, DriverView, Joined, Noted, Opening, Role, Seats, both, device, driver, joined, loaded, opening_device, opening_driver}

pub record Core : Type 0 where
  pub seats : Seats
  pub words : List ℕ
  pub homes : List Home
  pub driver : DriverView
  pub device : DeviceView

-- the kinds of steps
pub data Event : Type 0 where
  -- the seats are split
  Split : Event
  -- words: by the driver, and by the device
  LoadStop : Event
  StoreCell : ℕ → Event
  -- NEXT_CMD is stored: the pending words are sent, and with the first of them their command is committed; or
  -- more of its words
  Commit : Command → Event
  SendMore : Event
  LoadNext : Event
  LoadCell : Event
  StoreStop : Command → Event
  -- fences
  LoadFence : Event
  StoreFence : ℕ → Event
  -- pages: the driver gives one with these bytes, takes one, moves an empty slot out or home
  Give : PageKey → List ℕ → Event
  Take : PageKey → Event
  SlotOut : PageKey → Event
  SlotHome : PageKey → Event
  -- the device takes one for an act, gives it back with these bytes, moves an empty slot out or home
  Hold : PageKey → Act → Event
  GiveBack : PageKey → List ℕ → Event
  HeldSlotOut : PageKey → Event
  HeldSlotHome : PageKey → Event
  -- requests: the driver reserves so many bytes, asks for a chain by its region and first page, and loads the
  -- reply; the device loads the request, and answers the chain that it loaded
  StoreReserved : ℕ → Event
  StoreRequest : ℕ → ℕ → Event
  LoadReply : Event
  LoadRequest : Event
  StoreReply : Event
  -- stopping and closing
  StoreConfig : Event
  LoadConfig : Event
  Join : Event
  TakeJoined : PageKey → Event

-- the seat that makes a step of this kind
abbrev pub seat_of : Event → Role
seat_of Split = both
seat_of LoadStop = driver
seat_of (StoreCell word) = driver
seat_of (Commit command) = driver
seat_of SendMore = driver
seat_of LoadNext = device
seat_of LoadCell = device
seat_of (StoreStop command) = device
seat_of LoadFence = driver
seat_of (StoreFence value) = device
seat_of (Give key bytes) = driver
seat_of (Take key) = driver
seat_of (SlotOut key) = driver
seat_of (SlotHome key) = driver
seat_of (Hold key act) = device
seat_of (GiveBack key bytes) = device
seat_of (HeldSlotOut key) = device
seat_of (HeldSlotHome key) = device
seat_of (StoreReserved value) = driver
seat_of (StoreRequest id first) = driver
seat_of LoadReply = driver
seat_of LoadRequest = device
seat_of StoreReply = device
seat_of StoreConfig = driver
seat_of LoadConfig = device
seat_of Join = both
seat_of (TakeJoined key) = joined

-- the table with another value in a word
abbrev pub with_word : Core → ℕ → ℕ → Core
with_word c i value = record c { words = slice_set c.words i value }

-- with another value in a page's word, and its slot so
abbrev pub with_page_word : Limits → Core → PageKey → ℕ → Home → Core
with_page_word l c key value home = record c {
  words = slice_set c.words (page_word l key) value;
  homes = slice_set c.homes (slot_number l key) home;
}

abbrev pub with_driver : Core → DriverView → Core
with_driver c d = record c { driver = d }

abbrev pub with_device : Core → DeviceView → Core
with_device c e = record c { device = e }

-- what lies in a page's slot that is at home, as far as it is a page
abbrev pub bytes_in : Home → List ℕ
bytes_in maybe.none = []
bytes_in (maybe.some slot) = unwrap_or slot []

abbrev pub page_at_home : Limits → List Home → PageKey → List ℕ
page_at_home l homes key = bytes_in (slice_index_or homes (slot_number l key) maybe.none)

-- a page that is held, with these bytes at first if it wasn't noted before
abbrev pub held_with : Option Noted → List ℕ → Noted
held_with None bytes = record { first = bytes; back = None }
held_with (Some n) bytes = record { first = n.first; back = None }

-- a page that is given back with these bytes; only one that is noted is
abbrev pub given_with : Option Noted → List ℕ → Noted
given_with None bytes = record { first = []; back = Some bytes }
given_with (Some n) bytes = record { first = n.first; back = Some bytes }

-- how many words the driver has put into the ring, and how many the device has read from it
abbrev pub put_count : DriverView → ℕ
put_count d = length d.sent + length d.pending

abbrev pub read_count : DeviceView → ℕ
read_count e = length e.taken + length e.read

-- the view once STOP, or the join, tells that so many words and commands are taken
abbrev pub knowing_taken : DriverView → DeviceView → DriverView
knowing_taken d e = record d { stop = length e.taken; passed = e.done }

-- the chain that a request asks for
abbrev pub chain_of : Request → Act
chain_of r = Chain r.id r.descriptor

-- what an event leaves
abbrev pub after : Event → Core → Core
after Split c = record c { seats = Apart }
after LoadStop c = with_driver c (record (knowing_taken c.driver c.device)
    { stop_loads = loaded c.driver.stop_loads (slice_index c.words stop_word) })
after (StoreCell word) c = with_driver (with_word c (word_cell c.driver.layout (put_count c.driver)) word)
    (record c.driver { pending = c.driver.pending ++ word ∷ [] })
after (Commit command) c = with_driver (with_word c next_word
    (word_address c.driver.layout (put_count c.driver)))
    (record c.driver {
      acts = c.driver.acts ++ Do command ∷ [];
      sent = c.driver.sent ++ c.driver.pending;
      pending = [];
      next_stores = c.driver.next_stores + 1;
    })
after SendMore c = with_driver (with_word c next_word (word_address c.driver.layout (put_count c.driver)))
    (record c.driver {
      sent = c.driver.sent ++ c.driver.pending;
      pending = [];
      next_stores = c.driver.next_stores + 1;
    })
after LoadNext c = with_device c (record c.device {
  next = length c.driver.sent;
  next_loads = loaded c.device.next_loads (slice_index c.words next_word);
  drained = c.device.saw_stopped;
})
after LoadCell c = with_device c (record c.device
    { read = c.device.read ++ slice_index c.words (word_cell c.device.layout (read_count c.device)) ∷ [] })
after (StoreStop command) c = with_device
    (with_word c stop_word (word_address c.device.layout (read_count c.device)))
    (record c.device {
      taken = c.device.taken ++ c.device.read;
      read = [];
      done = c.device.done + 1;
      kept = (step (known_state c.device) (Do command)).kept;
      noted = map.empty;
      stored = false;
    })
after LoadFence c = with_driver c (record c.driver {
  seen = fences_passed (commands c.driver.acts) c.device.done c.device.stored;
  fence_loads = loaded c.driver.fence_loads (slice_index c.words fence_word);
})
after (StoreFence value) c = with_device (with_word c fence_word value) (record c.device { stored = true })
after (Give key bytes) c = with_driver (with_page_word c.driver.terms.limits c key 1
    (maybe.some (Some bytes)))
    (record c.driver {
      acts = c.driver.acts ++ Put key bytes ∷ [];
      lent = set.insert c.driver.lent key;
      out = set.remove c.driver.out key;
    })
after (Take key) c = with_driver (with_page_word c.driver.terms.limits c key 3 maybe.none)
    (record c.driver { lent = set.remove c.driver.lent key; out = set.insert c.driver.out key })
after (SlotOut key) c = with_driver (with_page_word c.driver.terms.limits c key 3 maybe.none)
    (record c.driver { out = set.insert c.driver.out key })
after (SlotHome key) c = with_driver (with_page_word c.driver.terms.limits c key 0 (maybe.some None))
    (record c.driver { out = set.remove c.driver.out key })
after (Hold key act) c = with_device (with_page_word c.device.terms.limits c key 4 maybe.none)
    (record c.device {
      noted = map.insert c.device.noted key (held_with (map.get c.device.noted key)
          (page_at_home c.device.terms.limits c.homes key));
      out = Some key;
    })
after (GiveBack key bytes) c = with_device
    (with_page_word c.device.terms.limits c key 1 (maybe.some (Some bytes))) (record c.device {
      noted = map.insert c.device.noted key (given_with (map.get c.device.noted key) bytes);
      out = None;
    })
after (HeldSlotOut key) c = with_device (with_page_word c.device.terms.limits c key 4 maybe.none)
    (record c.device { out = Some key })
after (HeldSlotHome key) c = with_device (with_page_word c.device.terms.limits c key 2 (maybe.some None))
    (record c.device { out = None })
after (StoreReserved value) c = with_driver (with_word c reserved_word value)
    (record c.driver { reserved = value })
after (StoreRequest id first) c = with_driver
    (with_word c request_word (request_value (next_request c.driver.request id first)))
    (record c.driver {
      acts = c.driver.acts ++ Chain id first ∷ [];
      request = next_request c.driver.request id first;
    })
after LoadReply c = with_driver c (record c.driver
    { reply_loads = loaded c.driver.reply_loads (slice_index c.words reply_word) })
after LoadRequest c = with_device c (record c.device {
  wanted = c.driver.request;
  request_loads = loaded c.device.request_loads
      (slice_index c.words request_word);
})
after StoreReply c = with_device (with_word c reply_word c.device.wanted.number) (record c.device {
  kept = (step (known_state c.device) (chain_of c.device.wanted)).kept;
  noted = map.empty;
  answered = c.device.wanted.number;
})
after StoreConfig c = with_driver (with_word c config_word 0) (record c.driver { stopped = true })
after LoadConfig c = with_device c (record c.device {
  saw_stopped = slice_index c.words config_word == 0;
  drained = false;
  config_loads = loaded c.device.config_loads (slice_index c.words config_word);
})
after Join c = with_driver (record c { seats = Joined }) (knowing_taken c.driver c.device)
after (TakeJoined key) c = with_driver (with_page_word c.driver.terms.limits c key 3 maybe.none)
    (record c.driver { lent = set.remove c.driver.lent key; out = set.insert c.driver.out key })

-- the words of a new table: MIN, MAX, NEXT_CMD, STOP, CAPABILITIES, FLAGS and FENCE, CONFIG_DONE, and 0 for
-- all others
abbrev pub opening_words : Session → List ℕ
opening_words k =
    (ring_start ∷ k.ring ∷ ring_start ∷ ring_start ∷ capabilities k.way ∷ 0 ∷ (k.first - 1)
    ∷ replicate (config_word - 7) 0)
    ++ 1 ∷ replicate (table_length k.limits - config_word - 1) 0

abbrev pub opening_core : Session → Core
opening_core k = record {
  seats = Opening;
  words = opening_words k;
  homes = replicate (page_count k.limits) (maybe.some None);
  driver = opening_driver k;
  device = opening_device k;
}
