-- What each step of a seat is at the shared table, said of the seat's own view: the word that it loads or
-- stores, what it makes of that word, and the move of a slot. And what it tells.
use Rattle.std.specs.Prelude.{◌≡◌, ℕ, List, ◌∷◌, slice_index, Some, None}
use Rattle.atomic_table.specs.Table.{Act, Me, carried_after, gives, keeps, takes}
use Rattle.svga_cmd.specs.declared.page.PageKey.{PageKey}
use Rattle.svga_cmd.specs.declared.session.Session.{Session}
use Rattle.svga_model.specs.Memories.{page_bytes}
use Rattle.svga_model.specs.Runs.{run}
use Rattle.svga_ring.specs.Conditions.{Can, first_state}
use Rattle.svga_ring.specs.Core.{Commit, Core, Event, Give, GiveBack, HeldSlotHome, HeldSlotOut, Hold, LoadCell, LoadConfig, LoadFence, LoadNext, LoadReply, LoadRequest, LoadStop, SendMore, SlotHome, SlotOut, StoreCell, StoreConfig, StoreFence, StoreReply, StoreRequest, StoreReserved, StoreStop, Take, TakeJoined, after, page_at_home, put_count, read_count}
use Rattle.svga_ring.specs.Layouts.{word_address, word_cell}
use Rattle.svga_ring.specs.Locations.{Home, Slot}
use Rattle.svga_ring.specs.Requests.{next_request, request_value}
use Rattle.svga_ring.specs.SharedTable.{config_word, fence_word, min_word, next_word, page_word, reply_word, request_word, reserved_word, slot_number, stop_word}
use Rattle.svga_ring.specs.Sound.{IsSound}
use Rattle.svga_ring.specs.TableRule.{View}
use Rattle.svga_ring.specs.Views.{Apart, DeviceView, DriverView, Joined, Seats}

-- the word of a step of the driver's seat, or of the one that has joined both
abbrev pub driver_word : Event → DriverView → ℕ
driver_word LoadStop d = stop_word
driver_word (StoreCell word) d = word_cell d.layout (put_count d)
driver_word (Commit command) d = next_word
driver_word SendMore d = next_word
driver_word LoadFence d = fence_word
driver_word (Give key bytes) d = page_word d.terms.limits key
driver_word (Take key) d = page_word d.terms.limits key
driver_word (SlotOut key) d = page_word d.terms.limits key
driver_word (SlotHome key) d = page_word d.terms.limits key
driver_word (StoreReserved value) d = reserved_word
driver_word (StoreRequest id first) d = request_word
driver_word LoadReply d = reply_word
driver_word StoreConfig d = config_word
driver_word (TakeJoined key) d = page_word d.terms.limits key
driver_word event d = min_word

-- what it makes of it: a load leaves it
abbrev pub driver_value : Event → DriverView → ℕ → ℕ
driver_value (StoreCell word) d n = word
driver_value (Commit command) d n = word_address d.layout (put_count d)
driver_value SendMore d n = word_address d.layout (put_count d)
driver_value (Give key bytes) d n = 1
driver_value (Take key) d n = 3
driver_value (SlotOut key) d n = 3
driver_value (SlotHome key) d n = 0
driver_value (StoreReserved value) d n = value
driver_value (StoreRequest id first) d n = request_value (next_request d.request id first)
driver_value StoreConfig d n = 0
driver_value (TakeJoined key) d n = 3
driver_value event d n = n

-- the page that running all acts leaves
abbrev pub page_left : DriverView → PageKey → List ℕ
page_left d key = page_bytes (run (first_state d) d.acts).memory key

-- the move of a slot: one that is taken out is empty, or has the page that is taken
abbrev pub driver_move : Event → DriverView → Act Slot
driver_move (Give key bytes) d = gives
driver_move (Take key) d = takes (slot_number d.terms.limits key) (Some (page_left d key))
driver_move (SlotOut key) d = takes (slot_number d.terms.limits key) None
driver_move (SlotHome key) d = gives
driver_move (TakeJoined key) d = takes (slot_number d.terms.limits key) (Some (page_left d key))
driver_move event d = keeps

-- the slot that a seat took out last, with this in it
abbrev pub Brings : ℕ → Slot → List (ℕ × Slot) → Type 0
Brings slot lies carried = (others : List (ℕ × Slot)) × (carried ≡ (slot, lies) ∷ others)

-- a step that brings a slot home brings its page's, with the page or empty
abbrev pub DriverBrings : Event → DriverView → List (ℕ × Slot) → Type 0
DriverBrings (Give key bytes) d carried = Brings (slot_number d.terms.limits key) (Some bytes) carried
DriverBrings (SlotHome key) d carried = Brings (slot_number d.terms.limits key) None carried
DriverBrings event d carried = Unit {0}

-- the same of the device's seat
abbrev pub device_word : Event → DeviceView → ℕ
device_word LoadNext e = next_word
device_word LoadCell e = word_cell e.layout (read_count e)
device_word (StoreStop command) e = stop_word
device_word (StoreFence value) e = fence_word
device_word (Hold key act) e = page_word e.terms.limits key
device_word (GiveBack key bytes) e = page_word e.terms.limits key
device_word (HeldSlotOut key) e = page_word e.terms.limits key
device_word (HeldSlotHome key) e = page_word e.terms.limits key
device_word LoadRequest e = request_word
device_word StoreReply e = reply_word
device_word LoadConfig e = config_word
device_word event e = min_word

abbrev pub device_value : Event → DeviceView → ℕ → ℕ
device_value (StoreStop command) e n = word_address e.layout (read_count e)
device_value (StoreFence value) e n = value
device_value (Hold key act) e n = 4
device_value (GiveBack key bytes) e n = 1
device_value (HeldSlotOut key) e n = 4
device_value (HeldSlotHome key) e n = 2
device_value StoreReply e n = e.wanted.number
device_value event e n = n

-- a page that is held is the one that lay at home
abbrev pub device_move : Event → DeviceView → List Home → Act Slot
device_move (Hold key act) e homes = takes (slot_number e.terms.limits key)
    (Some (page_at_home e.terms.limits homes key))
device_move (GiveBack key bytes) e homes = gives
device_move (HeldSlotOut key) e homes = takes (slot_number e.terms.limits key) None
device_move (HeldSlotHome key) e homes = gives
device_move event e homes = keeps

abbrev pub DeviceBrings : Event → DeviceView → List (ℕ × Slot) → Type 0
DeviceBrings (GiveBack key bytes) e carried = Brings (slot_number e.terms.limits key) (Some bytes) carried
DeviceBrings (HeldSlotHome key) e carried = Brings (slot_number e.terms.limits key) None carried
DeviceBrings event e carried = Unit {0}

-- A step was made of a sound core with these seats, and left a sound one; the word that it found was the
-- core's.
pub record IsMade (k : Session) (c : Core) (seats : Seats) (event : Event) (word found : ℕ) : Type 0 where
  pub sound : IsSound k c
  pub seats_are : c.seats ≡ seats
  pub can : Can event c
  pub found_is : found ≡ slice_index c.words word
  pub sound_after : IsSound k (after event c)

-- What a step tells its seat: it was made of some sound core with the seat's view, and left the view and the
-- slots so.
pub record DriverLearns (k : Session) (me : Me Slot View) (event : Event) (found : ℕ) (left : Me Slot View) :
    Type 0 where
  pub core : Core
  pub made : IsMade k core Apart event (driver_word event me.0.of_driver) found
  pub view_is : core.driver ≡ me.0.of_driver
  pub left_is : let view : View = record me.0 { of_driver = (after event core).driver } in
      left ≡ (view, carried_after me.1 (driver_move event me.0.of_driver))

pub record DeviceLearns (k : Session) (me : Me Slot View) (event : Event) (found : ℕ) (left : Me Slot View) :
    Type 0 where
  pub core : Core
  pub made : IsMade k core Apart event (device_word event me.0.of_device) found
  pub view_is : core.device ≡ me.0.of_device
  pub left_is : let view : View = record me.0 { of_device = (after event core).device } in
      left ≡ (view, carried_after me.1 (device_move event me.0.of_device core.homes))

pub record JoinedLearns (k : Session) (me : Me Slot View) (event : Event) (found : ℕ) (left : Me Slot View) :
    Type 0 where
  pub core : Core
  pub made : IsMade k core Joined event (driver_word event me.0.of_driver) found
  pub view_is : core.driver ≡ me.0.of_driver
  pub device_is : core.device ≡ me.0.of_device
  pub left_is : let view : View = record me.0 { of_driver = (after event core).driver } in
      left ≡ (view, carried_after me.1 (driver_move event me.0.of_driver))

-- what the joined seat learns that only looks at a word
pub record JoinedLooks (k : Session) (me : Me Slot View) (word found : ℕ) (left : Me Slot View) : Type 0 where
  pub core : Core
  pub sound : IsSound k core
  pub seats_are : core.seats ≡ Joined
  pub view_is : core.driver ≡ me.0.of_driver
  pub device_is : core.device ≡ me.0.of_device
  pub found_is : found ≡ slice_index core.words word
  pub left_is : left ≡ me
