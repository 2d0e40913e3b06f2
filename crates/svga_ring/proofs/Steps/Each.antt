-- Each step keeps what is sound, and so does each list of steps.
use Rattle.std.proofs.Common.{List, [], ◌∷◌, rules}
use Rattle.svga_cmd.specs.declared.session.Session.{Session}
use Rattle.svga_ring.proofs.Requests.Asks.{keeps_store_request}
use Rattle.svga_ring.proofs.Steps.Joining.{keeps_join, keeps_split, keeps_store_config, keeps_take_joined}
use Rattle.svga_ring.proofs.Pages.DriverSteps.{keeps_give, keeps_slot_home, keeps_slot_out, keeps_take}
use Rattle.svga_ring.proofs.Pages.DeviceSteps.{keeps_give_back, keeps_held_slot_home, keeps_held_slot_out, keeps_hold}
use Rattle.svga_ring.proofs.Steps.LoadsAndCells.{keeps_load_cell, keeps_load_fence, keeps_load_next, keeps_load_stop, keeps_store_cell, keeps_store_fence}
use Rattle.svga_ring.proofs.Sessions.Opens.{opened}
use Rattle.svga_ring.proofs.Requests.Replies.{keeps_store_reply}
use Rattle.svga_ring.proofs.Requests.Words.{keeps_load_reply, keeps_load_request, keeps_store_reserved}
use Rattle.svga_ring.proofs.Steps.Sends.{keeps_commit, keeps_send_more}
use Rattle.svga_ring.proofs.Steps.Stop.{keeps_stop}
use Rattle.svga_ring.specs.Conditions.{Can}
use Rattle.svga_ring.specs.Core.{Commit, Give, GiveBack, HeldSlotHome, HeldSlotOut, Hold, Join, LoadCell, LoadConfig, LoadFence, LoadNext, LoadReply, LoadRequest, LoadStop, SendMore, SlotHome, SlotOut, Split, StoreCell, StoreConfig, StoreFence, StoreReply, StoreRequest, StoreReserved, StoreStop, Take, TakeJoined}
use Rattle.svga_ring.specs.Core.{Core, Event, after, opening_core}
use Rattle.svga_ring.specs.Lists.{CanAll, after_all}
use Rattle.svga_ring.specs.Sound.{IsSound}

pub keeps_load_config : (k : Session) (c : Core) → IsSound k c → Can LoadConfig c
    → IsSound k (after LoadConfig c)
keeps_load_config k c o can = search rules

pub keeps_event : (k : Session) (event : Event) (c : Core) → IsSound k c → Can event c
    → IsSound k (after event c)
keeps_event k Split c o can = keeps_split k c o can
keeps_event k LoadStop c o can = keeps_load_stop k c o can
keeps_event k (StoreCell word) c o can = keeps_store_cell k c word o can
keeps_event k (Commit command) c o can = keeps_commit k c command o can
keeps_event k SendMore c o can = keeps_send_more k c o can
keeps_event k LoadNext c o can = keeps_load_next k c o can
keeps_event k LoadCell c o can = keeps_load_cell k c o can
keeps_event k (StoreStop command) c o can = keeps_stop k c command o can
keeps_event k LoadFence c o can = keeps_load_fence k c o can
keeps_event k (StoreFence value) c o can = keeps_store_fence k c value o can
keeps_event k (Give key bytes) c o can = keeps_give k c key bytes o can
keeps_event k (Take key) c o can = keeps_take k c key o can
keeps_event k (SlotOut key) c o can = keeps_slot_out k c key o can
keeps_event k (SlotHome key) c o can = keeps_slot_home k c key o can
keeps_event k (Hold key act) c o can = keeps_hold k c key act o can
keeps_event k (GiveBack key bytes) c o can = keeps_give_back k c key bytes o can
keeps_event k (HeldSlotOut key) c o can = keeps_held_slot_out k c key o can
keeps_event k (HeldSlotHome key) c o can = keeps_held_slot_home k c key o can
keeps_event k (StoreReserved value) c o can = keeps_store_reserved k c value o can
keeps_event k (StoreRequest id first) c o can = keeps_store_request k c id first o can
keeps_event k LoadReply c o can = keeps_load_reply k c o can
keeps_event k LoadRequest c o can = keeps_load_request k c o can
keeps_event k StoreReply c o can = keeps_store_reply k c o can
keeps_event k StoreConfig c o can = keeps_store_config k c o can
keeps_event k LoadConfig c o can = keeps_load_config k c o can
keeps_event k Join c o can = keeps_join k c o can
keeps_event k (TakeJoined key) c o can = keeps_take_joined k c key o can

-- a list of steps
pub keeps_all : (k : Session) (events : List Event) (c : Core) → IsSound k c → CanAll events c
    → IsSound k (after_all events c)
keeps_all k [] c o can = o
keeps_all k (event ∷ events) c o can = keeps_all k events (after event c) (keeps_event k event c o can.0)
    can.1

-- from the opening on
pub opening_sound : (k : Session) → IsSound k (opening_core k)
opening_sound k = opened k

pub list_sound : (k : Session) (events : List Event) → CanAll events (opening_core k)
    → IsSound k (after_all events (opening_core k))
list_sound k events can = keeps_all k events (opening_core k) (opening_sound k) can
