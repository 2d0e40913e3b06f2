-- What the two ends of a session know: the driver's view and the device's.
use Rattle.std.specs.Prelude.{ℕ, ◌+◌, ◌-◌, List, [], Bool, false, Option, None}
use Rattle.std.specs.FinMap as map
use Rattle.std.specs.FinMap.{FinMap}
use Rattle.std.specs.FinSet as set
use Rattle.std.specs.FinSet.{FinSet}
use Rattle.svga_cmd.specs.Pages.{key_cmp}
use Rattle.svga_cmd.specs.declared.limits.Limits.{Limits}
use Rattle.svga_cmd.specs.declared.page.PageKey.{PageKey}
use Rattle.svga_cmd.specs.declared.session.Session.{Session}
use Rattle.svga_cmd.specs.declared.session.Way.{Way}
use Rattle.svga_model.specs.Acts.{Act}
use Rattle.svga_model.specs.States.{Kept, opening_kept}
use Rattle.svga_ring.specs.Layouts.{Layout, ring_start}
use Rattle.svga_ring.specs.Requests.{Request, no_request}

-- one seat that knows both views, two seats, or one that has joined them
pub data Seats : Type 0 where
  Opening : Seats
  Apart : Seats
  Joined : Seats

-- what a seat is for: both ends at first, one of them, both again, or nothing any more
pub data Role : Type 0 where
  both : Role
  driver : Role
  device : Role
  joined : Role
  spent : Role

-- the numbers of the session that both ends step by
pub record Terms : Type 0 where
  pub limits : Limits
  pub first : ℕ
  pub way : Way

-- how often a seat loaded a word, and the last value, which is the opening value before the first load
pub record Loads : Type 0 where
  pub count : ℕ
  pub last : ℕ

pub record DriverView : Type 0 where
  pub terms : Terms
  pub layout : Layout
  -- all acts so far: commands that were committed, pages that were given, chains that were asked for
  pub acts : List Act
  -- the words before NEXT_CMD, and those that stand in the ring past it
  pub sent : List ℕ
  pub pending : List ℕ
  -- how many words, and how many commands, are known to be taken by the last load of STOP
  pub stop : ℕ
  pub passed : ℕ
  -- how many fences were seen
  pub seen : ℕ
  -- the pages that aren't with the driver
  pub lent : FinSet key_cmp
  -- the pages whose slots the driver has out
  pub out : FinSet key_cmp
  pub reserved : ℕ
  -- the last request
  pub request : Request
  pub stopped : Bool
  -- how often NEXT_CMD was stored
  pub next_stores : ℕ
  pub stop_loads : Loads
  pub fence_loads : Loads
  pub reply_loads : Loads

-- a page for the act in hand: the bytes with which it was first held, and those with which it is given back,
-- if it is by now
pub record Noted : Type 0 where
  pub first : List ℕ
  pub back : Option (List ℕ)

pub record DeviceView : Type 0 where
  pub terms : Terms
  pub layout : Layout
  -- the words that STOP has passed, those read since, and how many commands were taken
  pub taken : List ℕ
  pub read : List ℕ
  pub done : ℕ
  -- how many words are known to be sent
  pub next : ℕ
  -- what the acts that are done leave, but for pages
  pub kept : Kept
  -- the pages that were held for the act in hand
  pub noted : FinMap key_cmp Noted
  -- the number of the fence in hand is stored
  pub stored : Bool
  -- the page whose slot the device has out
  pub out : Option PageKey
  -- the request that was loaded last, and the number of the last one that was answered
  pub wanted : Request
  pub answered : ℕ
  -- CONFIG_DONE was loaded as 0, and NEXT_CMD was loaded since
  pub saw_stopped : Bool
  pub drained : Bool
  pub next_loads : Loads
  pub request_loads : Loads
  pub config_loads : Loads

-- one load more, which gave this value
abbrev pub loaded : Loads → ℕ → Loads
loaded l value = record { count = l.count + 1; last = value }

abbrev pub no_loads : ℕ → Loads
no_loads value = record { count = 0; last = value }

abbrev pub terms_of : Session → Terms
terms_of k = record { limits = k.limits; first = k.first; way = k.way }

abbrev pub opening_layout : Session → Layout
opening_layout k = record { max = k.ring; base = 0 }

-- the view of a driver that has made no step, by these numbers
abbrev pub new_driver : Terms → Layout → DriverView
new_driver t lay = record {
  terms = t;
  layout = lay;
  acts = [];
  sent = [];
  pending = [];
  stop = 0;
  passed = 0;
  seen = 0;
  lent = set.empty;
  out = set.empty;
  reserved = 0;
  request = no_request;
  stopped = false;
  next_stores = 0;
  stop_loads = no_loads ring_start;
  fence_loads = no_loads (t.first - 1);
  reply_loads = no_loads 0;
}

-- and of such a device
abbrev pub new_device : Terms → Layout → DeviceView
new_device t lay = record {
  terms = t;
  layout = lay;
  taken = [];
  read = [];
  done = 0;
  next = 0;
  kept = opening_kept t.limits t.first;
  noted = map.empty;
  stored = false;
  out = None;
  wanted = no_request;
  answered = 0;
  saw_stopped = false;
  drained = false;
  next_loads = no_loads ring_start;
  request_loads = no_loads 0;
  config_loads = no_loads 1;
}

abbrev pub opening_driver : Session → DriverView
opening_driver k = new_driver (terms_of k) (opening_layout k)

abbrev pub opening_device : Session → DeviceView
opening_device k = new_device (terms_of k) (opening_layout k)
