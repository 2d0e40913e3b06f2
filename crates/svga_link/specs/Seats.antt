-- What the crate's own calls see of a seat at the shared table, and what such a seat keeps.
use Rattle.std.specs.Prelude.{◌≡◌, ℕ, List, ◌∷◌, Some, None}
use Rattle.atomic_table.specs.Seated.{TableId}
use Rattle.atomic_table.specs.Table.{Me, rest}
use Rattle.svga_cmd.specs.declared.page.PageKey.{PageKey}
use Rattle.svga_cmd.specs.declared.session.Session.{Session}
use Rattle.svga_ring.specs.Core.{Core, read_count}
use Rattle.svga_ring.specs.Layouts.{word_address}
use Rattle.svga_ring.specs.Locations.{Slot}
use Rattle.svga_ring.specs.RingPieces.{next_offset}
use Rattle.svga_ring.specs.SharedTable.{page_count, slot_number, table_length}
use Rattle.svga_ring.specs.Sound.{IsSound}
use Rattle.svga_ring.specs.TableRule.{View}
use Rattle.svga_ring.specs.Views.{Apart, DeviceView, DriverView, device, driver, opening_layout, terms_of}

-- a seat of the driver: its table, its view, and the slots that it has out, with what lies in them
pub record SeenDriverSeat : Type 0 where
  pub table : TableId
  pub view : DriverView
  pub carried : List (ℕ × Slot)

-- one of the device
pub record SeenDeviceSeat : Type 0 where
  pub table : TableId
  pub view : DeviceView
  pub carried : List (ℕ × Slot)

-- the seat of the device with a page's slot out, in which this lies; and with that slot at home again
abbrev pub with_slot_out : SeenDeviceSeat → PageKey → Slot → SeenDeviceSeat
with_slot_out s key lies = record s {
  view = record s.view { out = Some key };
  carried = (slot_number s.view.terms.limits key, lies) ∷ s.carried;
}

abbrev pub with_slot_home : SeenDeviceSeat → SeenDeviceSeat
with_slot_home s = record s { view = record s.view { out = None }; carried = rest s.carried }

-- the seat's table is the one that is shared, and is as long as its session wants
pub record IsTableOf (shared : TableId) (key session : Session) (own : TableId) : Type 0 where
  pub one_table : own ≡ shared
  pub key_is : key ≡ session
  pub words : shared.words ≡ table_length session.limits
  pub slots : shared.slots ≡ page_count session.limits

-- Some core that is sound has this view. So all that is sound holds of it, whatever the other seat does.
pub record IsDriverPossible (d : DriverView) : Type 0 where
  pub key : Session
  pub core : Core
  pub sound : IsSound key core
  pub apart : core.seats ≡ Apart
  pub view_is : core.driver ≡ d

pub record IsDevicePossible (e : DeviceView) : Type 0 where
  pub key : Session
  pub core : Core
  pub sound : IsSound key core
  pub apart : core.seats ≡ Apart
  pub view_is : core.device ≡ e

-- the driver's seat keeps the offset at which it writes next, and the number of its last request
pub record IsDriverSeat (session : Session) (me : Me Slot View) (next request : ℕ) : Type 0 where
  pub role : me.0.role ≡ driver
  pub terms : me.0.of_driver.terms ≡ terms_of session
  pub layout : me.0.of_driver.layout ≡ opening_layout session
  pub next_is : next ≡ next_offset me.0.of_driver
  pub request_is : request ≡ me.0.of_driver.request.number
  pub possible : IsDriverPossible me.0.of_driver

-- the device's seat keeps the NEXT_CMD that it loaded last, and the offset at which it reads next
pub record IsDeviceSeat (session : Session) (me : Me Slot View) (next at : ℕ) : Type 0 where
  pub role : me.0.role ≡ device
  pub terms : me.0.of_device.terms ≡ terms_of session
  pub layout : me.0.of_device.layout ≡ opening_layout session
  pub next_is : next ≡ word_address me.0.of_device.layout me.0.of_device.next
  pub at_is : at ≡ word_address me.0.of_device.layout (read_count me.0.of_device)
  pub possible : IsDevicePossible me.0.of_device
