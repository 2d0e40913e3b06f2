-- A step of the device's seat: that the table allows it, and what it leaves.
use Rattle.std.proofs.Common.{◌≡◌, ℕ, sym, ap, ◌∙◌}
use Rattle.atomic_table.specs.Table.{Allows, Me}
use Rattle.svga_cmd.specs.Spelling.{Spells}
use Rattle.svga_cmd.specs.declared.command.Command.{Command}
use Rattle.svga_cmd.specs.declared.session.Session.{Session}
use Rattle.svga_ring.proofs.Table.SeatSteps.{device_step, retold}
use Rattle.svga_ring.specs.Conditions.{DeviceMay, IsServed}
use Rattle.svga_ring.specs.Core.{Core, Event, StoreStop, after, read_count}
use Rattle.svga_ring.specs.Layouts.{word_address}
use Rattle.svga_ring.specs.Locations.{Slot}
use Rattle.svga_ring.specs.SharedTable.{stop_word}
use Rattle.svga_ring.specs.TableRule.{IsSoundTable, View}
use Rattle.svga_ring.specs.TableSteps.{DeviceBrings, DeviceLearns, device_value, device_word}
use Rattle.svga_ring.specs.Views.{DeviceView, device}
use Rattle.svga_link.specs.Plays.{DeviceLoads, DeviceStores}
use Rattle.svga_link.specs.Seats.{IsDeviceSeat}

-- a store of this value to this word, with which it tells what the step does
pub device_stores_as : (k : Session) (slots id : ℕ) (me : Me Slot View) (event : Event) (word value : ℕ)
    (told : Me Slot View → Type 0) → me.0.role ≡ device → DeviceMay event me.0.of_device
    → DeviceBrings event me.0.of_device me.1 → word ≡ device_word event me.0.of_device
    → ((n : ℕ) → value ≡ device_value event me.0.of_device n)
    → ((left : Me Slot View) → DeviceStores event me left → told left)
    → Allows (IsSoundTable k) slots id me word (λ _. value) (λ _. told)
device_stores_as k slots id me event word value told is may brings at stores says =
    retold k slots id me word (device_word event me.0.of_device) (λ _. value) (device_value event me.0.of_device)
    (DeviceLearns k me event) (λ _. told) at (λ i n. stores n i) (λ found left learns. says left (k, found, learns))
    (device_step k slots id me event is may brings)

pub device_stores : (k : Session) (slots id : ℕ) (me : Me Slot View) (event : Event) (word value : ℕ)
    → me.0.role ≡ device → DeviceMay event me.0.of_device → DeviceBrings event me.0.of_device me.1
    → word ≡ device_word event me.0.of_device → ((n : ℕ) → value ≡ device_value event me.0.of_device n)
    → Allows (IsSoundTable k) slots id me word (λ _. value) (λ _. DeviceStores event me)
device_stores k slots id me event word value is may brings at stores =
    device_stores_as k slots id me event word value (DeviceStores event me) is may brings at stores (λ left told. told)

-- a load of this word
pub device_loads : (k : Session) (slots id : ℕ) (me : Me Slot View) (event : Event) (word : ℕ)
    → me.0.role ≡ device → DeviceMay event me.0.of_device → DeviceBrings event me.0.of_device me.1
    → word ≡ device_word event me.0.of_device → ((n : ℕ) → n ≡ device_value event me.0.of_device n)
    → Allows (IsSoundTable k) slots id me word (λ n. n) (DeviceLoads event me)
device_loads k slots id me event word is may brings at loads =
    retold k slots id me word (device_word event me.0.of_device) (λ n. n) (device_value event me.0.of_device)
    (DeviceLearns k me event) (DeviceLoads event me) at (λ i n. loads n i) (λ found left learns. (k, learns))
    (device_step k slots id me event is may brings)

-- the view that it leaves
pub device_view : (k : Session) (me left : Me Slot View) (event : Event) (found : ℕ)
    (becomes : DeviceView → DeviceView) → DeviceLearns k me event found left
    → ((c : Core) → (after event c).device ≡ becomes c.device) → left.0.of_device ≡ becomes me.0.of_device
device_view k me left event found becomes told makes =
    ap (λ m. m.0.of_device) told.left_is ∙ makes told.core ∙ ap becomes told.view_is

-- and what the seat keeps
pub device_kept : (k session : Session) (me left : Me Slot View) (event : Event) (found next at next' at' : ℕ)
    → IsDeviceSeat session me next at → DeviceLearns k me event found left
    → ((c : Core) → (after event c).seats ≡ c.seats)
    → ((c : Core) → (after event c).device.terms ≡ c.device.terms)
    → ((c : Core) → (after event c).device.layout ≡ c.device.layout)
    → next' ≡ word_address left.0.of_device.layout left.0.of_device.next
    → at' ≡ word_address left.0.of_device.layout (read_count left.0.of_device)
    → IsDeviceSeat session left next' at'
device_kept k session me left event found next at next' at' is told seats terms layout next_is at_is = record {
  role = ap (λ m. m.0.role) told.left_is ∙ is.role;
  terms = ap (λ m. m.0.of_device.terms) told.left_is ∙ terms told.core ∙ ap (λ e. e.terms) told.view_is ∙ is.terms;
  layout = ap (λ m. m.0.of_device.layout) told.left_is ∙ layout told.core ∙ ap (λ e. e.layout) told.view_is ∙ is.layout;
  next_is = next_is;
  at_is = at_is;
  possible = record {
    key = k;
    core = after event told.core;
    sound = told.made.sound_after;
    apart = seats told.core ∙ told.made.seats_are;
    view_is = sym (ap (λ m. m.0.of_device) told.left_is);
  };
}

-- a store of STOP behind the command that was read
pub device_takes : (k : Session) (slots id : ℕ) (me : Me Slot View) (word value : ℕ) (own : Command)
    → me.0.role ≡ device → IsServed me.0.of_device own → word ≡ stop_word
    → value ≡ word_address me.0.of_device.layout (read_count me.0.of_device)
    → Allows (IsSoundTable k) slots id me word (λ _. value)
    (λ _ left. (command : Command) × Spells command me.0.of_device.read × DeviceStores (StoreStop command) me left)
device_takes k slots id me word value own is may at here =
    device_stores_as k slots id me (StoreStop own) word value
    (λ left. (command : Command) × Spells command me.0.of_device.read × DeviceStores (StoreStop command) me left) is may
    tt at (λ n. here) (λ left told. (own, may.read_whole, told))
