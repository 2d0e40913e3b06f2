-- Each step of a seat is one that a shared table allows.
use Rattle.std.proofs.Common.{◌≡◌, ℕ, List, slice_index, slice_set, refl, sym, ap, subst, ◌∙◌}
use lib.Seq.{set-get_or}
use mathlib.Core.Option as maybe
use Rattle.atomic_table.specs.Table.{Act, Allows, Me, Valid, homes_after, keeps, put_back}
use Rattle.svga_cmd.specs.declared.session.Session.{Session}
use Rattle.svga_ring.proofs.Steps.Joining.{joined_page_known}
use Rattle.svga_ring.proofs.Pages.DriverSteps.{slot_empty_known, taken_known}
use Rattle.svga_ring.proofs.Pages.DeviceSteps.{held_slot_empty_known, hold_finds_known}
use Rattle.svga_ring.proofs.Table.Rule.{device_allows, driver_allows, joined_allows, joined_looks}
use Rattle.svga_ring.specs.Conditions.{Can, DeviceMay, DriverMay, JoinedMay}
use Rattle.svga_ring.specs.Core.{Commit, Core, Event, Give, GiveBack, HeldSlotHome, HeldSlotOut, Hold, LoadCell, LoadConfig, LoadFence, LoadNext, LoadReply, LoadRequest, LoadStop, SendMore, SlotHome, SlotOut, StoreCell, StoreConfig, StoreFence, StoreReply, StoreRequest, StoreReserved, StoreStop, Take, TakeJoined, after}
use Rattle.svga_ring.specs.Locations.{Slot}
use Rattle.svga_ring.specs.Sound.{IsSound}
use Rattle.svga_ring.specs.TableRule.{IsSoundTable, IsStepOf, View}
use Rattle.svga_ring.specs.TableSteps.{Brings, DeviceBrings, DeviceLearns, DriverBrings, DriverLearns, JoinedLearns, JoinedLooks, device_move, device_value, device_word, driver_move, driver_value, driver_word}
use Rattle.svga_ring.specs.Views.{Apart, Joined, device, driver, joined}

-- A load leaves words and slots as they are,
pub load_is : (c : Core) (me : Me Slot View) (word : ℕ) (event : Event) → Can event c
    → (after event c).seats ≡ c.seats → (after event c).words ≡ c.words → (after event c).homes ≡ c.homes
    → IsStepOf c me word (λ n. n) event keeps
load_is c me word event can seats words homes = record {
  can = can;
  valid = tt;
  seats_stay = seats;
  words_are = words ∙ sym (set-get_or c.words word 0);
  homes_are = homes;
}

-- a store puts its value into one word,
pub store_is : (c : Core) (me : Me Slot View) (word value : ℕ) (event : Event) → Can event c
    → (after event c).seats ≡ c.seats → (after event c).words ≡ slice_set c.words word value
    → (after event c).homes ≡ c.homes
    → IsStepOf c me word (λ _. value) event keeps
store_is c me word value event can seats words homes =
    record { can = can; valid = tt; seats_stay = seats; words_are = words; homes_are = homes }

-- and one on a page's word also moves its slot.
pub move_is : (c : Core) (me : Me Slot View) (word value : ℕ) (event : Event) (act : Act Slot) → Can event c
    → Valid c.homes me.1 act → (after event c).seats ≡ c.seats
    → (after event c).words ≡ slice_set c.words word value
    → (after event c).homes ≡ homes_after c.homes me.1 act
    → IsStepOf c me word (λ _. value) event act
move_is c me word value event act can valid seats words homes =
    record { can = can; valid = valid; seats_stay = seats; words_are = words; homes_are = homes }

-- the slot that is brought home
brought : (c : Core) (slot : ℕ) (lies : Slot) (carried : List (ℕ × Slot)) → Brings slot lies carried
    → slice_set c.homes slot (maybe.some lies) ≡ put_back c.homes carried
brought c slot lies carried brings = ap (put_back c.homes) (sym brings.1)

-- A step of the driver,
driver_is : (k : Session) (c : Core) (me : Me Slot View) (event : Event) → IsSound k c → c.seats ≡ Apart
    → DriverMay event c.driver → DriverBrings event c.driver me.1
    → IsStepOf c me (driver_word event c.driver) (driver_value event c.driver) event
    (driver_move event c.driver)
driver_is k c me LoadStop o seats may brings = load_is c me _ LoadStop (seats, may) refl refl refl
driver_is k c me (StoreCell word) o seats may brings =
    store_is c me _ _ (StoreCell word) (seats, may) refl refl refl
driver_is k c me (Commit command) o seats may brings =
    store_is c me _ _ (Commit command) (seats, may) refl refl refl
driver_is k c me SendMore o seats may brings = store_is c me _ _ SendMore (seats, may) refl refl refl
driver_is k c me LoadFence o seats may brings = load_is c me _ LoadFence (seats, may) refl refl refl
driver_is k c me (Give key bytes) o seats may brings =
    move_is c me _ 1 (Give key bytes) _ (seats, may) tt refl refl (brought c _ _ me.1 brings)
driver_is k c me (Take key) o seats may brings =
    move_is c me _ 3 (Take key) _ (seats, may) (taken_known k c key o (seats, may)) refl refl refl
driver_is k c me (SlotOut key) o seats may brings =
    move_is c me _ 3 (SlotOut key) _ (seats, may) (slot_empty_known k c key o (seats, may)) refl refl refl
driver_is k c me (SlotHome key) o seats may brings =
    move_is c me _ 0 (SlotHome key) _ (seats, may) tt refl refl (brought c _ _ me.1 brings)
driver_is k c me (StoreReserved value) o seats may brings =
    store_is c me _ _ (StoreReserved value) (seats, may) refl refl refl
driver_is k c me (StoreRequest id first) o seats may brings =
    store_is c me _ _ (StoreRequest id first) (seats, may) refl refl refl
driver_is k c me LoadReply o seats may brings = load_is c me _ LoadReply (seats, may) refl refl refl
driver_is k c me StoreConfig o seats may brings = store_is c me _ _ StoreConfig (seats, may) refl refl refl
driver_is k c me event o seats may brings = absurd may

-- leaves the device's view.
driver_alone : (event : Event) (c : Core) → DriverMay event c.driver → (after event c).device ≡ c.device
driver_alone LoadStop c may = refl
driver_alone (StoreCell word) c may = refl
driver_alone (Commit command) c may = refl
driver_alone SendMore c may = refl
driver_alone LoadFence c may = refl
driver_alone (Give key bytes) c may = refl
driver_alone (Take key) c may = refl
driver_alone (SlotOut key) c may = refl
driver_alone (SlotHome key) c may = refl
driver_alone (StoreReserved value) c may = refl
driver_alone (StoreRequest id first) c may = refl
driver_alone LoadReply c may = refl
driver_alone StoreConfig c may = refl
driver_alone event c may = absurd may

pub driver_step : (k : Session) (slots id : ℕ) (me : Me Slot View) (event : Event) → me.0.role ≡ driver
    → DriverMay event me.0.of_driver → DriverBrings event me.0.of_driver me.1
    → Allows (IsSoundTable k) slots id me (driver_word event me.0.of_driver)
    (driver_value event me.0.of_driver)
    (DriverLearns k me event)
driver_step k slots id me event is may brings =
    driver_allows k slots id me (driver_word event me.0.of_driver) (driver_value event me.0.of_driver)
    (DriverLearns k me event) is (λ c sound seats view.
    let may_here = subst (DriverMay event) (sym view) may in
    let brings_here = subst (λ d. DriverBrings event d me.1) (sym view) brings in
    let step = subst (λ d. IsStepOf c me (driver_word event d) (driver_value event d) event
    (driver_move event d)) view
    (driver_is k c me event sound seats may_here brings_here) in (
      event,
      driver_move event me.0.of_driver,
      step,
      driver_alone event c may_here,
      λ left. record {
        core = c;
        made = record {
          sound = sound;
          seats_are = seats;
          can = step.can;
          found_is = refl;
          sound_after = left;
        };
        view_is = view;
        left_is = refl;
      },
    ))

-- A step of the device,
device_is : (k : Session) (c : Core) (me : Me Slot View) (event : Event) → IsSound k c → c.seats ≡ Apart
    → DeviceMay event c.device → DeviceBrings event c.device me.1
    → IsStepOf c me (device_word event c.device) (device_value event c.device) event
    (device_move event c.device c.homes)
device_is k c me LoadNext o seats may brings = load_is c me _ LoadNext (seats, may) refl refl refl
device_is k c me LoadCell o seats may brings = load_is c me _ LoadCell (seats, may) refl refl refl
device_is k c me (StoreStop command) o seats may brings =
    store_is c me _ _ (StoreStop command) (seats, may) refl refl refl
device_is k c me (StoreFence value) o seats may brings =
    store_is c me _ _ (StoreFence value) (seats, may) refl refl refl
device_is k c me (Hold key act) o seats may brings =
    move_is c me _ 4 (Hold key act) _ (seats, may) (hold_finds_known k c key act o (seats, may)) refl refl
    refl
device_is k c me (GiveBack key bytes) o seats may brings =
    move_is c me _ 1 (GiveBack key bytes) _ (seats, may) tt refl refl (brought c _ _ me.1 brings)
device_is k c me (HeldSlotOut key) o seats may brings =
    move_is c me _ 4 (HeldSlotOut key) _ (seats, may) (held_slot_empty_known k c key o (seats, may)) refl
    refl refl
device_is k c me (HeldSlotHome key) o seats may brings =
    move_is c me _ 2 (HeldSlotHome key) _ (seats, may) tt refl refl (brought c _ _ me.1 brings)
device_is k c me LoadRequest o seats may brings = load_is c me _ LoadRequest (seats, may) refl refl refl
device_is k c me StoreReply o seats may brings = store_is c me _ _ StoreReply (seats, may) refl refl refl
device_is k c me LoadConfig o seats may brings = load_is c me _ LoadConfig (seats, may) refl refl refl
device_is k c me event o seats may brings = absurd may

-- leaves the driver's view.
device_alone : (event : Event) (c : Core) → DeviceMay event c.device → (after event c).driver ≡ c.driver
device_alone LoadNext c may = refl
device_alone LoadCell c may = refl
device_alone (StoreStop command) c may = refl
device_alone (StoreFence value) c may = refl
device_alone (Hold key act) c may = refl
device_alone (GiveBack key bytes) c may = refl
device_alone (HeldSlotOut key) c may = refl
device_alone (HeldSlotHome key) c may = refl
device_alone LoadRequest c may = refl
device_alone StoreReply c may = refl
device_alone LoadConfig c may = refl
device_alone event c may = absurd may

pub device_step : (k : Session) (slots id : ℕ) (me : Me Slot View) (event : Event) → me.0.role ≡ device
    → DeviceMay event me.0.of_device → DeviceBrings event me.0.of_device me.1
    → Allows (IsSoundTable k) slots id me (device_word event me.0.of_device)
    (device_value event me.0.of_device)
    (DeviceLearns k me event)
device_step k slots id me event is may brings =
    device_allows k slots id me (device_word event me.0.of_device) (device_value event me.0.of_device)
    (DeviceLearns k me event) is (λ c sound seats view.
    let may_here = subst (DeviceMay event) (sym view) may in
    let brings_here = subst (λ e. DeviceBrings event e me.1) (sym view) brings in
    let step = subst
    (λ e. IsStepOf c me (device_word event e) (device_value event e) event (device_move event e c.homes)) view
    (device_is k c me event sound seats may_here brings_here) in (
      event,
      device_move event me.0.of_device c.homes,
      step,
      device_alone event c may_here,
      λ left. record {
        core = c;
        made = record {
          sound = sound;
          seats_are = seats;
          can = step.can;
          found_is = refl;
          sound_after = left;
        };
        view_is = view;
        left_is = refl;
      },
    ))

-- A step of the joined seat.
joined_is : (k : Session) (c : Core) (me : Me Slot View) (event : Event) → IsSound k c → c.seats ≡ Joined
    → JoinedMay event c.driver
    → IsStepOf c me (driver_word event c.driver) (driver_value event c.driver) event
    (driver_move event c.driver)
joined_is k c me (TakeJoined key) o seats may =
    move_is c me _ 3 (TakeJoined key) _ (seats, may) (joined_page_known k c key o (seats, may)) refl refl refl
joined_is k c me event o seats may = absurd may

joined_alone : (event : Event) (c : Core) → JoinedMay event c.driver → (after event c).device ≡ c.device
joined_alone (TakeJoined key) c may = refl
joined_alone event c may = absurd may

pub joined_step : (k : Session) (slots id : ℕ) (me : Me Slot View) (event : Event) → me.0.role ≡ joined
    → JoinedMay event me.0.of_driver
    → Allows (IsSoundTable k) slots id me (driver_word event me.0.of_driver)
    (driver_value event me.0.of_driver)
    (JoinedLearns k me event)
joined_step k slots id me event is may =
    joined_allows k slots id me (driver_word event me.0.of_driver) (driver_value event me.0.of_driver)
    (JoinedLearns k me event) is (λ c sound seats view of_device.
    let may_here = subst (JoinedMay event) (sym view) may in
    let step = subst (λ d. IsStepOf c me (driver_word event d) (driver_value event d) event
    (driver_move event d)) view
    (joined_is k c me event sound seats may_here) in (
      event,
      driver_move event me.0.of_driver,
      step,
      joined_alone event c may_here,
      λ left. record {
        core = c;
        made = record {
          sound = sound;
          seats_are = seats;
          can = step.can;
          found_is = refl;
          sound_after = left;
        };
        view_is = view;
        device_is = of_device;
        left_is = refl;
      },
    ))

pub joined_look : (k : Session) (slots id : ℕ) (me : Me Slot View) (word : ℕ) → me.0.role ≡ joined
    → Allows (IsSoundTable k) slots id me word (λ n. n) (JoinedLooks k me word)
joined_look k slots id me word is =
    joined_looks k slots id me word (JoinedLooks k me word) is (λ c sound seats of_driver of_device. record {
      core = c;
      sound = sound;
      seats_are = seats;
      view_is = of_driver;
      device_is = of_device;
      found_is = refl;
      left_is = refl;
    })

-- A step may be asked for by a word and a value that are those of the step, and what it tells be said in an
-- end's own words.
pub retold : (k : Session) (slots id : ℕ) (me : Me Slot View) (word own : ℕ) (f g : ℕ → ℕ)
    (told other : ℕ → Me Slot View → Type 0) → word ≡ own → f ≡ g
    → ((found : ℕ) (left : Me Slot View) → told found left → other found left)
    → Allows (IsSoundTable k) slots id me own g told → Allows (IsSoundTable k) slots id me word f other
retold k slots id me word own f g told other here same says allows =
    let there = subst (λ i. Allows (IsSoundTable k) slots id me i g told) (sym here) allows in
    let so = subst (λ h. Allows (IsSoundTable k) slots id me word h told) (sym same) there in
    λ s r deep at fits. (let a = so s r deep at fits in
    (a.0, a.1, a.2, a.3, says (slice_index s.words word) _ a.4))
