-- A step of the driver's seat: that the table allows it, and what it leaves.
use Rattle.std.proofs.Common.{◌≡◌, ℕ, List, sym, ap, ◌∙◌}
use Rattle.atomic_table.specs.Seated.{TableId}
use Rattle.atomic_table.specs.Table.{Allows, Me, carried_after}
use Rattle.svga_cmd.specs.Spelling.{Spells}
use Rattle.svga_cmd.specs.declared.command.Command.{Command}
use Rattle.svga_cmd.specs.declared.session.Session.{Session}
use Rattle.svga_ring.proofs.Table.SeatSteps.{driver_step, retold}
use Rattle.svga_ring.specs.Conditions.{DriverMay, MayCommit}
use Rattle.svga_ring.specs.Core.{Commit, Core, Event, after}
use Rattle.svga_ring.specs.Locations.{Slot}
use Rattle.svga_ring.specs.RingPieces.{next_offset}
use Rattle.svga_ring.specs.SharedTable.{next_word}
use Rattle.svga_ring.specs.TableRule.{IsSoundTable, View}
use Rattle.svga_ring.specs.TableSteps.{DriverBrings, DriverLearns, driver_move, driver_value, driver_word}
use Rattle.svga_ring.specs.Views.{DriverView, driver}
use Rattle.svga_link.specs.Plays.{DriverLoads, DriverStores}
use Rattle.svga_link.specs.Seats.{IsDriverSeat, SeenDriverSeat}

-- a store of this value to this word, with which it tells what the step does
pub driver_stores_as : (k : Session) (slots id : ℕ) (me : Me Slot View) (event : Event) (word value : ℕ)
    (told : Me Slot View → Type 0) → me.0.role ≡ driver → DriverMay event me.0.of_driver
    → DriverBrings event me.0.of_driver me.1 → word ≡ driver_word event me.0.of_driver
    → ((n : ℕ) → value ≡ driver_value event me.0.of_driver n)
    → ((left : Me Slot View) → DriverStores event me left → told left)
    → Allows (IsSoundTable k) slots id me word (λ _. value) (λ _. told)
driver_stores_as k slots id me event word value told is may brings at stores says =
    retold k slots id me word (driver_word event me.0.of_driver) (λ _. value) (driver_value event me.0.of_driver)
    (DriverLearns k me event) (λ _. told) at (λ i n. stores n i) (λ found left learns. says left (k, found, learns))
    (driver_step k slots id me event is may brings)

pub driver_stores : (k : Session) (slots id : ℕ) (me : Me Slot View) (event : Event) (word value : ℕ)
    → me.0.role ≡ driver → DriverMay event me.0.of_driver → DriverBrings event me.0.of_driver me.1
    → word ≡ driver_word event me.0.of_driver → ((n : ℕ) → value ≡ driver_value event me.0.of_driver n)
    → Allows (IsSoundTable k) slots id me word (λ _. value) (λ _. DriverStores event me)
driver_stores k slots id me event word value is may brings at stores =
    driver_stores_as k slots id me event word value (DriverStores event me) is may brings at stores (λ left told. told)

-- a load of this word
pub driver_loads : (k : Session) (slots id : ℕ) (me : Me Slot View) (event : Event) (word : ℕ)
    → me.0.role ≡ driver → DriverMay event me.0.of_driver → DriverBrings event me.0.of_driver me.1
    → word ≡ driver_word event me.0.of_driver → ((n : ℕ) → n ≡ driver_value event me.0.of_driver n)
    → Allows (IsSoundTable k) slots id me word (λ n. n) (DriverLoads event me)
driver_loads k slots id me event word is may brings at loads =
    retold k slots id me word (driver_word event me.0.of_driver) (λ n. n) (driver_value event me.0.of_driver)
    (DriverLearns k me event) (DriverLoads event me) at (λ i n. loads n i) (λ found left learns. (k, learns))
    (driver_step k slots id me event is may brings)

-- the view that it leaves
pub driver_view : (k : Session) (me left : Me Slot View) (event : Event) (found : ℕ)
    (becomes : DriverView → DriverView) → DriverLearns k me event found left
    → ((c : Core) → (after event c).driver ≡ becomes c.driver) → left.0.of_driver ≡ becomes me.0.of_driver
driver_view k me left event found becomes told makes =
    ap (λ m. m.0.of_driver) told.left_is ∙ makes told.core ∙ ap becomes told.view_is

-- the seat, as contracts see it
pub seat_left : (k : Session) (me left : Me Slot View) (event : Event) (found : ℕ) (becomes : DriverView → DriverView)
    → DriverLearns k me event found left → ((c : Core) → (after event c).driver ≡ becomes c.driver)
    → (table table' : TableId) → table' ≡ table
    → ◌≡◌ {A = SeenDriverSeat} (record { table = table'; view = left.0.of_driver; carried = left.1 }) (record {
      table = table;
      view = becomes me.0.of_driver;
      carried = carried_after me.1 (driver_move event me.0.of_driver);
    })
seat_left k me left event found becomes told makes table table' tables =
    let view = driver_view k me left event found becomes told makes in
    λ i. record { table = tables i; view = view i; carried = ap (λ m. m.1) told.left_is i }

-- and what the seat keeps
pub driver_kept_as : (k session : Session) (me left : Me Slot View) (event : Event) (found next next' request request' : ℕ)
    → IsDriverSeat session me next request → DriverLearns k me event found left
    → ((c : Core) → (after event c).seats ≡ c.seats)
    → ((c : Core) → (after event c).driver.terms ≡ c.driver.terms)
    → ((c : Core) → (after event c).driver.layout ≡ c.driver.layout)
    → next' ≡ next_offset left.0.of_driver → request' ≡ left.0.of_driver.request.number
    → IsDriverSeat session left next' request'
driver_kept_as k session me left event found next next' request request' is told seats terms layout next_is request_is = record {
  role = ap (λ m. m.0.role) told.left_is ∙ is.role;
  terms = ap (λ m. m.0.of_driver.terms) told.left_is ∙ terms told.core ∙ ap (λ d. d.terms) told.view_is ∙ is.terms;
  layout = ap (λ m. m.0.of_driver.layout) told.left_is ∙ layout told.core ∙ ap (λ d. d.layout) told.view_is ∙ is.layout;
  next_is = next_is;
  request_is = request_is;
  possible = record {
    key = k;
    core = after event told.core;
    sound = told.made.sound_after;
    apart = seats told.core ∙ told.made.seats_are;
    view_is = sym (ap (λ m. m.0.of_driver) told.left_is);
  };
}

-- where it makes no request
pub driver_kept : (k session : Session) (me left : Me Slot View) (event : Event) (found next next' request : ℕ)
    → IsDriverSeat session me next request → DriverLearns k me event found left
    → ((c : Core) → (after event c).seats ≡ c.seats)
    → ((c : Core) → (after event c).driver.terms ≡ c.driver.terms)
    → ((c : Core) → (after event c).driver.layout ≡ c.driver.layout)
    → ((c : Core) → (after event c).driver.request ≡ c.driver.request)
    → next' ≡ next_offset left.0.of_driver → IsDriverSeat session left next' request
driver_kept k session me left event found next next' request is told seats terms layout requests next_is =
    driver_kept_as k session me left event found next next' request request is told seats terms layout next_is
    (is.request_is ∙ sym (ap (λ m. m.0.of_driver.request.number) told.left_is ∙ ap (λ r. r.number) (requests told.core)
    ∙ ap (λ d. d.request.number) told.view_is))

-- a store of NEXT_CMD that commits the command that these words spell
pub driver_commits : (k : Session) (slots id : ℕ) (me : Me Slot View) (word value : ℕ) (own : Command)
    (words : List ℕ) → me.0.role ≡ driver → MayCommit me.0.of_driver own → Spells own words → word ≡ next_word
    → value ≡ next_offset me.0.of_driver
    → Allows (IsSoundTable k) slots id me word (λ _. value)
    (λ _ left. (command : Command) × Spells command words × DriverStores (Commit command) me left)
driver_commits k slots id me word value own words is may spells at here =
    driver_stores_as k slots id me (Commit own) word value
    (λ left. (command : Command) × Spells command words × DriverStores (Commit command) me left) is may tt at
    (λ n. here) (λ left told. (own, spells, told))
