-- Sound as the rule of a shared table: over its words, what lies in its slots at home, and the views of its
-- seats.
use Rattle.std.specs.Prelude.{◌≡◌, ℕ, List, [], ◌∷◌, replicate, slice_index, slice_set, None}
use Rattle.atomic_table.specs.Table.{Act, Me, State, Valid, homes_after, opening}
use Rattle.svga_cmd.specs.declared.limits.Limits.{Limits}
use Rattle.svga_cmd.specs.declared.session.Session.{Session}
use Rattle.svga_cmd.specs.declared.session.Way.TheVariants.{Reserve}
use Rattle.svga_ring.specs.Conditions.{Can}
use Rattle.svga_ring.specs.Core.{Core, Event, after, knowing_taken, opening_words}
use Rattle.svga_ring.specs.Layouts.{Layout, ring_start}
use Rattle.svga_ring.specs.Locations.{Slot}
use Rattle.svga_ring.specs.SharedTable.{page_count}
use Rattle.svga_ring.specs.Sound.{IsSound}
use Rattle.svga_ring.specs.Views.{DeviceView, DriverView, Role, Seats, Terms, both, device, driver, joined, new_device, new_driver, opening_device, opening_driver, spent}
use Rattle.svga_ring.specs.Views as seats

-- A seat's view: its role, and both ends' views, of which the driver's and the device's seat each know their
-- own; what such a seat has of the other's means nothing.
pub record View : Type 0 where
  pub role : Role
  pub of_driver : DriverView
  pub of_device : DeviceView

-- the views of a table's seats: one that opened it, the driver's and the device's, or one that has joined
-- them and one that is spent
abbrev pub AreViews : Seats → DriverView → DeviceView → List View → Type 0
AreViews seats.Opening d e (v ∷ []) = (v.role ≡ both) × (v.of_driver ≡ d) × (v.of_device ≡ e)
AreViews seats.Apart d e (v ∷ w ∷ []) = (v.role ≡ driver) × (v.of_driver ≡ d) × (w.role ≡ device)
    × (w.of_device ≡ e)
AreViews seats.Joined d e (v ∷ w ∷ []) = (v.role ≡ joined) × (v.of_driver ≡ d) × (v.of_device ≡ e)
    × (w.role ≡ spent)
AreViews s d e views = ⊥

-- the core that a table is, with these seats and views
abbrev pub core_of : Seats → DriverView → DeviceView → State Slot View → Core
core_of seats d e s = record { seats = seats; words = s.words; homes = s.homes; driver = d; device = e }

-- the rule
pub record IsSoundTable (k : Session) (s : State Slot View) : Type 0 where
  pub seats : Seats
  pub of_driver : DriverView
  pub of_device : DeviceView
  pub sound : IsSound k (core_of seats of_driver of_device s)
  pub views : AreViews seats of_driver of_device s.views

-- the view with which a table opens, those into which it is split, and those that a join leaves
abbrev pub opening_view : Session → View
opening_view k = record { role = both; of_driver = opening_driver k; of_device = opening_device k }

abbrev pub as_driver : View → View
as_driver v = record v { role = driver }

abbrev pub as_device : View → View
as_device v = record v { role = device }

abbrev pub joined_view : View → View → View
joined_view v w = record {
  role = joined;
  of_driver = knowing_taken v.of_driver w.of_device;
  of_device = w.of_device;
}

-- the table at the start
abbrev pub opening_table : Session → State Slot View
opening_table k = opening (opening_words k) (replicate (page_count k.limits) None) (opening_view k)

-- the view of a seat that is spent
abbrev pub spent_view : View
spent_view =
    let none : Limits = record { pages = 0; gfb_width = 0; gfb_height = 0; budget = 0 } in
    let terms : Terms = record { limits = none; first = 0; way = Reserve } in
    let lay : Layout = record { max = ring_start; base = 0 } in
    record { role = spent; of_driver = new_driver terms lay; of_device = new_device terms lay }

-- What a seat has to show of a step on a word, which becomes f of what it was: an event that may come, the
-- move of a slot that it makes, and that it leaves words and slots so.
pub record IsStepOf (c : Core) (me : Me Slot View) (word : ℕ) (f : ℕ → ℕ) (event : Event) (act : Act Slot) :
    Type 0 where
  pub can : Can event c
  pub valid : Valid c.homes me.1 act
  pub seats_stay : (after event c).seats ≡ c.seats
  pub words_are : (after event c).words ≡ slice_set c.words word (f (slice_index c.words word))
  pub homes_are : (after event c).homes ≡ homes_after c.homes me.1 act
