-- What closing a session makes of its two ends.
use Rattle.std.specs.Prelude.{◌≡◌, ◌≢◌, ◌↔◌, ℕ, ◌<◌, ◌≤◌, List, length, true, not, if◌then◌else◌, is_some, slice_index_or, Some, None}
use Rattle.std.specs.FinSet as set
use Rattle.svga_cmd.specs.Pages.{HasPage, IsKey, Memory, page_at}
use Rattle.svga_cmd.specs.Slots.{key_of}
use Rattle.svga_cmd.specs.declared.limits.Limits.{Limits}
use Rattle.svga_cmd.specs.declared.page.PageKey.{PageKey}
use Rattle.svga_cmd.specs.declared.session.Session.{Session}
use Rattle.svga_link.specs.Ends.{pages_in}
use Rattle.svga_link.specs.Reserving.{next_command}
use Rattle.svga_model.specs.Closings.{Closed}
use Rattle.svga_model.specs.Fences.{fences, register_after}
use Rattle.svga_model.specs.Runs.{run}
use Rattle.svga_ring.specs.Committed.{commands}
use Rattle.svga_ring.specs.Conditions.{first_state}
use Rattle.svga_ring.specs.Layouts.{word_address}
use Rattle.svga_ring.specs.Locations.{Slot}
use Rattle.svga_ring.specs.SharedTable.{page_count, slot_number}
use Rattle.svga_ring.specs.TableRule.{View}
use Rattle.svga_ring.specs.TableSteps.{page_left}
use Rattle.svga_ring.specs.Views.{DriverView, joined}

-- What is left of a session that is closed with these pages: all that was sent is taken, and what is kept is
-- what running all acts leaves.
abbrev pub closing : DriverView → Memory → Closed
closing d pages = record {
  sent = d.sent;
  taken = d.sent;
  acts = d.acts;
  kept = (run (first_state d) d.acts).kept;
  max = d.layout.max;
  next_cmd = next_command d;
  stop = next_command d;
  fence = register_after d.terms.first (length (fences (commands d.acts)));
  config = 0;
  next_stores = d.next_stores;
  pages = pages;
}

-- The pages of such a session: those that were lent are as running all acts leaves them, and the others are
-- the driver's.
pub record AreClosingPages (d : DriverView) (own pages : Memory) : Type 0 where
  pub keys : (key : PageKey) → HasPage pages key ↔ IsKey d.terms.limits key
  pub each : (key : PageKey) → IsKey d.terms.limits key
      → page_at pages key ≡ (if set.contains d.lent key then Some (page_left d key) else page_at own key)

-- the page of a slot
abbrev pub slot_key : Limits → ℕ → PageKey
slot_key l slot = key_of l.pages slot

-- in the driver's row are the pages that aren't lent
pub record HasOwnPages (d : DriverView) (row : List Slot) : Type 0 where
  pub row_is : length row ≡ page_count d.terms.limits
  pub mine : (key : PageKey) → IsKey d.terms.limits key
      → is_some (slice_index_or row (slot_number d.terms.limits key) None) ≡ not (set.contains d.lent key)

-- what comes to lie in a page's place, where this lay
abbrev pub closing_slot : DriverView → PageKey → Slot → Slot
closing_slot d key own = if set.contains d.lent key then Some (page_left d key) else own

-- Of what the joined seat knows at most the page that it took is lent no longer.
pub record HasTaken (key : PageKey) (v w : View) : Type 0 where
  pub role_is : w.role ≡ v.role
  pub driver_is : w.of_driver ≡ record v.of_driver { lent = w.of_driver.lent; out = w.of_driver.out }
  pub device_is : w.of_device ≡ v.of_device
  pub others : (q : PageKey) → q ≢ key
      → set.contains w.of_driver.lent q ≡ set.contains v.of_driver.lent q

-- The pages of the first so many slots are with the joined seat, in the driver's row.
pub record AreGathered (v : View) (row : List Slot) (count : ℕ) (w : View) (filled : List Slot) : Type 0 where
  pub role_is : w.role ≡ joined
  pub driver_is : w.of_driver ≡ record v.of_driver { lent = w.of_driver.lent; out = w.of_driver.out }
  pub device_is : w.of_device ≡ v.of_device
  pub row_is : length filled ≡ length row
  -- those behind them are as they were
  pub lent_yet : (key : PageKey) → IsKey v.of_driver.terms.limits key
      → count ≤ slot_number v.of_driver.terms.limits key
      → set.contains w.of_driver.lent key ≡ set.contains v.of_driver.lent key
  pub left : (slot : ℕ) → count ≤ slot → slice_index_or filled slot None ≡ slice_index_or row slot None
  pub taken : (key : PageKey) → IsKey v.of_driver.terms.limits key
      → slot_number v.of_driver.terms.limits key < count
      → slice_index_or filled (slot_number v.of_driver.terms.limits key) None
      ≡ closing_slot v.of_driver key (slice_index_or row (slot_number v.of_driver.terms.limits key) None)

-- each slot of the row has a page
pub record HasAllPages (l : Limits) (row : List Slot) : Type 0 where
  pub row_is : length row ≡ page_count l
  pub full : (slot : ℕ) → slot < length row → is_some (slice_index_or row slot None) ≡ true

-- What is left of a session, by what the joined seat knows: with these words, and these pages in its row.
abbrev pub closed_of : View → Session → ℕ → ℕ → ℕ → List Slot → Closed
closed_of v session next_cmd fence next_stores row = record {
  sent = v.of_driver.sent;
  taken = v.of_device.taken;
  acts = v.of_driver.acts;
  kept = v.of_device.kept;
  max = session.ring;
  next_cmd = next_cmd;
  stop = word_address v.of_driver.layout (length v.of_device.taken);
  fence = fence;
  config = if v.of_driver.stopped then 0 else 1;
  next_stores = next_stores;
  pages = pages_in session.limits row;
}
