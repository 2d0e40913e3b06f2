-- What contracts see of the two ends, and what each end keeps.
use Rattle.std.specs.Prelude.{◌≡◌, ◌≢◌, ℕ, ◌+◌, ◌*◌, ◌/◌, ◌%◌, ◌<◌, ◌≤◌, ◌^◌, List, [], ◌++◌, length, take, Bool, false, not, is_some, slice_index_or, None}
use Rattle.std.specs.FinSet as set
use Rattle.atomic_table.specs.Seated.{TableId}
use Rattle.svga_cmd.specs.Pages.{IsKey, Memory, page_at}
use Rattle.svga_cmd.specs.Slots.{from_slots, key_of}
use Rattle.svga_cmd.specs.declared.limits.Limits.{Limits}
use Rattle.svga_cmd.specs.declared.page.PageKey.{PageKey}
use Rattle.svga_link.specs.Reserving.{goes_in_place, reserved_by}
use Rattle.svga_ring.specs.Conditions.{NoSlotOut, unsent}
use Rattle.svga_ring.specs.Layouts.{ring_dwords}
use Rattle.svga_ring.specs.Locations.{Slot}
use Rattle.svga_ring.specs.Noting.{holds}
use Rattle.svga_ring.specs.SharedTable.{page_count, slot_number}
use Rattle.svga_ring.specs.TableRule.{spent_view}
use Rattle.svga_ring.specs.Views.{DeviceView, DriverView}

-- the driver's end
pub record DriverSeen : Type 0 where
  pub table : TableId
  pub view : DriverView
  -- how many bytes the reservation that is begun has, or 0, and the words that were put into it so far
  pub reserved : ℕ
  pub words : List ℕ
  -- the pages that are with it
  pub pages : Memory

-- the device's end
pub record DeviceSeen : Type 0 where
  pub table : TableId
  pub view : DeviceView
  -- the pages that it holds
  pub pages : Memory

-- what that is beside its pages
pub record DeviceRest : Type 0 where
  pub table : TableId
  pub view : DeviceView

-- that of no end
abbrev pub no_rest : DeviceRest
no_rest = record {
  table = record {
    words = 0;
    slots = 0;
    views_name = 0;
    atom = 0;
    block = 0;
    offset = 0;
    slot_names = [];
  };
  view = spent_view.of_device;
}

-- the pages that lie in an end's row of slots
abbrev pub pages_in : Limits → List Slot → Memory
pages_in l row = from_slots (key_of l.pages) row

-- the words of a reservation: those that are pending, or those that stand in the buffer
abbrev pub words_put : List ℕ → List ℕ → ℕ → List ℕ
words_put pending buffer filled = pending ++ take filled buffer

-- What the driver's end keeps between calls.
pub record IsDriverEnd (view : DriverView) (carried : List (ℕ × Slot)) (reserved : ℕ) (in_place : Bool)
    (buffer : List ℕ) (filled : ℕ) (row : List Slot) : Type 0 where
  -- all words of the commands are sent
  pub all_sent : unsent view ≡ []
  -- a reservation is of whole words, which fit
  pub whole : reserved % 4 ≡ 0
  pub reserved_is : view.reserved ≡ reserved_by view.terms.way reserved
  pub runs : reserved ≢ 0 → view.stopped ≡ false
  pub room : length view.sent + reserved / 4 < view.stop + ring_dwords view.layout
  pub short : length view.sent + reserved / 4 ≤ 2 ^ 62
  pub small : reserved / 4 < ring_dwords view.layout
  -- it is in place, or its words stand in the buffer
  pub in_place_is : reserved ≢ 0 → in_place ≡ goes_in_place view reserved
  pub apart : in_place ≡ false → view.pending ≡ []
  pub together : filled ≢ 0 → in_place ≡ false
  pub put : 4 * (length view.pending + filled) ≤ reserved
  pub buffer_is : length buffer ≡ ring_dwords view.layout
  -- the pages in its row are those that aren't lent
  pub none_carried : carried ≡ []
  pub none_out : NoSlotOut view
  pub row_is : length row ≡ page_count view.terms.limits
  pub mine : (key : PageKey) → IsKey view.terms.limits key
      → is_some (slice_index_or row (slot_number view.terms.limits key) None)
      ≡ not (set.contains view.lent key)

-- What the device's end keeps between calls.
pub record IsDeviceEnd (view : DeviceView) (carried : List (ℕ × Slot)) (row : List Slot) : Type 0 where
  pub none_carried : carried ≡ []
  pub none_out : view.out ≡ None
  pub row_is : length row ≡ page_count view.terms.limits
  -- the pages in its row are those that it holds
  pub mine : (key : PageKey)
      → holds view.noted key ≡ is_some (page_at (pages_in view.terms.limits row) key)
