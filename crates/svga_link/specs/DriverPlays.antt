-- What the driver's steps on fences, pages and requests tell its seat.
use Rattle.std.specs.Prelude.{◌≡◌, ℕ, List, Some}
use Rattle.atomic_table.specs.Table.{Me}
use Rattle.svga_cmd.specs.Pages.{IsKey}
use Rattle.svga_cmd.specs.declared.page.PageKey.{PageKey}
use Rattle.svga_ring.specs.Core.{Give, LoadFence, LoadReply, SlotHome, SlotOut, StoreConfig, StoreRequest, Take}
use Rattle.svga_ring.specs.Locations.{Slot}
use Rattle.svga_ring.specs.Requests.{IsRequest, next_request, request_value}
use Rattle.svga_ring.specs.SharedTable.{page_word, slot_number}
use Rattle.svga_ring.specs.TableRule.{View}
use Rattle.svga_ring.specs.TableSteps.{Brings}
use Rattle.svga_link.specs.Plays.{DriverLoads, DriverStores, Told}

-- FENCE is loaded, and the reply is
abbrev pub loaded_fence : Told
loaded_fence step = DriverLoads LoadFence

abbrev pub loaded_reply : Told
loaded_reply step = DriverLoads LoadReply

-- the word of a request is stored
abbrev pub stored_request : Told
stored_request step me word left = (id first : ℕ) → IsRequest (next_request me.0.of_driver.request id first)
    → word ≡ request_value (next_request me.0.of_driver.request id first)
    → DriverStores (StoreRequest id first) me left

-- CONFIG_DONE is stored
abbrev pub stored_config : Told
stored_config step me word left = DriverStores StoreConfig me left

-- this is the word of the page
abbrev pub IsWordOf : ℕ → Me Slot View → PageKey → Type 0
IsWordOf word me key = IsKey me.0.of_driver.terms.limits key
    × (word ≡ page_word me.0.of_driver.terms.limits key)

-- a page's word is stored: its slot is taken out empty, its page is given or taken, or its slot is brought
-- home
abbrev pub took_slot_out : Told
took_slot_out step me word left = (key : PageKey) → IsWordOf step.word me key
    → DriverStores (SlotOut key) me left

abbrev pub gave_page : Told
gave_page step me word left = (key : PageKey) (bytes : List ℕ) → IsWordOf step.word me key
    → Brings (slot_number me.0.of_driver.terms.limits key) (Some bytes) me.1
    → DriverStores (Give key bytes) me left

abbrev pub took_page : Told
took_page step me word left = (key : PageKey) → IsWordOf step.word me key → DriverStores (Take key) me left

abbrev pub brought_slot_home : Told
brought_slot_home step me word left = (key : PageKey) → IsWordOf step.word me key
    → DriverStores (SlotHome key) me left
