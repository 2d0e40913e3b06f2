-- What each step of the device's seat on pages, fences, requests and stopping tells it. A step on a page's
-- word is on that of one page alone.
use Rattle.std.specs.Prelude.{◌≡◌, ℕ, List, Some}
use Rattle.svga_cmd.specs.Pages.{IsKey}
use Rattle.svga_cmd.specs.declared.limits.Limits.{Limits}
use Rattle.svga_cmd.specs.declared.page.PageKey.{PageKey}
use Rattle.svga_model.specs.Acts.{Act}
use Rattle.svga_ring.specs.Core.{GiveBack, HeldSlotHome, HeldSlotOut, Hold, LoadConfig, LoadRequest, StoreFence, StoreReply}
use Rattle.svga_ring.specs.SharedTable.{page_word, slot_number}
use Rattle.svga_ring.specs.TableSteps.{Brings}
use Rattle.svga_link.specs.Plays.{DeviceLoads, DeviceStores, Told}

-- the word is that of this page
pub record IsWordOf (l : Limits) (word : ℕ) (key : PageKey) : Type 0 where
  pub key_is : IsKey l key
  pub word_is : word ≡ page_word l key

-- a page is taken, with its slot,
abbrev pub held_page : Told
held_page step me stored left = (key : PageKey) × (act : Act)
    × IsWordOf me.0.of_device.terms.limits step.word key × DeviceStores (Hold key act) me left

-- and one is given, with its slot
abbrev pub given_page : Told
given_page step me stored left = (key : PageKey) × (bytes : List ℕ)
    × IsWordOf me.0.of_device.terms.limits step.word key
    × Brings (slot_number me.0.of_device.terms.limits key) (Some bytes) me.1
    × DeviceStores (GiveBack key bytes) me left

-- the empty slot of a page that is held is taken, and is brought home
abbrev pub slot_taken : Told
slot_taken step me stored left = (key : PageKey) × IsWordOf me.0.of_device.terms.limits step.word key
    × DeviceStores (HeldSlotOut key) me left

abbrev pub slot_given : Told
slot_given step me stored left = (key : PageKey) × IsWordOf me.0.of_device.terms.limits step.word key
    × DeviceStores (HeldSlotHome key) me left

-- FENCE is stored
abbrev pub stored_fence : Told
stored_fence step me value left = DeviceStores (StoreFence value) me left

-- the request is loaded, and answered
abbrev pub loaded_request : Told
loaded_request step = DeviceLoads LoadRequest

abbrev pub stored_reply : Told
stored_reply step me number left = DeviceStores StoreReply me left

-- CONFIG_DONE is loaded
abbrev pub loaded_config : Told
loaded_config step = DeviceLoads LoadConfig
