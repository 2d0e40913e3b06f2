-- Page keys in order, and memories: the bytes of pages by their keys.
use Rattle.std.specs.Prelude.{◌≡◌, ◌↔◌, ℕ, ◌<◌, Bool, nat_lt, All, List, length, replicate, Option, IfSome, IsSome}
use Rattle.std.specs.FinMap as map
use Rattle.std.specs.Ordering.{nat_cmp, ordering_then}
use Rattle.std.specs.declared.cmp.Ordering.{Ordering}
use Rattle.svga_cmd.specs.declared.constants.TheConstants.{PAGE_SIZE}
use Rattle.svga_cmd.specs.declared.limits.Limits.{Limits}
use Rattle.svga_cmd.specs.declared.page.PageKey.{PageKey}
use Rattle.svga_cmd.specs.declared.page.PageKey.TheVariants.{Guest, Frame}
use Rattle.svga_cmd.specs.Limits.{frame_page_count}

-- 0 for a page of guest memory and 1 for one of the framebuffer
abbrev pub kind_of : PageKey → ℕ
kind_of (Guest p) = 0
kind_of (Frame g) = 1

abbrev pub number_in_kind : PageKey → ℕ
number_in_kind (Guest p) = p
number_in_kind (Frame g) = g

-- guest pages first, each kind by its numbers
unfoldable pub key_cmp : PageKey → PageKey → Ordering
key_cmp a b = ordering_then (nat_cmp (kind_of a) (kind_of b)) (nat_cmp (number_in_kind a) (number_in_kind b))

-- the keys of a device
abbrev pub IsKey : Limits → PageKey → Type 0
IsKey l (Guest p) = p < l.pages
IsKey l (Frame g) = g < frame_page_count l

-- the same as a test
abbrev pub is_key : Limits → PageKey → Bool
is_key l (Guest p) = nat_lt p l.pages
is_key l (Frame g) = nat_lt g (frame_page_count l)

-- the bytes of pages, by their keys
abbrev pub Memory : Type 0
Memory = map.FinMap key_cmp (List ℕ)

abbrev pub page_at : Memory → PageKey → Option (List ℕ)
page_at m key = map.get m key

abbrev pub HasPage : Memory → PageKey → Type 0
HasPage m key = IsSome (page_at m key)

-- 4,096 bytes
pub record IsPage (bytes : List ℕ) : Type 0 where
  pub length_is : length bytes ≡ PAGE_SIZE
  pub each : All (λ byte. byte < 256) bytes

-- a memory of a device has a page for each of its keys, and no other
pub record IsMemoryOf (l : Limits) (m : Memory) : Type 0 where
  pub keys : (key : PageKey) → HasPage m key ↔ IsKey l key
  pub pages : (key : PageKey) → IfSome (page_at m key) IsPage

-- so it is where no byte was written yet: the same keys, and only zeros
pub record IsZeroMemoryOf (l : Limits) (m : Memory) : Type 0 where
  pub keys : (key : PageKey) → HasPage m key ↔ IsKey l key
  pub zeros : (key : PageKey) → IfSome (page_at m key) (λ bytes. bytes ≡ replicate PAGE_SIZE 0)
