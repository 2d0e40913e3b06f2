-- What the device's end keeps while pages are held and given back.
use Rattle.std.proofs.Common.{◌≡◌, ℕ, ◌<◌, Bool, true, false, cond, Option, Some, None, is_some, List, length, length-set, slice_set, refl, sym, ap, subst, ◌∙◌, arith}
use Rattle.std.specs.FinMap as map
use Rattle.std.specs.FinMap.{get-insert, get-remove}
use Rattle.std.specs.Ordering.{eq_by_cmp}
use Rattle.svga_cmd.proofs.KeyLaws.{keys_exact, keys_total}
use Rattle.svga_cmd.proofs.Maps.{one_key}
use Rattle.svga_cmd.specs.Pages.{HasPage, IsKey, key_cmp, page_at}
use Rattle.svga_cmd.specs.declared.page.PageKey.{PageKey}
use Rattle.svga_ring.proofs.Pages.Locations.{slot_there}
use Rattle.svga_ring.proofs.Pages.Noted.{held_unnoted}
use Rattle.svga_ring.specs.Conditions.{IsChainServed}
use Rattle.svga_ring.specs.Core.{given_with, held_with}
use Rattle.svga_ring.specs.Locations.{Slot}
use Rattle.svga_ring.specs.Noting.{holds, is_held_now}
use Rattle.svga_ring.specs.SharedTable.{slot_number}
use Rattle.svga_ring.specs.Views.{DeviceView, Noted}
use Rattle.svga_link.proofs.PageRows.{keys_there, page_gone, page_put}
use Rattle.svga_link.specs.Ends.{IsDeviceEnd, pages_in}
use Rattle.svga_link.specs.Holding.{holding, replied, returned}

now_held : (o : Option Noted) (bytes : List ℕ) → is_held_now (Some (held_with o bytes)) ≡ true
now_held None bytes = refl
now_held (Some n) bytes = refl

now_back : (o : Option Noted) (bytes : List ℕ) → is_held_now (Some (given_with o bytes)) ≡ false
now_back None bytes = refl
now_back (Some n) bytes = refl

abbrev no_page : Slot
no_page = None

-- a page is held
pub end_holds : (e left : DeviceView) (carried carried' : List (ℕ × Slot)) (row : List Slot) (key : PageKey) (bytes : List ℕ)
    → IsDeviceEnd e carried row → IsKey e.terms.limits key → left ≡ holding e key bytes → carried' ≡ carried
    → IsDeviceEnd left carried' (slice_set row (slot_number e.terms.limits key) (Some bytes))
end_holds e left carried carried' row key bytes i is_key told same =
    let l = e.terms.limits in
    let now : List Slot = slice_set row (slot_number l key) (Some bytes) in
    let n : Noted = held_with (map.get e.noted key) bytes in
    subst (λ x. IsDeviceEnd x carried' now) (sym told) (record {
      none_carried = same ∙ i.none_carried;
      none_out = i.none_out;
      row_is = length-set row (slot_number l key) (Some bytes) ∙ i.row_is;
      mine = λ q.
          let go : (b : Bool) → is_held_now (cond b (Some n) (map.get e.noted q)) ≡ is_some (cond b (Some bytes) (page_at (pages_in l row) q)) =
          λ b. elim b as (λ b. is_held_now (cond b (Some n) (map.get e.noted q)) ≡ is_some (cond b (Some bytes) (page_at (pages_in l row) q))) [ true ↦ now_held (map.get e.noted key) bytes | false ↦ i.mine q ] in
          ap is_held_now (get-insert keys_total e.noted key n q) ∙ go (eq_by_cmp key_cmp q key)
          ∙ sym (ap is_some (ap (λ m. page_at m q) (page_put l row key bytes is_key i.row_is) ∙ get-insert keys_total (pages_in l row) key bytes q));
    })

-- a page is given back
pub end_returns : (e left : DeviceView) (carried carried' : List (ℕ × Slot)) (row : List Slot) (key : PageKey) (bytes : List ℕ)
    → IsDeviceEnd e carried row → IsKey e.terms.limits key → left ≡ returned e key bytes → carried' ≡ carried
    → IsDeviceEnd left carried' (slice_set row (slot_number e.terms.limits key) None)
end_returns e left carried carried' row key bytes i is_key told same =
    let l = e.terms.limits in
    let now : List Slot = slice_set row (slot_number l key) None in
    let n : Noted = given_with (map.get e.noted key) bytes in
    subst (λ x. IsDeviceEnd x carried' now) (sym told) (record {
      none_carried = same ∙ i.none_carried;
      none_out = i.none_out;
      row_is = length-set row (slot_number l key) None ∙ i.row_is;
      mine = λ q.
          let go : (b : Bool) → is_held_now (cond b (Some n) (map.get e.noted q)) ≡ is_some (cond b no_page (page_at (pages_in l row) q)) =
          λ b. elim b as (λ b. is_held_now (cond b (Some n) (map.get e.noted q)) ≡ is_some (cond b no_page (page_at (pages_in l row) q))) [ true ↦ now_back (map.get e.noted key) bytes | false ↦ i.mine q ] in
          ap is_held_now (get-insert keys_total e.noted key n q) ∙ go (eq_by_cmp key_cmp q key)
          ∙ sym (ap is_some (ap (λ m. page_at m q) (page_gone l row key is_key i.row_is) ∙ get-remove keys_total (pages_in l row) key q));
    })

-- a page that is held is written
pub end_written : (e : DeviceView) (carried : List (ℕ × Slot)) (row : List Slot) (key : PageKey) (bytes : List ℕ) (n : ℕ)
    → IsDeviceEnd e carried row → HasPage (pages_in e.terms.limits row) key → n ≡ slot_number e.terms.limits key
    → IsDeviceEnd e carried (slice_set row n (Some bytes))
end_written e carried row key bytes n i has here =
    let l = e.terms.limits in
    let is_key = keys_there l row key i.row_is has in
    record {
      none_carried = i.none_carried;
      none_out = i.none_out;
      row_is = length-set row n (Some bytes) ∙ i.row_is;
      mine = λ q.
          let go : (b : Bool) → eq_by_cmp key_cmp q key ≡ b → holds e.noted q ≡ is_some (cond b (Some bytes) (page_at (pages_in l row) q)) =
          λ b. elim b as (λ b. eq_by_cmp key_cmp q key ≡ b → holds e.noted q ≡ is_some (cond b (Some bytes) (page_at (pages_in l row) q)))
          [ true ↦ (λ same. ap (holds e.noted) (one_key keys_total keys_exact q key same) ∙ i.mine key ∙ has) | false ↦ (λ off. i.mine q) ] in
          go (eq_by_cmp key_cmp q key) refl
          ∙ sym (ap is_some (ap (λ k. page_at (pages_in l (slice_set row k (Some bytes))) q) here
          ∙ ap (λ m. page_at m q) (page_put l row key bytes is_key i.row_is) ∙ get-insert keys_total (pages_in l row) key bytes q));
    }

-- a chain is answered: no page is held, before or after
pub end_replied : (e left : DeviceView) (carried carried' : List (ℕ × Slot)) (row : List Slot)
    → IsDeviceEnd e carried row → IsChainServed e → left ≡ replied e → carried' ≡ carried → IsDeviceEnd left carried' row
end_replied e left carried carried' row is may here same =
    subst (λ x. IsDeviceEnd x carried' row) (sym here) (record {
      none_carried = same ∙ is.none_carried;
      none_out = is.none_out;
      row_is = is.row_is;
      mine = λ key. held_unnoted map.empty key (map.get-empty key_cmp key) ∙ sym (may.none_held key) ∙ is.mine key;
    })

-- where a page of the end lies
pub in_row : (e : DeviceView) (carried : List (ℕ × Slot)) (row : List Slot) (key : PageKey) (n : ℕ) → IsDeviceEnd e carried row
    → IsKey e.terms.limits key → n ≡ slot_number e.terms.limits key → n < length row
in_row e carried row key n i is_key here = let low = slot_there e.terms.limits key is_key in omega (arith, here, low, i.row_is)

-- a page that is held lies there
pub held_there : (e : DeviceView) (carried : List (ℕ × Slot)) (row : List Slot) (key : PageKey) → IsDeviceEnd e carried row
    → holds e.noted key ≡ true → HasPage (pages_in e.terms.limits row) key
held_there e carried row key i held = sym (i.mine key) ∙ held
