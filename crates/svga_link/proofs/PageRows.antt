-- The pages in the row of an end, as a memory.
use Rattle.std.proofs.Common.{◌≡◌, ℕ, zero, suc, ◌+◌, ◌-◌, ◌<◌, ◌==◌, nat_lt, Bool, true, false, cond, refl, sym, ap, subst, ◌∙◌, Option, Some, None, IsSome, List, [], ◌∷◌, length, slice_index_or, slice_set, replicate, map as map_list, rules, arith}
use Rattle.std.proofs.lemmas.Bool.Decides.{nat_tests}
use Rattle.std.specs.FinMap as map
use Rattle.std.specs.Ordering.{eq_by_cmp, is_eq, nat_cmp}
use Rattle.svga_cmd.proofs.KeyLaws.{keys_exact, keys_total}
use Rattle.svga_cmd.proofs.Maps.{same_gets}
use Rattle.svga_cmd.proofs.MemPagesLaws.{zero_memory}
use Rattle.svga_cmd.proofs.SlotLaws.{at_from, at_place, from_slots-empty, from_slots-set, get-from_slots, is_place}
use Rattle.svga_cmd.specs.Pages.{HasPage, IsKey, IsZeroMemoryOf, key_cmp, page_at}
use Rattle.svga_cmd.specs.Slots.{from_slots, key_of, slot_of}
use Rattle.svga_cmd.specs.declared.constants.TheConstants.{PAGE_SIZE}
use Rattle.svga_cmd.specs.declared.limits.Limits.{Limits}
use Rattle.svga_cmd.specs.declared.page.PageKey.{PageKey}
use Rattle.svga_cmd.specs.declared.page.PageKey.TheVariants.{Guest, Frame}
use Rattle.svga_ring.proofs.Pages.Locations.{slot_there}
use Rattle.svga_ring.specs.Locations.{Slot}
use Rattle.svga_ring.specs.SharedTable.{page_count, slot_number}
use Rattle.svga_link.specs.Ends.{pages_in}

same_cmp : (p i : ℕ) → is_eq (nat_cmp p i) ≡ (p == i)
same_cmp p i = grind (arith, nat_tests)

chosen : (b : Bool) (p i : ℕ) → cond b (p == i) false ≡ is_place i (cond b (Some p) None)
chosen true p i = refl
chosen false p i = refl

-- a key is that of slot i where i is its slot
tie : (guest : ℕ) (q : PageKey) (i : ℕ) → eq_by_cmp key_cmp q (key_of guest i) ≡ is_place i (slot_of guest q)
unfolding key_cmp
tie guest (Guest p) i = go (nat_lt i guest) refl where
  go : (b : Bool) → nat_lt i guest ≡ b → eq_by_cmp key_cmp (Guest p) (cond b (Guest i) (Frame (i - guest))) ≡ is_place i (slot_of guest (Guest p))
  go true e = same_cmp p i ∙ (let l : (p == i) ≡ cond (nat_lt p guest) (p == i) false = grind (arith, nat_tests) in l) ∙ chosen (nat_lt p guest) p i
  go false e = (let l : false ≡ cond (nat_lt p guest) (p == i) false = grind (arith, nat_tests) in l) ∙ chosen (nat_lt p guest) p i
tie guest (Frame g) i = go (nat_lt i guest) refl where
  go : (b : Bool) → nat_lt i guest ≡ b → eq_by_cmp key_cmp (Frame g) (cond b (Guest i) (Frame (i - guest))) ≡ is_place i (slot_of guest (Frame g))
  go true e = grind (arith, nat_tests)
  go false e = same_cmp g (i - guest) ∙ (let l : (g == (i - guest)) ≡ ((guest + g) == i) = grind (arith, nat_tests) in l)

in_slots : (l : Limits) (row : List Slot) (q : PageKey) → page_at (pages_in l row) q ≡ at_from 0 row (slot_of l.pages q)
in_slots l row q = get-from_slots keys_total keys_exact (key_of l.pages) (slot_of l.pages) (tie l.pages) row q

slot_is : (l : Limits) (key : PageKey) → IsKey l key → slot_of l.pages key ≡ Some (slot_number l key)
slot_is l (Guest p) low = ap (λ b. cond b (Some p) None) (let e : nat_lt p l.pages ≡ true = grind (arith, nat_tests) in e)
slot_is l (Frame g) low = refl

-- what lies in a page's slot is what the memory has there
pub page_here : (l : Limits) (row : List Slot) (key : PageKey) → IsKey l key
    → page_at (pages_in l row) key ≡ slice_index_or row (slot_number l key) None
page_here l row key is = in_slots l row key ∙ ap (at_from 0 row) (slot_is l key is) ∙ at_place row (slot_number l key)

within : (l : Limits) (row : List Slot) (key : PageKey) → IsKey l key → length row ≡ page_count l → slot_number l key < length row
within l row key is each = let low = slot_there l key is in omega (arith, low, each)

-- a page that is put into its slot is put into the memory
pub page_put : (l : Limits) (row : List Slot) (key : PageKey) (bytes : List ℕ) → IsKey l key → length row ≡ page_count l
    → pages_in l (slice_set row (slot_number l key) (Some bytes)) ≡ map.insert (pages_in l row) key bytes
page_put l row key bytes is each =
    from_slots-set keys_total keys_exact (key_of l.pages) (slot_of l.pages) (tie l.pages) row key (slot_number l key) bytes (slot_is l key is) (within l row key is each)

-- and one that is moved out is gone
pub page_gone : (l : Limits) (row : List Slot) (key : PageKey) → IsKey l key → length row ≡ page_count l
    → pages_in l (slice_set row (slot_number l key) None) ≡ map.remove (pages_in l row) key
page_gone l row key is each =
    from_slots-empty keys_total keys_exact (key_of l.pages) (slot_of l.pages) (tie l.pages) row key (slot_number l key) (slot_is l key is) (within l row key is each)

some_low : (slots : List Slot) (i : ℕ) → IsSome (slice_index_or slots i None) → i < length slots
some_low [] i h = search (rules, h)
some_low (x ∷ slots) zero h = omega arith
some_low (x ∷ slots) (suc i) h = let l : i < length slots = some_low slots i h in omega arith

-- only pages of the device lie there
pub keys_there : (l : Limits) (row : List Slot) (key : PageKey) → length row ≡ page_count l
    → HasPage (pages_in l row) key → IsKey l key
keys_there l row (Guest p) each has = go (nat_lt p l.pages) refl (subst IsSome (in_slots l row (Guest p)) has) where
  go : (b : Bool) → nat_lt p l.pages ≡ b → IsSome (at_from 0 row (cond b (Some p) None)) → p < l.pages
  go true e h = grind (arith, nat_tests)
  go false e h = search (rules, h)
keys_there l row (Frame g) each has =
    let low = some_low row (l.pages + g) (subst IsSome (in_slots l row (Frame g) ∙ at_place row (l.pages + g)) has) in omega (arith, low, each)

abbrev no_slot : Slot
no_slot = None

none_at : (n k : ℕ) → slice_index_or (replicate n no_slot) k no_slot ≡ no_slot
none_at zero k = refl
none_at (suc n) zero = refl
none_at (suc n) (suc k) = none_at n k

-- none lies in an empty row
pub none_there : (l : Limits) (n : ℕ) (key : PageKey) → page_at (pages_in l (replicate n None)) key ≡ None
none_there l n key = in_slots l (replicate n no_slot) key ∙ go (slot_of l.pages key) where
  go : (o : Option ℕ) → at_from 0 (replicate n no_slot) o ≡ None
  go None = refl
  go (Some k) = at_place (replicate n no_slot) k ∙ none_at n k

pub no_pages : (l : Limits) (n : ℕ) → pages_in l (replicate n None) ≡ map.empty
no_pages l n = same_gets keys_total keys_exact (pages_in l (replicate n no_slot)) map.empty (λ q. none_there l n q ∙ sym (map.get-empty key_cmp q))

any_default : (slots : List Slot) (n : ℕ) (a b : Slot) → n < length slots → slice_index_or slots n a ≡ slice_index_or slots n b
any_default [] n a b low = absurd (omega (arith, low))
any_default (x ∷ xs) zero a b low = refl
any_default (x ∷ xs) (suc n) a b low = any_default xs n a b (omega (arith, low))

-- what was found in a page's slot
module _ (l : Limits) (row : List Slot) (key : PageKey) (n : ℕ) (o : Slot) (each : length row ≡ page_count l)
    (here : n ≡ slot_number l key) (found : o ≡ slice_index_or row n o) (is : IsKey l key) where
  pub found_there : page_at (pages_in l row) key ≡ o
  found_there = page_here l row key is ∙ ap (λ k. slice_index_or row k None) (sym here)
      ∙ any_default row n None o (let low = within l row key is each in omega (arith, here, low)) ∙ sym found

none_is_none : (o : Slot) → o ≡ None → IsSome o → ⊥
none_is_none None e h = search (rules, h)
none_is_none (Some x) e h = cc

pub there_is : (l : Limits) (row : List Slot) (key : PageKey) (n : ℕ) (o : Slot) → length row ≡ page_count l
    → n ≡ slot_number l key → o ≡ slice_index_or row n o → HasPage (pages_in l row) key → o ≡ None → ⊥
there_is l row key n o each here found has e =
    let is = keys_there l row key each has in
    none_is_none o e (subst IsSome (found_there l row key n o each here found is) has)

filled_row : (n : ℕ) (bytes : List ℕ) → ◌≡◌ {A = List Slot} (replicate n (Some bytes)) (map_list Some (replicate n bytes))
filled_row zero bytes = refl
filled_row (suc n) bytes = ap (λ row. Some bytes ∷ row) (filled_row n bytes)

-- a row of pages of zeros is the device's memory of zeros
pub zero_pages : (l : Limits) → IsZeroMemoryOf l (pages_in l (replicate (page_count l) (Some (replicate PAGE_SIZE 0))))
zero_pages l = subst (λ row. IsZeroMemoryOf l (from_slots (key_of l.pages) row)) (sym (filled_row (page_count l) (replicate PAGE_SIZE 0))) (zero_memory l)
