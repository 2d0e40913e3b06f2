-- Pages in a row: the slot of a key.
use Rattle.std.proofs.Common.{◌≡◌, ℕ, ◌+◌, ◌-◌, ◌<◌, ◌==◌, nat_lt, Bool, true, false, cond, refl, sym, ap, subst, ◌∙◌, Option, Some, None, List, length, slice_index_or, slice_set, slice_get, map, arith, IsSome, zero, suc, [], ◌∷◌, rules, replicate, ◌↔◌, IfSome, IsTrue}
use Rattle.std.proofs.lemmas.Bool.Decides.{nat_tests}
use Rattle.std.proofs.lemmas.Grind.{common_steps, elements}
use Rattle.std.proofs.lemmas.List.{map-set, length-map}
use Rattle.std.specs.FinMap as map
use Rattle.std.specs.Ordering.{eq_by_cmp, is_eq, nat_cmp}
use Rattle.svga_cmd.specs.declared.constants.TheConstants.{PAGE_SIZE}
use Rattle.svga_cmd.specs.declared.page.PageKey.{PageKey}
use Rattle.svga_cmd.specs.declared.page.PageKey.TheVariants.{Guest, Frame}
use Rattle.svga_cmd.specs.Limits.{frame_page_count}
use Rattle.svga_cmd.specs.declared.limits.Limits.{Limits}
use Rattle.svga_cmd.specs.Pages.{IsKey, IsZeroMemoryOf, Memory, key_cmp, page_at, HasPage}
use Rattle.svga_cmd.specs.Slots.{key_of, slot_of, memory_of, from_slots}
use Rattle.svga_cmd.proofs.KeyLaws.{keys_total, keys_exact}
use Rattle.svga_cmd.proofs.SlotLaws.{is_place, at_from, get-from_slots, from_slots-set, at_place}

-- two numbers are not told apart where they are one
same_cmp : (p i : ℕ) → is_eq (nat_cmp p i) ≡ (p == i)
same_cmp p i = grind (arith, nat_tests)

chosen : (b : Bool) (p i : ℕ) → cond b (p == i) false ≡ is_place i (cond b (Some p) None)
chosen true p i = refl
chosen false p i = refl

-- a key is that of slot i where i is its slot
tie : (guest : ℕ) (q : PageKey) (i : ℕ) → eq_by_cmp key_cmp q (key_of guest i) ≡ is_place i (slot_of guest q)
unfolding key_cmp
tie guest (Guest p) i = go (nat_lt i guest) refl where
  go : (b : Bool) → nat_lt i guest ≡ b → eq_by_cmp key_cmp (Guest p) (cond b (Guest i) (Frame (i - guest))) ≡ is_place i (slot_of guest (Guest p))
  go true e = same_cmp p i ∙ (let l : (p == i) ≡ cond (nat_lt p guest) (p == i) false = grind (arith, nat_tests) in l) ∙ chosen (nat_lt p guest) p i
  go false e = (let l : false ≡ cond (nat_lt p guest) (p == i) false = grind (arith, nat_tests) in l) ∙ chosen (nat_lt p guest) p i
tie guest (Frame g) i = go (nat_lt i guest) refl where
  go : (b : Bool) → nat_lt i guest ≡ b → eq_by_cmp key_cmp (Frame g) (cond b (Guest i) (Frame (i - guest))) ≡ is_place i (slot_of guest (Frame g))
  go true e = grind (arith, nat_tests)
  go false e = same_cmp g (i - guest) ∙ (let l : (g == (i - guest)) ≡ ((guest + g) == i) = grind (arith, nat_tests) in l)

-- a memory has at a key what the row has at its slot
page_at-memory_of : (guest : ℕ) (pages : List (List ℕ)) (q : PageKey) → page_at (memory_of guest pages) q ≡ at_from 0 (map Some pages) (slot_of guest q)
page_at-memory_of guest pages q = get-from_slots keys_total keys_exact (key_of guest) (slot_of guest) (tie guest) (map Some pages) q

-- to write a slot of the row is to write the memory at its key
memory_of-set : (guest : ℕ) (pages : List (List ℕ)) (q : PageKey) (i : ℕ) (bytes : List ℕ) → slot_of guest q ≡ Some i → i < length pages → memory_of guest (slice_set pages i bytes) ≡ map.insert (memory_of guest pages) q bytes
memory_of-set guest pages q i bytes at l = ap (from_slots (key_of guest)) (map-set Some pages i bytes)
    ∙ from_slots-set keys_total keys_exact (key_of guest) (slot_of guest) (tie guest) (map Some pages) q i bytes at (omega (arith, length-map pages (λ (x : List ℕ). Some x)))

slots_get : {X : Type 0} (xs : List X) (i : ℕ) → slice_index_or (map Some xs) i None ≡ slice_get xs i
slots_get [] i = refl
slots_get (x ∷ xs) zero = refl
slots_get (x ∷ xs) (suc i) = slots_get xs i

some_within : {X : Type 0} (xs : List X) (i : ℕ) → IsSome (slice_get xs i) → i < length xs
some_within [] i h = search (rules, h)
some_within (x ∷ xs) zero h = omega arith
some_within (x ∷ xs) (suc i) h = let l : i < length xs = some_within xs i h in omega arith

-- what an index reads
item_at : {X : Type 0} (xs : List X) (i : ℕ) (x : X) → i < length xs → x ≡ slice_index_or xs i x → slice_get xs i ≡ Some x
item_at xs i x l e = grind (arith, common_steps, elements)

-- a row of pages, and a key that its memory has
module _ (guest : ℕ) (pages : List (List ℕ)) (m : Memory) (is : memory_of guest pages ≡ m) (key : PageKey) (there : HasPage m key) where
  page_at_slot : (i : ℕ) → slot_of guest key ≡ Some i → page_at m key ≡ slice_get pages i
  page_at_slot i e = ap (λ n. page_at n key) (sym is) ∙ page_at-memory_of guest pages key ∙ ap (at_from 0 (map Some pages)) e ∙ at_place (map Some pages) i ∙ slots_get pages i

  pub has_slot : IsSome (slot_of guest key)
  has_slot = go (slot_of guest key) (subst IsSome (ap (λ n. page_at n key) (sym is) ∙ page_at-memory_of guest pages key) there) where
    go : (o : Option ℕ) → IsSome (at_from 0 (map Some pages) o) → IsSome o
    go None e = search (rules, e)
    go (Some i) e = search rules

  pub slot_within : (i : ℕ) → slot_of guest key ≡ Some i → i < length pages
  slot_within i e = some_within pages i (subst IsSome (page_at_slot i e) there)

  -- the page in the slot is the memory's
  pub page_read : (i : ℕ) (page : List ℕ) → slot_of guest key ≡ Some i → page ≡ slice_index_or pages i page → page_at m key ≡ Some page
  page_read i page e read = page_at_slot i e ∙ item_at pages i page (slot_within i e) read

  -- to write there is to write the memory's page
  pub page_written : (i : ℕ) (bytes : List ℕ) → slot_of guest key ≡ Some i → memory_of guest (slice_set pages i bytes) ≡ map.insert m key bytes
  page_written i bytes e = memory_of-set guest pages key i bytes e (slot_within i e) ∙ ap (λ n. map.insert n key bytes) is

-- what a row of equal pages has at a slot
slice_get-replicate : {X : Type 0} (n i : ℕ) (x : X) → slice_get (replicate n x) i ≡ cond (nat_lt i n) (Some x) None
slice_get-replicate zero i x = ap (λ b. cond b (Some x) None) (let l : false ≡ nat_lt i 0 = grind (arith, nat_tests) in l)
slice_get-replicate (suc n) zero x = ap (λ b. cond b (Some x) None) (let l : true ≡ nat_lt 0 (suc n) = grind (arith, nat_tests) in l)
slice_get-replicate (suc n) (suc i) x = slice_get-replicate n i x ∙ ap (λ b. cond b (Some x) None) (let l : nat_lt i n ≡ nat_lt (suc i) (suc n) = grind (arith, nat_tests) in l)

-- whether there is such a page, of so many of each kind
abbrev pub is_present : ℕ → ℕ → PageKey → Bool
is_present guest frames (Guest p) = nat_lt p guest
is_present guest frames (Frame g) = nat_lt g frames

-- so many pages of each kind, all with these bytes
module _ (guest frames : ℕ) (bytes : List ℕ) where
  at_slot : (i : ℕ) → at_from 0 (map Some (replicate (guest + frames) bytes)) (Some i) ≡ cond (nat_lt i (guest + frames)) (Some bytes) None
  at_slot i = at_place _ i ∙ slots_get _ i ∙ slice_get-replicate (guest + frames) i bytes

  pub page_at-replicate : (key : PageKey) → page_at (memory_of guest (replicate (guest + frames) bytes)) key ≡ cond (is_present guest frames key) (Some bytes) None
  page_at-replicate (Guest p) = page_at-memory_of guest _ (Guest p) ∙ go (nat_lt p guest) refl where
    go : (b : Bool) → nat_lt p guest ≡ b → at_from 0 (map Some (replicate (guest + frames) bytes)) (cond b (Some p) None) ≡ cond b (Some bytes) None
    go true e = at_slot p ∙ ap (λ b. cond b (Some bytes) None) (let l : nat_lt p (guest + frames) ≡ true = grind (arith, nat_tests) in l)
    go false e = refl
  page_at-replicate (Frame g) = page_at-memory_of guest _ (Frame g) ∙ at_slot (guest + g)
      ∙ ap (λ b. cond b (Some bytes) None) (let l : nat_lt (guest + g) (guest + frames) ≡ nat_lt g frames = grind (arith, nat_tests) in l)

-- such a page is there where its key is one of the device
has_key : (l : Limits) (key : PageKey) → IsTrue (is_present l.pages (frame_page_count l) key) ↔ IsKey l key
has_key l (Guest p) = search (rules, nat_tests)
has_key l (Frame g) = search (rules, nat_tests)

is_chosen : (b : Bool) (bytes : List ℕ) → IsSome (cond b (Some bytes) None) ↔ IsTrue b
is_chosen true bytes = search rules
is_chosen false bytes = search rules

chosen_alone : (b : Bool) (bytes : List ℕ) → IfSome (cond b (Some bytes) None) (λ page. page ≡ bytes)
chosen_alone true bytes = refl
chosen_alone false bytes = tt

-- the pages of a device in a row, all of them zeros
pub zero_memory : (l : Limits) → IsZeroMemoryOf l (memory_of l.pages (replicate (l.pages + frame_page_count l) (replicate PAGE_SIZE 0)))
zero_memory l = let zeros : List ℕ = replicate PAGE_SIZE 0 in record {
  keys = λ key. subst (λ page. IsSome page ↔ IsKey l key) (sym (page_at-replicate l.pages (frame_page_count l) zeros key))
      (λ some. (has_key l key).0 ((is_chosen _ zeros).0 some), λ is. (is_chosen _ zeros).1 ((has_key l key).1 is));
  zeros = λ key. subst (λ page. IfSome page (λ bytes. bytes ≡ zeros)) (sym (page_at-replicate l.pages (frame_page_count l) zeros key)) (chosen_alone _ zeros);
}
