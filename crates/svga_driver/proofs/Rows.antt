-- A row with a place for each page of a device, as a map by its keys.
use Rattle.std.proofs.Common.{◌≡◌, ℕ, zero, suc, ◌+◌, ◌-◌, ◌<◌, ◌==◌, nat_lt, Bool, true, false, cond, refl, sym, ap, subst, ◌∙◌, Option, Some, None, IsSome, List, [], ◌∷◌, length, slice_index_or, slice_set, replicate, map as map_list, arith}
use Rattle.std.proofs.lemmas.Bool.Decides.{nat_tests}
use Rattle.std.specs.FinMap as map
use Rattle.std.specs.FinMap.{FinMap}
use Rattle.std.specs.Ordering.{eq_by_cmp, is_eq, nat_cmp}
use Rattle.svga_cmd.proofs.KeyLaws.{keys_exact, keys_total}
use Rattle.svga_cmd.proofs.Maps.{same_gets}
use Rattle.svga_cmd.proofs.SlotLaws.{at_from, at_place, from_slots-empty, from_slots-set, get-from_slots, is_place}
use Rattle.svga_cmd.specs.Pages.{IsKey, is_key, key_cmp}
use Rattle.svga_cmd.specs.Slots.{from_slots, key_of, slot_of}
use Rattle.svga_cmd.specs.declared.limits.Limits.{Limits}
use Rattle.svga_cmd.specs.declared.page.PageKey.{PageKey}
use Rattle.svga_cmd.specs.declared.page.PageKey.TheVariants.{Guest, Frame}
use Rattle.svga_ring.proofs.Pages.Locations.{slot_there}
use Rattle.svga_ring.specs.SharedTable.{page_count, slot_number}

same_cmp : (p i : ℕ) → is_eq (nat_cmp p i) ≡ (p == i)
same_cmp p i = grind (arith, nat_tests)

chosen : (b : Bool) (p i : ℕ) → cond b (p == i) false ≡ is_place i (cond b (Some p) None)
chosen true p i = refl
chosen false p i = refl

-- a key is that of slot i where i is its slot
tie : (guest : ℕ) (q : PageKey) (i : ℕ) → eq_by_cmp key_cmp q (key_of guest i) ≡ is_place i (slot_of guest q)
unfolding key_cmp
tie guest (Guest p) i = go (nat_lt i guest) refl where
  go : (b : Bool) → nat_lt i guest ≡ b
      → eq_by_cmp key_cmp (Guest p) (cond b (Guest i) (Frame (i - guest))) ≡ is_place i
      (slot_of guest (Guest p))
  go true e = same_cmp p i
      ∙ (let l : (p == i) ≡ cond (nat_lt p guest) (p == i) false = grind (arith, nat_tests) in l)
      ∙ chosen (nat_lt p guest) p i
  go false e = (let l : false ≡ cond (nat_lt p guest) (p == i) false = grind (arith, nat_tests) in l)
      ∙ chosen (nat_lt p guest) p i
tie guest (Frame g) i = go (nat_lt i guest) refl where
  go : (b : Bool) → nat_lt i guest ≡ b
      → eq_by_cmp key_cmp (Frame g) (cond b (Guest i) (Frame (i - guest))) ≡ is_place i
      (slot_of guest (Frame g))
  go true e = grind (arith, nat_tests)
  go false e = same_cmp g (i - guest)
      ∙ (let l : (g == (i - guest)) ≡ ((guest + g) == i) = grind (arith, nat_tests) in l)

slot_is : (l : Limits) (key : PageKey) → IsKey l key → slot_of l.pages key ≡ Some (slot_number l key)
slot_is l (Guest p) low = ap (λ b. cond b (Some p) None)
    (let e : nat_lt p l.pages ≡ true = grind (arith, nat_tests) in e)
slot_is l (Frame g) low = refl

abbrev pub row_map : {X : Type 0} → Limits → List (Option X) → FinMap key_cmp X
row_map l row = from_slots (key_of l.pages) row

pub in_slots : {X : Type 0} (l : Limits) (row : List (Option X)) (q : PageKey)
    → map.get (row_map l row) q ≡ at_from 0 row (slot_of l.pages q)
in_slots l row q = get-from_slots keys_total keys_exact (key_of l.pages) (slot_of l.pages) (tie l.pages) row q

module _ {X : Type 0} (l : Limits) (row : List (Option X)) where
  pub row_at : (key : PageKey) → IsKey l key → map.get (row_map l row) key ≡ slice_index_or row
      (slot_number l key) None
  row_at key is =
      get-from_slots keys_total keys_exact (key_of l.pages) (slot_of l.pages) (tie l.pages) row key
      ∙ ap (at_from 0 row) (slot_is l key is) ∙ at_place row (slot_number l key)

  pub row_within : (key : PageKey) → IsKey l key → length row ≡ page_count l → slot_number l key < length row
  row_within key is each = let low = slot_there l key is in omega (arith, low, each)

  pub row_set : (key : PageKey) (x : X) → IsKey l key → length row ≡ page_count l
      → row_map l (slice_set row (slot_number l key) (Some x)) ≡ map.insert (row_map l row) key x
  row_set key x is each =
      from_slots-set keys_total keys_exact (key_of l.pages) (slot_of l.pages) (tie l.pages) row key
      (slot_number l key) x (slot_is l key is) (row_within key is each)

  pub row_emptied : (key : PageKey) → IsKey l key → length row ≡ page_count l
      → row_map l (slice_set row (slot_number l key) None) ≡ map.remove (row_map l row) key
  row_emptied key is each =
      from_slots-empty keys_total keys_exact (key_of l.pages) (slot_of l.pages) (tie l.pages) row key
      (slot_number l key) (slot_is l key is) (row_within key is each)

abbrev none_of : (X : Type 0) → Option X
none_of X = None

pub any_default : {X : Type 0} (slots : List (Option X)) (n : ℕ) (a b : Option X) → n < length slots
    → slice_index_or slots n a ≡ slice_index_or slots n b
any_default [] n a b low = absurd (omega (arith, low))
any_default (x ∷ xs) zero a b low = refl
any_default (x ∷ xs) (suc n) a b low = any_default xs n a b (omega (arith, low))

none_at : {X : Type 0} (n k : ℕ) → slice_index_or (replicate n (none_of X)) k None ≡ None
none_at zero k = refl
none_at (suc n) zero = refl
none_at (suc n) (suc k) = none_at n k

pub empty_row : {X : Type 0} (l : Limits) (n : ℕ) → row_map l (replicate n (none_of X)) ≡ map.empty
empty_row {X} l n = same_gets keys_total keys_exact (row_map l (replicate n (none_of X))) map.empty (λ q.
    get-from_slots keys_total keys_exact (key_of l.pages) (slot_of l.pages) (tie l.pages)
    (replicate n (none_of X)) q
    ∙ go (slot_of l.pages q) ∙ sym (map.get-empty key_cmp q))
  where
    go : (o : Option ℕ) → at_from 0 (replicate n (none_of X)) o ≡ None
    go None = refl
    go (Some k) = at_place (replicate n (none_of X)) k ∙ none_at n k

-- a list of other things about each place
pub map_set : {X Y : Type 0} (f : X → Y) (xs : List X) (i : ℕ) (x : X)
    → map_list f (slice_set xs i x) ≡ slice_set (map_list f xs) i (f x)
map_set f [] i x = refl
map_set f (y ∷ xs) zero x = refl
map_set f (y ∷ xs) (suc i) x = ap (λ ys. f y ∷ ys) (map_set f xs i x)

pub map_index : {X Y : Type 0} (f : X → Y) (xs : List X) (i : ℕ) (x : X)
    → slice_index_or (map_list f xs) i (f x) ≡ f (slice_index_or xs i x)
map_index f [] i x = refl
map_index f (y ∷ xs) zero x = refl
map_index f (y ∷ xs) (suc i) x = map_index f xs i x

pub map_none : {X Y : Type 0} (f : Option X → Option Y) (n : ℕ) → f None ≡ None
    → map_list f (replicate n None) ≡ replicate n None
map_none f zero e = refl
map_none f (suc n) e = λ i. e i ∷ map_none f n e i

pub map_length : {X Y : Type 0} (f : X → Y) (xs : List X) → length (map_list f xs) ≡ length xs
map_length f [] = refl
map_length f (x ∷ xs) = ap suc (map_length f xs)

some_low : {X : Type 0} (slots : List (Option X)) (i : ℕ) → IsSome (slice_index_or slots i None)
    → i < length slots
some_low [] i h = absurd (cc h)
some_low (x ∷ slots) zero h = omega arith
some_low (x ∷ slots) (suc i) h = let l : i < length slots = some_low slots i h in omega arith

-- only keys of the device stand there
pub row_keys : {X : Type 0} (l : Limits) (row : List (Option X)) (key : PageKey) → length row ≡ page_count l
    → IsSome (map.get (row_map l row) key) → IsKey l key
row_keys l row (Guest p) each has = go (nat_lt p l.pages) refl
    (subst IsSome (in_slots l row (Guest p)) has) where
      go : (b : Bool) → nat_lt p l.pages ≡ b → IsSome (at_from 0 row (cond b (Some p) None)) → p < l.pages
      go true e h = grind (arith, nat_tests)
      go false e h = absurd (cc h)
row_keys l row (Frame g) each has =
    let low = some_low row (l.pages + g)
    (subst IsSome (in_slots l row (Frame g) ∙ at_place row (l.pages + g)) has) in
    omega (arith, low, each)

none_or : {X : Type 0} (o : Option X) → (IsSome o → ⊥) → o ≡ None
none_or None away = refl
none_or (Some x) away = absurd (away refl)

key_is : (l : Limits) (key : PageKey) → IsKey l key → is_key l key ≡ true
key_is l (Guest p) is = grind (arith, nat_tests)
key_is l (Frame g) is = grind (arith, nat_tests)

-- so that none stands at another one
pub row_off : {X : Type 0} (l : Limits) (row : List (Option X)) (key : PageKey) → length row ≡ page_count l
    → is_key l key ≡ false → map.get (row_map l row) key ≡ None
row_off l row key each out = none_or (map.get (row_map l row) key) (λ some.
    let is = key_is l key (row_keys l row key each some) in cc (is, out))

pub row_is : (l : Limits) (key : PageKey) → is_key l key ≡ true → IsKey l key
row_is l (Guest p) is = grind (arith, nat_tests, is)
row_is l (Frame g) is = grind (arith, nat_tests, is)
