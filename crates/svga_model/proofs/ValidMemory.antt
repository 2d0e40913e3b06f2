-- The pages of a memory stay pages of the device where bytes are written, and none comes or goes.
use Rattle.std.proofs.Common.{◌≡◌, ℕ, zero, suc, ◌+◌, ◌<◌, ◌≤◌, refl, sym, ap, subst, ◌∙◌, List, [], ◌∷◌, ◌++◌, map as map_list, All, Bool, true, false, cond, Option, Some, None, unwrap_or, is_some, IfSome, IsSome, replicate, slice_index, slice_set, arith, inl, inr}
use Rattle.std.proofs.lemmas.Bool.{cases_lt}
use Rattle.std.proofs.lemmas.List.{length-replicate, length-set}
use Rattle.std.proofs.lemmas.List.Elements.{All-append, All-cons, All-head, All-nil, All-replicate, All-set, All-tail}
use Rattle.std.specs.FinMap as map
use Rattle.std.specs.FinMap.{get-from_entries}
use Rattle.std.specs.FinMap.Entries.{find}
use Rattle.std.specs.List.{range_with_len}
use Rattle.std.specs.Ordering.{eq_by_cmp}
use Rattle.svga_cmd.proofs.KeyLaws.{keys_exact, keys_total}
use Rattle.svga_cmd.proofs.Maps.{apart, by_key, get_other, get_same, tied}
use Rattle.svga_cmd.specs.Limits.{frame_page_count}
use Rattle.svga_cmd.specs.Pages.{HasPage, IsKey, IsPage, Memory, key_cmp, page_at}
use Rattle.svga_cmd.specs.declared.constants.TheConstants.{PAGE_SIZE}
use Rattle.svga_cmd.specs.declared.limits.Limits.{Limits}
use Rattle.svga_cmd.specs.declared.page.PageKey.{PageKey}
use Rattle.svga_cmd.specs.declared.page.PageKey.TheVariants.{Guest, Frame}
use Rattle.svga_model.proofs.ValidColours.{IsByte}
use Rattle.svga_model.proofs.ValidRules.{all_made, index_under}
use Rattle.svga_model.specs.Memories.{ByteWrite, located_byte, page_bytes, region_byte, with_byte, with_page, writes_from, written}
use Rattle.svga_model.specs.Members.{IsIn}
use Rattle.svga_model.specs.RegionBytes.{byte_location}
use Rattle.svga_model.specs.Regions.{Places}
use Rattle.svga_model.specs.States.{all_keys, opening_memory}
use Rattle.svga_model.specs.ValidStates.{ArePages}

-- a page that is there, with other bytes
put : (m : Memory) (key q : PageKey) (bytes : List ℕ) (o : Option (List ℕ)) → page_at m key ≡ o
    → is_some (page_at (cond (is_some o) (map.insert m key bytes) m) q) ≡ is_some (page_at m q)
put m key q bytes None e = refl
put m key q bytes (Some old) e = by_key keys_total keys_exact q key
    (is_some (page_at (map.insert m key bytes) q) ≡ is_some (page_at m q))
    (λ is. ap (λ k. is_some (page_at (map.insert m key bytes) k)) is
    ∙ ap is_some (get_same keys_total keys_exact m key bytes) ∙ sym (ap (λ k. is_some (page_at m k)) is ∙ ap is_some e))
    (λ ne. ap is_some (get_other keys_total keys_exact m key q bytes ne))

-- the same pages are there
pub same_keys : (m : Memory) (key : PageKey) (bytes : List ℕ) (q : PageKey)
    → is_some (page_at (with_page m key bytes) q) ≡ is_some (page_at m q)
unfolding with_page
same_keys m key bytes q = put m key q bytes (page_at m key) refl

-- each page of the device is one, also where one gets other bytes
page_there : (l : Limits) (m : Memory) (key : PageKey) (bytes : List ℕ) → ArePages l m → (HasPage m key → IsPage bytes)
    → (q : PageKey) (o : Option (List ℕ)) → page_at m key ≡ o
    → IfSome (page_at (cond (is_some o) (map.insert m key bytes) m) q) IsPage
page_there l m key bytes are page q None e = are.pages q
page_there l m key bytes are page q (Some old) e = by_key keys_total keys_exact q key
    (IfSome (page_at (map.insert m key bytes) q) IsPage)
    (λ is. subst (λ o. IfSome o IsPage)
    (sym (ap (page_at (map.insert m key bytes)) is ∙ get_same keys_total keys_exact m key bytes))
    (page (ap is_some e)))
    (λ ne. subst (λ o. IfSome o IsPage) (sym (get_other keys_total keys_exact m key q bytes ne)) (are.pages q))

-- with the other bytes all pages are still those of the device
pub pages_put : (l : Limits) (m : Memory) (key : PageKey) (bytes : List ℕ) → ArePages l m
    → (HasPage m key → IsPage bytes) → ArePages l (with_page m key bytes)
unfolding with_page
pages_put l m key bytes are page = record {
  keys = λ q has. are.keys q (sym (same_keys m key bytes q) ∙ has);
  pages = λ q. page_there l m key bytes are page q (page_at m key) refl;
}

-- a page with another byte is one
page_set : (o : Option (List ℕ)) (at byte : ℕ) → IfSome o IsPage → IsByte byte → IsSome o
    → IsPage (slice_set (unwrap_or o []) at byte)
page_set None at byte page b some = absurd cc
page_set (Some bytes) at byte page b some =
    record { length_is = length-set bytes at byte ∙ page.length_is; each = All-set IsByte bytes at byte b page.each }

-- another byte at a location
pub same_keys_byte : (m : Memory) (at : Option (PageKey × ℕ)) (byte : ℕ) (q : PageKey)
    → is_some (page_at (with_byte m at byte) q) ≡ is_some (page_at m q)
same_keys_byte m None byte q = refl
same_keys_byte m (Some at) byte q = same_keys m at.0 (slice_set (page_bytes m at.0) at.1 byte) q

-- and the pages are still pages
pages_byte : (l : Limits) (m : Memory) (at : Option (PageKey × ℕ)) (byte : ℕ) → ArePages l m → IsByte byte
    → ArePages l (with_byte m at byte)
pages_byte l m None byte are b = are
pages_byte l m (Some at) byte are b = pages_put l m at.0 (slice_set (page_bytes m at.0) at.1 byte) are
    (page_set (page_at m at.0) at.1 byte (are.pages at.0) b)

-- writes of bytes
pub same_keys_written : (places : Places) (m : Memory) (ws : List ByteWrite) (q : PageKey)
    → is_some (page_at (written places m ws) q) ≡ is_some (page_at m q)
same_keys_written places m [] q = refl
same_keys_written places m (w ∷ ws) q = same_keys_written places (with_byte m (byte_location places w.at) w.byte) ws q
    ∙ same_keys_byte m (byte_location places w.at) w.byte q

-- and the pages are still pages
pub pages_written : (l : Limits) (places : Places) (m : Memory) (ws : List ByteWrite) → ArePages l m
    → All (λ w. IsByte w.byte) ws → ArePages l (written places m ws)
pages_written l places m [] are bytes = are
pages_written l places m (w ∷ ws) are bytes =
    pages_written l places (with_byte m (byte_location places w.at) w.byte) ws
    (pages_byte l m (byte_location places w.at) w.byte are (All-head (λ w. IsByte w.byte) w ws bytes))
    (All-tail (λ w. IsByte w.byte) w ws bytes)

-- bytes one behind another
pub writes_good : (i : ℕ) (bytes : List ℕ) → All IsByte bytes → All (λ w. IsByte w.byte) (writes_from i bytes)
writes_good i [] all = All-nil (λ (w : ByteWrite). IsByte w.byte)
writes_good i (byte ∷ bytes) all =
    All-cons (λ (w : ByteWrite). IsByte w.byte) (record { at = i; byte = byte }) (writes_from (i + 1) bytes)
    (All-head IsByte byte bytes all) (writes_good (i + 1) bytes (All-tail IsByte byte bytes all))

-- a byte of a page, 0 past its end
byte_good : (o : Option (List ℕ)) (i : ℕ) → IfSome o IsPage → IsByte (slice_index (unwrap_or o []) i)
byte_good None i page = omega arith
byte_good (Some bytes) i page = index_under 256 bytes i (omega arith) page.each

-- a byte at a location
located_good : (l : Limits) (m : Memory) (at : Option (PageKey × ℕ)) → ArePages l m → IsByte (located_byte m at)
located_good l m None are = omega arith
located_good l m (Some at) are = byte_good (page_at m at.0) at.1 (are.pages at.0)

-- a byte of a region
pub region_byte-good : (l : Limits) (m : Memory) (places : Places) → ArePages l m → (i : ℕ)
    → IsByte (region_byte m places i)
unfolding region_byte
region_byte-good l m places are i = located_good l m (byte_location places i) are

module _ (page : List ℕ) where
  -- what a map of these keys has, each with the same bytes
  abbrev pub found : List PageKey → PageKey → Option (List ℕ)
  found keys q = find key_cmp q (map_list (λ key. (key, page)) keys)

  -- it has the keys
  found_in : (keys : List PageKey) (q : PageKey) → IsIn q keys → found keys q ≡ Some page
  found_in [] q has = absurd has
  found_in (k ∷ keys) q (inl is) = ap (λ t. cond t (Some page) (found keys q))
      (ap (λ k. eq_by_cmp key_cmp q k) is ∙ tied keys_total keys_exact q)
  found_in (k ∷ keys) q (inr has) = elim (eq_by_cmp key_cmp q k)
      as (λ t. cond t (Some page) (found keys q) ≡ Some page) [ true ↦ refl | false ↦ found_in keys q has ]

  -- and no others
  found_only : (P : PageKey → Type 0) (keys : List PageKey) (q : PageKey) → All P keys → is_some (found keys q) ≡ true
      → P q
  found_only P [] q all some = absurd cc
  found_only P (k ∷ keys) q all some = by_key keys_total keys_exact q k (P q)
      (λ is. subst P (sym is) (All-head P k keys all))
      (λ ne. found_only P keys q (All-tail P k keys all)
      (sym (ap (λ t. is_some (cond t (Some page) (found keys q))) (apart keys_total keys_exact q k ne)) ∙ some))

  -- with these bytes
  found_page : (P : List ℕ → Type 0) (keys : List PageKey) (q : PageKey) → P page → IfSome (found keys q) P
  found_page P [] q h = tt
  found_page P (k ∷ keys) q h = at (eq_by_cmp key_cmp q k) (found_page P keys q h) where
    at : (t : Bool) → IfSome (found keys q) P → IfSome (cond t (Some page) (found keys q)) P
    at true rest = h
    at false rest = rest

-- a number's key among those of a range
in_range : (f : ℕ → PageKey) (a n p : ℕ) → a ≤ p → p < a + n → IsIn (f p) (map_list f (range_with_len a n))
in_range f a zero p low high = absurd (omega arith)
in_range f a (suc n) p low high = elim (cases_lt a p) as (λ _. IsIn (f p) (map_list f (range_with_len a (suc n)))) [
  | inl less ↦ inr (in_range f (a + 1) n p (omega arith) (omega arith))
  | inr here ↦ inl (ap f (omega arith))
]

-- a key in one of two lists is in both together
in_front : (x : PageKey) (xs ys : List PageKey) → IsIn x xs → IsIn x (xs ++ ys)
in_front x [] ys has = absurd has
in_front x (y ∷ xs) ys (inl is) = inl is
in_front x (y ∷ xs) ys (inr has) = inr (in_front x xs ys has)

in_back : (x : PageKey) (xs ys : List PageKey) → IsIn x ys → IsIn x (xs ++ ys)
in_back x [] ys has = has
in_back x (y ∷ xs) ys has = inr (in_back x xs ys has)

-- the keys of a device are all of its keys
in_all : (l : Limits) (key : PageKey) → IsKey l key → IsIn key (all_keys l)
in_all l (Guest p) low = in_front (Guest p) (map_list Guest (range_with_len 0 l.pages))
    (map_list Frame (range_with_len 0 (frame_page_count l))) (in_range Guest 0 l.pages p (omega arith) (omega arith))
in_all l (Frame g) low = in_back (Frame g) (map_list Guest (range_with_len 0 l.pages))
    (map_list Frame (range_with_len 0 (frame_page_count l)))
    (in_range Frame 0 (frame_page_count l) g (omega arith) (omega arith))

-- and no others
all_are_keys : (l : Limits) → All (IsKey l) (all_keys l)
all_are_keys l = All-append (IsKey l) (map_list Guest (range_with_len 0 l.pages))
    (map_list Frame (range_with_len 0 (frame_page_count l)))
    (all_made (IsKey l) Guest l.pages (λ k low. low)) (all_made (IsKey l) Frame (frame_page_count l) (λ k low. low))

-- zeros
zeros_page : IsPage (replicate PAGE_SIZE 0)
zeros_page = record { length_is = length-replicate {A = ℕ} PAGE_SIZE 0; each = All-replicate IsByte PAGE_SIZE 0 (omega arith) }

-- what the opening memory has
opening_page : (l : Limits) (key : PageKey) → page_at (opening_memory l) key ≡ found (replicate PAGE_SIZE 0) (all_keys l) key
unfolding opening_memory
opening_page l key = get-from_entries keys_total (map_list (λ key. (key, replicate PAGE_SIZE 0)) (all_keys l)) key

-- it has each page of the device
pub opening_has : (l : Limits) (key : PageKey) → IsKey l key → HasPage (opening_memory l) key
opening_has l key is = ap is_some (opening_page l key ∙ found_in (replicate PAGE_SIZE 0) (all_keys l) key (in_all l key is))

-- and no others
pub opening_pages : (l : Limits) → ArePages l (opening_memory l)
opening_pages l = record {
  keys = λ key has. found_only (replicate PAGE_SIZE 0) (IsKey l) (all_keys l) key (all_are_keys l)
      (sym (ap is_some (opening_page l key)) ∙ has);
  pages = λ key. subst (λ o. IfSome o IsPage) (sym (opening_page l key))
      (found_page (replicate PAGE_SIZE 0) IsPage (all_keys l) key zeros_page);
}
