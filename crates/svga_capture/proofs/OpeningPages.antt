-- Pages that are filled one after another, as their records stand.
use Rattle.std.proofs.Common.{◌≡◌, ℕ, suc, ◌+◌, ◌*◌, ◌-◌, ◌<◌, ◌≤◌, refl, sym, ap, subst, ◌∙◌, List, [], ◌∷◌, length, map as map_list, fold, Bool, true, nat_lt, replicate, slice_range, Option, None, IfSome, arith}
use Rattle.std.proofs.lemmas.Bool.Decides.{nat_tests}
use Rattle.std.specs.FinMap as map
use Rattle.std.specs.FinMap.{get-empty}
use Rattle.std.specs.List.{range_with_len}
use Rattle.svga_cmd.proofs.KeyLaws.{keys_exact, keys_total}
use Rattle.svga_cmd.proofs.Maps.{by_key, get_other, get_same, same_keys}
use Rattle.svga_cmd.proofs.MemoryLaws.{one_zero_memory}
use Rattle.svga_cmd.specs.Limits.{frame_page_count}
use Rattle.svga_cmd.specs.Pages.{HasPage, IsKey, IsZeroMemoryOf, Memory, is_key, key_cmp, page_at}
use Rattle.svga_cmd.specs.declared.constants.TheConstants.{PAGE_SIZE}
use Rattle.svga_cmd.specs.declared.limits.Limits.{Limits}
use Rattle.svga_cmd.specs.declared.page.PageKey.{PageKey}
use Rattle.svga_cmd.specs.declared.page.PageKey.TheVariants.{Frame, Guest}
use Rattle.svga_model.proofs.PutLaws.{with_page-has}
use Rattle.svga_model.proofs.ValidMemory.{opening_has, opening_pages}
use Rattle.svga_model.specs.CaptureFields.{first_flaw, key_before, key_of_word, limits_in, ordered_field, page_count, page_fields, page_record_at}
use Rattle.svga_model.specs.Captures.{listed_bytes, listed_key, listed_memory}
use Rattle.svga_model.specs.Memories.{with_page}
use Rattle.svga_model.specs.States.{all_keys, opening_memory}
use Rattle.svga_model.specs.Walks.{little_word}
use Rattle.svga_capture.proofs.FieldLaws.{field_good, first_good, flat_good, ordered_good, parts_good}
use Rattle.svga_capture.specs.Fields.{AreFields}
use Rattle.svga_capture.specs.declared.fields.Fields.{Fields}

-- a page of the device, by the test
key_is : (l : Limits) (key : PageKey) → is_key l key ≡ true → IsKey l key
key_is l (Guest p) e = grind (arith, nat_tests)
key_is l (Frame g) e = go (frame_page_count l) e where
  go : (n : ℕ) → nat_lt g n ≡ true → g < n
  go n e = grind (arith, nat_tests)

-- What a page's record says.
pub record IsPageRecord (bytes : List ℕ) (at : ℕ) : Type 0 where
  pub there : at + 4100 ≤ length bytes
  pub key : IsKey (limits_in bytes) (key_of_word (little_word bytes at))

pub page_record : (bytes : List ℕ) (j : ℕ) → first_flaw bytes (page_fields bytes) ≡ None → j < page_count bytes
    → IsPageRecord bytes (page_record_at bytes j)
page_record bytes j good l =
    let at = page_record_at bytes j in
    let rule : ℕ → Bool = λ w. is_key (limits_in bytes) (key_of_word w) in
    let both = flat_good bytes (λ j. ordered_field bytes (page_record_at bytes j) (key_before bytes j) (λ w. is_key (limits_in bytes) (key_of_word w))
    ∷ record { at = page_record_at bytes j + 4; size = PAGE_SIZE; breaks = None } ∷ []) 0 (page_count bytes) j good (omega arith) (omega (arith, l)) in
    let first = first_good bytes (ordered_field bytes at (key_before bytes j) rule) (record { at = at + 4; size = PAGE_SIZE; breaks = None } ∷ []) both in
    let second = first_good bytes (record { at = at + 4; size = PAGE_SIZE; breaks = None }) [] first.1 in
    let end = (field_good bytes (record { at = at + 4; size = PAGE_SIZE; breaks = None }) second.0).0 in
    record {
      there = omega (arith, end);
      key = key_is (limits_in bytes) (listed_key bytes j) (ordered_good bytes at (key_before bytes j) rule first.0).1.0;
    }

-- pages that all have the same bytes
all_same : (zeros : List ℕ) (keys : List PageKey) (q : PageKey)
    → IfSome (page_at (map.from_entries (map_list (λ key. (key, zeros)) keys)) q) (λ bytes. bytes ≡ zeros)
all_same zeros [] q = subst (λ o. IfSome o (λ bytes. bytes ≡ zeros)) (sym (get-empty key_cmp q)) tt
all_same zeros (key ∷ keys) q =
    let rest : Memory = map.from_entries (map_list (λ key. (key, zeros)) keys) in
    let P : Option (List ℕ) → Type 0 = λ o. IfSome o (λ bytes. bytes ≡ zeros) in
    by_key keys_total keys_exact q key (P (page_at (map.insert rest key zeros) q))
    (λ is. subst P (sym (ap (page_at (map.insert rest key zeros)) is ∙ get_same keys_total keys_exact rest key zeros)) refl)
    (λ ne. subst P (sym (get_other keys_total keys_exact rest key q zeros ne)) (all_same zeros keys q))

opening_zero : (l : Limits) → IsZeroMemoryOf l (opening_memory l)
unfolding opening_memory
opening_zero l = record {
  keys = λ key. ((opening_pages l).keys key, opening_has l key);
  zeros = λ key. all_same (replicate PAGE_SIZE 0) (all_keys l) key;
}

-- one more page of those with records
abbrev pub filled : List ℕ → Memory → ℕ → Memory
filled bytes m j = with_page m (listed_key bytes j) (listed_bytes bytes j)

-- So many records are left, from record j on: what they hold is all that this memory lacks.
pub record AreUnfilled (bytes : List ℕ) (j n : ℕ) (m : Memory) : Type 0 where
  pub keys : (key : PageKey) → IsKey (limits_in bytes) key → HasPage m key
  pub filled_is : fold (filled bytes) m (range_with_len j n) ≡ listed_memory bytes

-- at first all are left
pub all_unfilled : (bytes : List ℕ) (m : Memory) (end : ℕ) → IsZeroMemoryOf (limits_in bytes) m → end ≡ page_count bytes
    → AreUnfilled bytes 0 (end - 0) m
all_unfilled bytes m end none e = record {
  keys = λ key is. (none.keys key).1 is;
  filled_is = (λ i. fold (filled bytes) (one_zero_memory (limits_in bytes) m (opening_memory (limits_in bytes)) none (opening_zero (limits_in bytes)) i)
      (range_with_len 0 ((let z : end - 0 ≡ page_count bytes = omega (arith, e) in z) i)));
}

-- one less
pub one_filled : (bytes : List ℕ) (j end : ℕ) (m news : Memory) → j < end → AreUnfilled bytes j (end - j) m
    → HasPage m (listed_key bytes j) → news ≡ filled bytes m j → AreUnfilled bytes (j + 1) (end - (j + 1)) news
one_filled bytes j end m news l left has is =
    let key = listed_key bytes j in
    let put : news ≡ map.insert m key (listed_bytes bytes j) = is ∙ with_page-has m key (listed_bytes bytes j) has in
    record {
      keys = λ q own. subst (λ n. HasPage n q) (sym put) ((same_keys keys_total keys_exact m key q (listed_bytes bytes j) has).1 (left.keys q own));
      filled_is = ap (λ n. fold (filled bytes) n (range_with_len (j + 1) (end - (j + 1)))) is
          ∙ ap (λ n. fold (filled bytes) m (range_with_len j n)) (let e : suc (end - (j + 1)) ≡ end - j = omega (arith, l) in e)
          ∙ left.filled_is;
    }

-- none is left
pub none_unfilled : (bytes : List ℕ) (j end : ℕ) (m : Memory) → end ≤ j → AreUnfilled bytes j (end - j) m → m ≡ listed_memory bytes
none_unfilled bytes j end m l left =
    ap (λ n. fold (filled bytes) m (range_with_len j n)) (let e : 0 ≡ end - j = omega (arith, l) in e) ∙ left.filled_is

-- record j, as the fields say where it stands
module _ (bytes : List ℕ) (f : Fields) (are : AreFields bytes f) (j : ℕ) where
  here : f.pages.at + 4100 * j ≡ page_record_at bytes j
  here = ap (λ (f : Fields). f.pages.at + 4100 * j) are.said

  pub page_here : j < f.pages.count → IsPageRecord bytes (f.pages.at + 4100 * j)
  page_here l =
      let within : j < page_count bytes = subst (λ (f : Fields). j < f.pages.count) are.said l in
      subst (IsPageRecord bytes) (sym here) (page_record bytes j (parts_good bytes are.good).pages within)

  pub filled_here : (at : ℕ) (m news : Memory) → at ≡ f.pages.at + 4100 * j → j < f.pages.count
      → AreUnfilled bytes j (f.pages.count - j) m → HasPage m (key_of_word (little_word bytes at))
      → news ≡ with_page m (key_of_word (little_word bytes at)) (slice_range bytes (at + 4) (at + 4100))
      → AreUnfilled bytes (j + 1) (f.pages.count - (j + 1)) news
  filled_here at m news from l left has is =
      let e : at ≡ page_record_at bytes j = from ∙ here in
      one_filled bytes j f.pages.count m news l left (subst (λ at. HasPage m (key_of_word (little_word bytes at))) e has)
      (is ∙ ap (λ at. with_page m (key_of_word (little_word bytes at)) (slice_range bytes (at + 4) (at + 4100))) e)
