-- The state with which a capture opens is a whole one, and its words are of 32 bits.
use Rattle.std.proofs.Common.{◌≡◌, ℕ, zero, suc, ◌+◌, ◌-◌, ◌*◌, ◌^◌, ◌<◌, ◌≤◌, ◌==◌, inl, inr, refl, sym, subst, ◌∙◌, List, length, fold, Bool, true, false, cond, drop, Some, None, IfSome, slice_index, slice_range, arith}
use Rattle.std.proofs.lemmas.Bool.{cases_lt}
use Rattle.std.proofs.lemmas.List.{get_or_past, length-drop, length-take}
use Rattle.std.proofs.lemmas.List.Elements.{All-drop, All-from_get_or, All-get_or, All-take}
use Rattle.std.proofs.lemmas.List.FromFn.{length-map-range_with_len}
use Rattle.std.specs.FinMap as map
use Rattle.std.specs.List.{range_with_len}
use Rattle.svga_cmd.specs.Limits.{AreLimits}
use Rattle.svga_cmd.specs.Pages.{HasPage, IsKey, IsPage, Memory}
use Rattle.svga_cmd.specs.declared.constants.TheConstants.{UNMAPPED_WORD}
use Rattle.svga_cmd.specs.declared.limits.Limits.{Limits}
use Rattle.svga_cmd.specs.declared.page.PageKey.{PageKey}
use Rattle.svga_cmd.specs.declared.page.PageKey.TheVariants.{Guest}
use Rattle.svga_machine.specs.Displays.{IsWholeState}
use Rattle.svga_model.proofs.ValidMemory.{opening_has, opening_pages, pages_put, same_keys}
use Rattle.svga_model.proofs.ValidRegions.{no_regions, regions_inserted}
use Rattle.svga_model.proofs.ValidRules.{all_made}
use Rattle.svga_model.proofs.ValidStateLaws.{opening_good}
use Rattle.svga_model.specs.Accepted.{AreWords}
use Rattle.svga_model.specs.CaptureFields.{RegionRecord, first_flaw, limits_in, page_count, page_fields, page_record_at, record_at, region_count, ring_end}
use Rattle.svga_model.specs.Captures.{flaw_in, listed_bytes, listed_key, listed_places, listed_regions, opening_in, place_of_word, waiting_words}
use Rattle.svga_model.specs.Regions.{Regions, place_count}
use Rattle.svga_model.specs.States.{opening_memory}
use Rattle.svga_model.specs.ValidStates.{ArePages, AreRegions}
use Rattle.svga_model.specs.Walks.{little_word}
use Rattle.svga_capture.proofs.FieldLaws.{parts_good}
use Rattle.svga_capture.proofs.OpeningPages.{filled, page_record}
use Rattle.svga_capture.proofs.OpeningPlaces.{mapped}
use Rattle.svga_capture.proofs.OpeningRegions.{AreLeft, all_left, first_record, left_more}
use Rattle.svga_capture.specs.Openings.{IsPlaceWord}

-- numbers of eight bits, as the bytes of a slice are
abbrev pub AreBytes : List ℕ → Type 0
AreBytes bytes = (i : ℕ) → slice_index bytes i < 256

-- a place that a word tells is unmapped or a guest page
place_key : (l : Limits) (w : ℕ) → IsPlaceWord l.pages w → IfSome (place_of_word w) (IsKey l)
place_key l w is = go (w == UNMAPPED_WORD) refl where
  go : (b : Bool) → (w == UNMAPPED_WORD) ≡ b → IfSome (cond b None (Some (Guest w))) (IsKey l)
  go true e = tt
  go false e = mapped l.pages w is e

-- the regions that are left are as regions should be
regions_whole : (bytes : List ℕ) (n at : ℕ) (regions : Regions) → AreLeft bytes n at regions
    → AreRegions (limits_in bytes) regions → AreRegions (limits_in bytes) (listed_regions bytes)
regions_whole bytes zero at regions left are = subst (AreRegions (limits_in bytes)) left.opened are
regions_whole bytes (suc n) at regions left are =
    let l = limits_in bytes in
    let r : RegionRecord = record_at bytes at in
    let first = first_record bytes n at (place_count regions) left.last left.good in
    let many : length (listed_places bytes r) ≡ r.count = length-map-range_with_len
    (λ k. place_of_word (little_word bytes (r.at + 8 + 4 * k))) 0 r.count in
    let room = first.room in
    regions_whole bytes n (at + (8 + 4 * r.count)) (map.insert regions r.id (listed_places bytes r))
    (left_more bytes n at regions left)
    (regions_inserted l regions r.id first.small are (listed_places bytes r)
    (all_made (λ place. IfSome place (IsKey l)) (λ k. place_of_word (little_word bytes (r.at + 8 + 4 * k))) r.count
    (λ k less. place_key l (little_word bytes (at + 8 + 4 * k)) (first.places k less).1))
    (omega (arith, many, room)))

-- the bytes of a record are those of a page
record_page : (bytes : List ℕ) (at : ℕ) → AreBytes bytes → at + 4100 ≤ length bytes
    → IsPage (slice_range bytes (at + 4) (at + 4100))
record_page bytes at small there = record {
  length_is = (let behind = length-drop (at + 4) bytes in
      omega (arith, length-take (at + 4100 - (at + 4)) (drop (at + 4) bytes), behind, there));
  each = All-take (λ byte. byte < 256) (at + 4100 - (at + 4)) (drop (at + 4) bytes)
      (All-drop (λ byte. byte < 256) (at + 4) bytes (All-from_get_or (λ byte. byte < 256) bytes 0 (λ i _. small i)));
}

-- all pages of the device
abbrev AreAll : Limits → Memory → Type 0
AreAll l m = ArePages l m × ((key : PageKey) → IsKey l key → HasPage m key)

-- so are the pages with those that are left
pages_whole : (bytes : List ℕ) (n j : ℕ) (m : Memory) → AreBytes bytes → first_flaw bytes (page_fields bytes) ≡ None
    → j + n ≤ page_count bytes → AreAll (limits_in bytes) m
    → AreAll (limits_in bytes) (fold (filled bytes) m (range_with_len j n))
pages_whole bytes zero j m small good within all = all
pages_whole bytes (suc n) j m small good within (are, has) =
    let key = listed_key bytes j in
    let there = (page_record bytes j good (omega (arith, within))).there in
    pages_whole bytes n (j + 1) (filled bytes m j) small good (omega (arith, within)) (
      pages_put (limits_in bytes) m key (listed_bytes bytes j) are
          (λ _. record_page bytes (page_record_at bytes j) small there),
      λ q own. same_keys m key (listed_bytes bytes j) q ∙ has q own,
    )

-- a capture without a flaw opens with a whole state
pub opening_whole : (bytes : List ℕ) → flaw_in bytes ≡ None → AreLimits (limits_in bytes) → AreBytes bytes
    → IsWholeState (limits_in bytes) (opening_in bytes)
opening_whole bytes good limits small =
    let l = limits_in bytes in
    let parts = parts_good bytes good in
    let pages = pages_whole bytes (page_count bytes) 0 (opening_memory l) small parts.pages (omega arith)
    (opening_pages l, opening_has l) in (
      refl,
      record {
        kept = record {
          limits = limits;
          regions = regions_whole bytes (region_count bytes) (36 + ring_end bytes) map.empty
              (all_left bytes map.empty parts.regions refl) (no_regions l);
          gmrfb = tt;
          screens = (opening_good l 1 limits).kept.screens;
        };
        memory = pages.0;
      },
      pages.1,
    )

-- four of them are a word
word_small : (bytes : List ℕ) (i : ℕ) → AreBytes bytes → little_word bytes i < 2 ^ 32
word_small bytes i small = omega (arith, small i, small (i + 1), small (i + 2), small (i + 3))

-- the words that wait are of 32 bits
pub words_small : (bytes : List ℕ) → AreBytes bytes → AreWords (waiting_words bytes)
words_small bytes small = λ i. elim (cases_lt i (length (waiting_words bytes))) as
    (λ _. slice_index (waiting_words bytes) i < 2 ^ 32) [
      | inl less ↦ All-get_or (λ word. word < 2 ^ 32) (waiting_words bytes) i 0 less
          (all_made (λ word. word < 2 ^ 32) _ _ (λ k _. word_small bytes _ small))
      | inr past ↦ subst (λ n. n < 2 ^ 32) (sym (get_or_past (waiting_words bytes) i 0 past)) (omega arith)
    ]
