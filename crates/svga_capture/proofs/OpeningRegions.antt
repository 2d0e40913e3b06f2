-- Regions that are opened one after another, as their records stand.
use Rattle.std.proofs.Common.{◌≡◌, ◌≢◌, ℕ, zero, suc, ◌+◌, ◌*◌, ◌-◌, ◌<◌, ◌≤◌, refl, sym, ap, subst, ◌∙◌, List, [], ◌∷◌, ◌++◌, length, map as map_list, true, ◌&&◌, ◌||◌, nat_lt, nat_le, ◌==◌, Option, Some, None, unwrap_or, arith}
use Rattle.std.proofs.lemmas.Bool.Decides.{nat_tests}
use Rattle.std.proofs.lemmas.List.FromFn.{length-map-range_with_len}
use Rattle.std.specs.Cmp.{nat_cmp_total}
use Rattle.std.specs.FinMap as map
use Rattle.std.specs.FinMap.{nat_cmp-IsAntisymmetric, get-empty}
use Rattle.std.specs.List.{range_with_len}
use Rattle.std.specs.Ordering.{nat_cmp}
use Rattle.svga_cmd.proofs.Maps.{get_other, get_same, insert_comm}
use Rattle.svga_cmd.specs.declared.constants.TheConstants.{MAX_PLACES, MAX_REGION_ID, UNMAPPED_WORD}
use Rattle.svga_model.proofs.ValidRegions.{defined_small, place_count-changed, place_count-empty}
use Rattle.svga_model.proofs.ValidRules.{both_true}
use Rattle.svga_model.specs.CaptureFields.{RegionRecord, first_flaw, is_above, limits_in, place_field, record_at, record_size, records_from, region_count, region_fields, ring_end, word_field}
use Rattle.svga_model.specs.Captures.{listed_places, listed_regions, place_of_word}
use Rattle.svga_model.specs.Regions.{Places, Regions, place_count, region_length}
use Rattle.svga_model.specs.Walks.{little_word}
use Rattle.svga_capture.proofs.FieldLaws.{first_good, lists_good, made_good, ordered_good, parts_good, reached, word_good}
use Rattle.svga_capture.specs.Fields.{AreFields}
use Rattle.svga_capture.specs.declared.fields.Fields.{Fields}
use Rattle.svga_region.specs.RegionSet.{RegionSet}
use Rattle.svga_capture.specs.Openings.{IsNextRecord, IsPlaceWord}

-- the entries of so many records from a byte on
abbrev pub entries : List ℕ → ℕ → ℕ → List (ℕ × Places)
entries bytes n at = map_list (λ r. (r.id, listed_places bytes r)) (records_from bytes n at)

-- regions after more of them, the first one first
abbrev pub inserted : Regions → List (ℕ × Places) → Regions
inserted regions [] = regions
inserted regions (e ∷ es) = inserted (map.insert regions e.0 e.1) es

-- where the record behind one begins
abbrev pub behind : List ℕ → ℕ → ℕ
behind bytes at = at + record_size (record_at bytes at)

-- the fields of so many records from a byte on are good
abbrev pub AreGoodRecords : List ℕ → ℕ → ℕ → ℕ → Option ℕ → Type 0
AreGoodRecords bytes n at total last = first_flaw bytes (region_fields bytes total last (records_from bytes n at)) ≡ None

-- what the fields of the first record say
pub record IsFirst (bytes : List ℕ) (n at total : ℕ) (last : Option ℕ) : Type 0 where
  pub small : (record_at bytes at).id ≤ 4095
  pub above : is_above last (record_at bytes at).id ≡ true
  pub some : 1 ≤ (record_at bytes at).count
  pub room : total + (record_at bytes at).count ≤ 65536
  pub places : (k : ℕ) → k < (record_at bytes at).count
      → (at + 8 + 4 * k + 4 ≤ length bytes) × IsPlaceWord (limits_in bytes).pages (little_word bytes (at + 8 + 4 * k))
  pub rest : AreGoodRecords bytes n (behind bytes at) (total + (record_at bytes at).count) (Some (record_at bytes at).id)

pub first_record : (bytes : List ℕ) (n at total : ℕ) (last : Option ℕ) → AreGoodRecords bytes (suc n) at total last
    → IsFirst bytes n at total last
first_record bytes n at total last good =
    let r : RegionRecord = record_at bytes at in
    let later = region_fields bytes (total + r.count) (Some r.id) (records_from bytes n (behind bytes at)) in
    let number = word_field bytes (at + 4) (λ n. nat_le 1 n && nat_le (total + n) MAX_PLACES) in
    let first = first_good bytes _ (number ∷ map_list (place_field bytes (r.at + 8)) (range_with_len 0 r.count) ++ later) good in
    let second = first_good bytes number (map_list (place_field bytes (r.at + 8)) (range_with_len 0 r.count) ++ later) first.1 in
    let parts = lists_good bytes (map_list (place_field bytes (r.at + 8)) (range_with_len 0 r.count)) later second.1 in
    let id = ordered_good bytes at last (λ n. nat_le n MAX_REGION_ID) first.0 in
    let count = both_true (nat_le 1 r.count) (nat_le (total + r.count) 65536)
    (word_good bytes (at + 4) (λ n. nat_le 1 n && nat_le (total + n) MAX_PLACES) second.0).1 in
    record {
      small = reached r.id 4095 id.1.0;
      above = id.1.1;
      some = reached 1 r.count count.0;
      room = reached (total + r.count) 65536 count.1;
      places = λ k l. word_good bytes (at + 8 + 4 * k) (λ n. nat_lt n (limits_in bytes).pages || n == UNMAPPED_WORD)
          (made_good bytes (λ k. word_field bytes (at + 8 + 4 * k) (λ n. nat_lt n (limits_in bytes).pages || n == UNMAPPED_WORD)) 0 r.count k parts.0 (omega arith) (omega (arith, l)));
      rest = parts.1;
    }

not_same : (a b c : ℕ) → a ≤ b → nat_lt b c ≡ true → a ≢ c
not_same a b c low e is = absurd (let l : b < c = grind (arith, nat_tests) in omega (arith, l, low, is))

-- an entry below the others may as well come last
moved : (bytes : List ℕ) (n at total last k : ℕ) (places : Places) (regions : Regions)
    → AreGoodRecords bytes n at total (Some last) → k ≤ last
    → inserted (map.insert regions k places) (entries bytes n at) ≡ map.insert (inserted regions (entries bytes n at)) k places
moved bytes zero at total last k places regions good low = refl
moved bytes (suc n) at total last k places regions good low =
    let r : RegionRecord = record_at bytes at in
    let first = first_record bytes n at total (Some last) good in
    let list = listed_places bytes r in
    let apart = not_same k last r.id low first.above in
    let next = later last r.id first.above in
    let less : k ≤ r.id = omega (arith, low, next) in
    ap (λ m. inserted m (entries bytes n (behind bytes at))) (insert_comm nat_cmp_total nat_cmp-IsAntisymmetric regions k r.id places list apart)
    ∙ moved bytes n (behind bytes at) (total + r.count) r.id k places (map.insert regions r.id list) first.rest less
  where
    later : (l id : ℕ) → nat_lt l id ≡ true → l ≤ id
    later l id e = grind (arith, nat_tests)

-- all of them one after another are the map of their entries
pub built : (bytes : List ℕ) (n at total : ℕ) (last : Option ℕ) → AreGoodRecords bytes n at total last
    → inserted map.empty (entries bytes n at) ≡ map.from_entries (entries bytes n at)
built bytes zero at total last good = refl
built bytes (suc n) at total last good =
    let r : RegionRecord = record_at bytes at in
    let first = first_record bytes n at total last good in
    moved bytes n (behind bytes at) (total + r.count) r.id r.id (listed_places bytes r) map.empty first.rest (omega arith)
    ∙ ap (λ m. map.insert m r.id (listed_places bytes r)) (built bytes n (behind bytes at) (total + r.count) (Some r.id) first.rest)

-- So many records are left, from a byte on: what they list is all that these regions lack.
pub record AreLeft (bytes : List ℕ) (n at : ℕ) (regions : Regions) : Type 0 where
  pub last : Option ℕ
  pub good : AreGoodRecords bytes n at (place_count regions) last
  pub fresh : (q : ℕ) → is_above last q ≡ true → map.get regions q ≡ None
  pub opened : inserted regions (entries bytes n at) ≡ listed_regions bytes

-- at first all are left
pub all_left : (bytes : List ℕ) (regions : Regions) → AreGoodRecords bytes (region_count bytes) (36 + ring_end bytes) 0 None
    → regions ≡ map.empty → AreLeft bytes (region_count bytes) (36 + ring_end bytes) regions
all_left bytes regions good none = subst (λ m. AreLeft bytes (region_count bytes) (36 + ring_end bytes) m) (sym none) (record {
  last = None;
  good = subst (λ total. AreGoodRecords bytes (region_count bytes) (36 + ring_end bytes) total None) (sym place_count-empty) good;
  fresh = λ q above. get-empty nat_cmp q;
  opened = built bytes (region_count bytes) (36 + ring_end bytes) 0 None good;
})

-- the first that is left
pub next_left : (bytes : List ℕ) (n at guest : ℕ) (regions : Regions) → guest ≡ (limits_in bytes).pages
    → AreLeft bytes (suc n) at regions → IsNextRecord bytes at guest regions
next_left bytes n at guest regions limits left =
    let r : RegionRecord = record_at bytes at in
    let first = first_record bytes n at (place_count regions) left.last left.good in
    record {
      there = (let some = first.some in let end = (first.places (r.count - 1) (omega (arith, some))).0 in omega (arith, some, end));
      small = first.small;
      fresh = left.fresh r.id first.above;
      some = first.some;
      room = first.room;
      places = λ j l. subst (λ pages. IsPlaceWord pages (little_word bytes (at + 8 + 4 * j))) (sym limits) (first.places j l).1;
    }

-- what is above the new id is above the last one
above_both : (last : Option ℕ) (id q : ℕ) → is_above last id ≡ true → nat_lt id q ≡ true → is_above last q ≡ true
above_both None id q a b = refl
above_both (Some l) id q a b = grind (arith, nat_tests)

-- one more region
one_more : (bytes : List ℕ) (r : RegionRecord) (regions : Regions) → r.id ≤ 4095 → map.get regions r.id ≡ None
    → place_count (map.insert regions r.id (listed_places bytes r)) ≡ place_count regions + r.count
one_more bytes r regions small fresh =
    let list = listed_places bytes r in
    let news = map.insert regions r.id list in
    let many : length list ≡ r.count = length-map-range_with_len (λ k. place_of_word (little_word bytes (r.at + 8 + 4 * k))) 0 r.count in
    let none : region_length regions r.id ≡ 0 = ap (λ o. length (unwrap_or o [])) (defined_small regions r.id small ∙ fresh) in
    let now : region_length news r.id ≡ length list = ap (λ o. length (unwrap_or o []))
    (defined_small news r.id small ∙ get_same nat_cmp_total nat_cmp-IsAntisymmetric regions r.id list) in
    let change = place_count-changed regions news r.id small (λ q ne. get_other nat_cmp_total nat_cmp-IsAntisymmetric regions r.id q list ne) in
    omega (arith, change, none, now, many)

-- one less is left
pub left_more : (bytes : List ℕ) (n at : ℕ) (regions : Regions) → AreLeft bytes (suc n) at regions
    → AreLeft bytes n (at + (8 + 4 * (record_at bytes at).count)) (map.insert regions (record_at bytes at).id (listed_places bytes (record_at bytes at)))
left_more bytes n at regions left =
    let r : RegionRecord = record_at bytes at in
    let list = listed_places bytes r in
    let first = first_record bytes n at (place_count regions) left.last left.good in
    record {
      last = Some r.id;
      good = subst (λ total. AreGoodRecords bytes n (behind bytes at) total (Some r.id))
          (sym (one_more bytes r regions first.small (left.fresh r.id first.above))) first.rest;
      fresh = λ q above. get_other nat_cmp_total nat_cmp-IsAntisymmetric regions r.id q list (not_new r.id q above)
          ∙ left.fresh q (above_both left.last r.id q first.above above);
      opened = left.opened;
    }
  where
    not_new : (id q : ℕ) → nat_lt id q ≡ true → q ≢ id
    not_new id q e is = absurd (let l : id < q = grind (arith, nat_tests) in omega (arith, l, is))

-- one of those that are left, by a count
pub left_next : (bytes : List ℕ) (end counter at : ℕ) (regions : Regions) → counter < end → AreLeft bytes (end - counter) at regions
    → AreLeft bytes (suc (end - (counter + 1))) at regions
left_next bytes end counter at regions l left =
    subst (λ n. AreLeft bytes n at regions) (let e : end - counter ≡ suc (end - (counter + 1)) = omega (arith, l) in e) left

-- the regions with so many of the records, where others are left
pub record AreOpened (bytes : List ℕ) (n at : ℕ) (s t : RegionSet) : Type 0 where
  pub left : AreLeft bytes n at t.regions
  pub set : t ≡ record s { regions = t.regions }

-- none yet
pub regions_first : (bytes : List ℕ) (f : Fields) (s : RegionSet) → AreFields bytes f → s.regions ≡ map.empty
    → AreOpened bytes (f.regions.count - 0) f.regions.at s s
regions_first bytes f s are none = subst (λ (f : Fields). AreOpened bytes (f.regions.count - 0) f.regions.at s s) (sym are.said) (record {
  left = subst (λ n. AreLeft bytes n (36 + ring_end bytes) s.regions) (let e : region_count bytes ≡ region_count bytes - 0 = omega arith in e)
      (all_left bytes s.regions (parts_good bytes are.good).regions none);
  set = refl;
})

-- one more
pub regions_more : (bytes : List ℕ) (n at end : ℕ) (s t u : RegionSet) → AreLeft bytes (suc n) at t.regions
    → t ≡ record s { regions = t.regions }
    → u ≡ record t { regions = map.insert t.regions (record_at bytes at).id (listed_places bytes (record_at bytes at)) }
    → end ≡ at + 8 + 4 * (record_at bytes at).count
    → AreOpened bytes n end s u
regions_more bytes n at end s t u left was is e =
    let news = map.insert t.regions (record_at bytes at).id (listed_places bytes (record_at bytes at)) in
    let now : u.regions ≡ news = ap (λ (s : RegionSet). s.regions) is in
    let same : end ≡ at + (8 + 4 * (record_at bytes at).count) = omega (arith, e) in
    record {
      left = subst (λ end. AreLeft bytes n end u.regions) (sym same)
          (subst (λ m. AreLeft bytes n (at + (8 + 4 * (record_at bytes at).count)) m) (sym now) (left_more bytes n at t.regions left));
      set = is ∙ ap (λ (s : RegionSet). record s { regions = news }) was ∙ ap (λ m. record s { regions = m }) (sym now);
    }

none_left : (bytes : List ℕ) (end counter at : ℕ) (regions : Regions) → end ≤ counter → AreLeft bytes (end - counter) at regions
    → AreLeft bytes 0 at regions
none_left bytes end counter at regions l left = subst (λ n. AreLeft bytes n at regions) (let e : end - counter ≡ 0 = omega (arith, l) in e) left

-- where none is left they are all regions
pub regions_last : (bytes : List ℕ) (end counter at : ℕ) (regions : Regions) → end ≤ counter
    → AreLeft bytes (end - counter) at regions → regions ≡ listed_regions bytes
regions_last bytes end counter at regions l left = (none_left bytes end counter at regions l left).opened
