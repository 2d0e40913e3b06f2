-- The first flaw among the fields of regions' records, and what is left behind each of them.
use Rattle.std.proofs.Common.{◌≡◌, ℕ, suc, ◌+◌, ◌-◌, ◌*◌, ◌<◌, sym, ap, ◌∙◌, arith}
use Rattle.std.proofs.Common.{List, map as map_list, sum_by, nat_lt, ◌==◌, ◌||◌, Option, Some, None}
use Rattle.std.proofs.lemmas.List.Sums.{sum_by-cons}
use Rattle.std.specs.List.{range_with_len}
use Rattle.std.specs.Option.{option_or}
use Rattle.svga_capture.proofs.FieldLaws.{first_told, flaw_append, second_told}
use Rattle.svga_capture.specs.declared.regions.RegionRecord.{RegionRecord}
use Rattle.svga_cmd.specs.declared.capture_cause.CaptureCause.{CaptureCause}
use Rattle.svga_cmd.specs.declared.constants.TheConstants.{UNMAPPED_WORD}
use Rattle.svga_model.specs.CaptureFields.{first_flaw, flaw_of, limits_in, place_field, record_at, record_fields, record_size, records_from, region_fields, word_field}
use Rattle.svga_model.specs.Walks.{little_word}

-- what is wrong with the place whose word stands at a byte
abbrev place_flaw : List ℕ → ℕ → ℕ → Option (ℕ × CaptureCause)
place_flaw bytes at guest = flaw_of bytes (word_field bytes at (λ n. nat_lt n guest || n == UNMAPPED_WORD))

-- what is wrong with the places from k on
abbrev pub places_from : List ℕ → ℕ → ℕ → ℕ → Option (ℕ × CaptureCause)
places_from bytes at k count = first_flaw bytes (map_list (place_field bytes at) (range_with_len k (count - k)))

-- what is wrong with the record at a byte
abbrev record_flaw_at : List ℕ → ℕ → Option ℕ → ℕ → Option (ℕ × CaptureCause)
record_flaw_at bytes total last at = first_flaw bytes (record_fields bytes total last (record_at bytes at))

-- what is wrong with the records from i on, which stand from this byte on, and how many bytes these have
abbrev pub flaw_from : List ℕ → ℕ → Option ℕ → ℕ → ℕ → ℕ → Option (ℕ × CaptureCause)
flaw_from bytes total last at i count = first_flaw bytes (region_fields bytes total last (records_from bytes (count - i) at))

abbrev pub size_from : List ℕ → ℕ → ℕ → ℕ → ℕ
size_from bytes at i count = sum_by record_size (records_from bytes (count - i) at)

-- the places from k on are place k, whose word stands here, and those behind it
module _ (bytes : List ℕ) (at k count guest here : ℕ) (all : Option (ℕ × CaptureCause))
    (less : k < count) (is : here ≡ at + 4 * k) (pages : guest ≡ (limits_in bytes).pages)
    (left : all ≡ places_from bytes at k count) where
  split_places : all ≡ option_or (place_flaw bytes here guest) (places_from bytes at (k + 1) count)
  split_places =
      let e : count - k ≡ suc (count - (k + 1)) = omega arith in
      left ∙ ap (λ n. first_flaw bytes (map_list (place_field bytes at) (range_with_len k n))) e
      ∙ (λ i. option_or (place_flaw bytes (sym is i) (sym pages i)) (places_from bytes at (k + 1) count))

  -- the flaw of a place, where none is before it, is the first of all
  pub places_flaw : (w : ℕ × CaptureCause) → Some w ≡ place_flaw bytes here guest → Some w ≡ all
  places_flaw w flaw =
      first_told w (place_flaw bytes here guest) (places_from bytes at (k + 1) count) flaw ∙ sym split_places

  -- a place without a flaw leaves those behind it
  pub places_next : None ≡ place_flaw bytes here guest → all ≡ places_from bytes at (k + 1) count
  places_next none = split_places ∙ second_told (place_flaw bytes here guest) (places_from bytes at (k + 1) count) none

-- the records from i on are the one at this byte and those behind it
module _ (bytes : List ℕ) (total : ℕ) (last : Option ℕ) (at i count : ℕ) (all : Option (ℕ × CaptureCause))
    (less : i < count) (left : all ≡ flaw_from bytes total last at i count) where
  abbrev behind : ℕ → ℕ → ℕ → Option (ℕ × CaptureCause)
  behind n id end = flaw_from bytes (total + n) (Some id) end (i + 1) count

  abbrev these : Option (ℕ × CaptureCause)
  these = behind (little_word bytes (at + 4)) (little_word bytes at) (at + (8 + 4 * little_word bytes (at + 4)))

  split_records : all ≡ option_or (record_flaw_at bytes total last at) these
  split_records =
      let e : count - i ≡ suc (count - (i + 1)) = omega arith in
      let r = record_at bytes at in
      let next = records_from bytes (count - (i + 1)) (at + record_size r) in
      left ∙ ap (λ n. first_flaw bytes (region_fields bytes total last (records_from bytes n at))) e
      ∙ flaw_append bytes (record_fields bytes total last r) (region_fields bytes (total + r.count) (Some r.id) next)

  -- the flaw of a record, where none is before it, is the first of all
  pub record_flaw : (w : ℕ × CaptureCause) → Some w ≡ record_flaw_at bytes total last at → Some w ≡ all
  record_flaw w flaw = first_told w (record_flaw_at bytes total last at) these flaw ∙ sym split_records

  -- a record without a flaw leaves those behind it
  pub record_next : (r : RegionRecord) (end : ℕ)
      → r ≡ record { at = at; id = little_word bytes at; count = little_word bytes (at + 4) } → end ≡ r.at + 8 + 4 * r.count
      → None ≡ record_flaw_at bytes total last at
      → all ≡ flaw_from bytes (total + r.count) (Some r.id) end (i + 1) count
  record_next r end is past none =
      let n : r.count ≡ little_word bytes (at + 4) = ap (λ (r : RegionRecord). r.count) is in
      let from : r.at ≡ at = ap (λ (r : RegionRecord). r.at) is in
      let to : at + (8 + 4 * little_word bytes (at + 4)) ≡ end = omega (arith, n, from, past) in
      split_records ∙ second_told (record_flaw_at bytes total last at) these none
      ∙ (λ k. behind (sym n k) (sym (ap (λ (r : RegionRecord). r.id) is) k) (to k))

-- they end where all end
pub record_end : (bytes : List ℕ) (at i count all end : ℕ) (r : RegionRecord) → i < count
    → r ≡ record { at = at; id = little_word bytes at; count = little_word bytes (at + 4) } → end ≡ r.at + 8 + 4 * r.count
    → all ≡ at + size_from bytes at i count
    → all ≡ end + size_from bytes end (i + 1) count
record_end bytes at i count all end r less is past left =
    let e : count - i ≡ suc (count - (i + 1)) = omega arith in
    let s = record_at bytes at in
    let n : r.count ≡ little_word bytes (at + 4) = ap (λ (r : RegionRecord). r.count) is in
    let from : r.at ≡ at = ap (λ (r : RegionRecord). r.at) is in
    let to : at + record_size s ≡ end = omega (arith, n, from, past) in
    left ∙ ap (λ m. at + sum_by record_size (records_from bytes m at)) e
    ∙ ap (λ m. at + m) (sum_by-cons record_size s (records_from bytes (count - (i + 1)) (at + record_size s)))
    ∙ regrouped (record_size s) (size_from bytes (at + record_size s) (i + 1) count)
    ∙ ap (λ m. m + size_from bytes m (i + 1) count) to
  where
    regrouped : (size rest : ℕ) → at + (size + rest) ≡ (at + size) + rest
    regrouped size rest = omega arith
