-- Where a span breaks a rule, from its first byte and the number behind its last.
use Rattle.std.proofs.Common.{◌≡◌, ℕ, ◌+◌, ◌-◌, ◌*◌, ◌/◌, ◌<◌, ◌≤◌, inl, inr, refl, sym, ap, ◌∙◌, List, length, Bool, true, false, not, ◌&&◌, ◌||◌, nat_le, ℤ, pos, negsuc, ◌+ℤ◌, ◌-ℤ◌, int_lt, int_le, unsigned_abs, None, is_none, slice_index_or, arith}
use Rattle.std.proofs.lemmas.Bool.{cases_lt}
use Rattle.std.proofs.lemmas.Bool.Decides.{nat_tests}
use Rattle.std.proofs.lemmas.Int.{ints}
use Rattle.std.specs.List.{list_any, range_with_len}
use Rattle.svga_model.proofs.PaintedTests.{both}
use Rattle.svga_model.specs.BlitFaults.{is_on_unmapped, is_outside}
use Rattle.svga_model.specs.RegionBytes.{is_beyond, is_unmapped, page_of_byte}
use Rattle.svga_model.specs.Regions.{Places}
use Rattle.svga_shape.proofs.SpanMembers.{byte_passes, number_passes, same_tests, second, some_byte_of, some_number}
use Rattle.svga_shape.specs.Spans.{some_in_span}

-- a span of no bytes breaks nothing
pub no_bytes : (test : ℤ → Bool) (from : ℤ) (count : ℕ) → count ≡ 0 → some_in_span test from count ≡ false
unfolding some_in_span
no_bytes test from count e = ap (λ n. some_in_span test from n) e

-- a span that begins below 0 has a byte outside
pub below : (places : Places) (from : ℤ) (count : ℕ) → (count ≡ 0 → ⊥) → int_lt from (pos 0) ≡ true
    → some_in_span (is_outside places) from count ≡ true
below places from count some l = byte_passes (is_outside places) from count 0 (omega arith) (grind (arith, ints))

-- the last byte of a span that ends past the region's end and doesn't begin below 0
last_outside : (bytes : ℕ) (from : ℤ) (k : ℕ) → int_lt (pos bytes) (from +ℤ pos (k + 1)) ≡ true
    → int_lt from (pos 0) ≡ false → nat_le bytes (unsigned_abs (from +ℤ pos k)) ≡ true
last_outside bytes from k past low = grind (arith, ints, nat_tests)

-- and a span with a byte outside ends past it
outside_past : (bytes : ℕ) (from : ℤ) (k count : ℕ) → k < count → int_lt from (pos 0) ≡ false
    → (int_lt (from +ℤ pos k) (pos 0) || nat_le bytes (unsigned_abs (from +ℤ pos k))) ≡ true
    → int_lt (pos bytes) (from +ℤ pos count) ≡ true
outside_past bytes from k count l low out = grind (arith, ints, nat_tests)

-- A span with a byte, that doesn't begin below 0, has a byte outside where it ends past the region's end.
module _ (places : Places) (from : ℤ) (count : ℕ) (some : count ≡ 0 → ⊥) (low : int_lt from (pos 0) ≡ false) where
  abbrev past : Bool
  past = int_lt (pos (4096 * length places)) (from +ℤ pos count)

  past_there : past ≡ true → some_in_span (is_outside places) from count ≡ true
  past_there h =
      let one_less : count - 1 + 1 ≡ count = omega arith in
      let behind : int_lt (pos (4096 * length places)) (from +ℤ pos (count - 1 + 1)) ≡ true =
      ap (λ n. int_lt (pos (4096 * length places)) (from +ℤ pos n)) one_less ∙ h in
      let last = last_outside (4096 * length places) from (count - 1) behind low in
      let negative = int_lt (from +ℤ pos (count - 1)) (pos 0) in
      let beyond = is_beyond places (unsigned_abs (from +ℤ pos (count - 1))) in
      byte_passes (is_outside places) from count (count - 1) (omega arith) (second negative beyond last)

  past_back : some_in_span (is_outside places) from count ≡ true → past ≡ true
  past_back passes =
      let r = some_byte_of (is_outside places) from count passes in
      outside_past (4096 * length places) from r.0 count r.1 low r.2

  pub ends_past : past ≡ some_in_span (is_outside places) from count
  ends_past = same_tests past (some_in_span (is_outside places) from count) past_there past_back

-- a byte of the region whose place is unmapped
unmapped_there : (places : Places) (i : ℕ) → i < 4096 * length places → is_none (page_of_byte places i) ≡ true
    → is_on_unmapped places (pos i) ≡ true
unmapped_there places i l none =
    let within : is_beyond places i ≡ false = grind (arith, nat_tests) in
    let natural : int_lt (pos i) (pos 0) ≡ false = grind (arith, ints) in
    λ j. not (natural j) && (not (within j) && none j)

-- a number of which it isn't so that it is at or past an end
below_end : (a b : ℕ) → not (nat_le a b) ≡ true → b < a
below_end a b h = grind (arith, nat_tests)

-- a whole number that lies on an unmapped place is that of a byte of the region
unmapped_number : (places : Places) (z : ℤ) → is_on_unmapped places z ≡ true
    → (i : ℕ) × (z ≡ pos i) × (i < 4096 * length places) × (is_none (page_of_byte places i) ≡ true)
unmapped_number places (pos i) h =
    let tests = both (not (int_lt (pos i) (pos 0))) (is_unmapped places i) h in
    let parts = both (not (is_beyond places i)) (is_none (page_of_byte places i)) tests.1 in
    (i, refl, below_end (4096 * length places) i parts.0, parts.1)
unmapped_number places (negsuc i) h = absurd (cc)

-- the steps to a byte that is neither below a span's first nor at or past its end
steps_to : (from : ℤ) (count i : ℕ) → int_le from (pos i) ≡ true → int_le (from +ℤ pos count) (pos i) ≡ false
    → (from +ℤ pos (unsigned_abs (pos i -ℤ from)) ≡ pos i) × (unsigned_abs (pos i -ℤ from) < count)
steps_to from count i low high = (grind (arith, ints), grind (arith, ints))

-- and where so many steps lead
step_at : (from : ℤ) (count k i : ℕ) → k < count → from +ℤ pos k ≡ pos i
    → (int_le from (pos i) ≡ true) × (int_le (from +ℤ pos count) (pos i) ≡ false)
step_at from count k i l e = (grind (arith, ints), grind (arith, ints))

-- Where the bytes from `first` to below `end` are those of the span that the region has, one of them is on
-- an unmapped place where one of the span's is.
module _ (places : Places) (from : ℤ) (count first end : ℕ) (within : end ≤ 4096 * length places) where
  abbrev IsBound : ℤ → ℕ → Type 0
  IsBound z n = (i : ℕ) → i < 4096 * length places → int_le z (pos i) ≡ nat_le n i

  abbrev on_none : ℕ → Bool
  on_none i = is_none (page_of_byte places i)

  module _ (begins : IsBound from first) (ends : IsBound (from +ℤ pos count) end) where
    between_there : list_any on_none (range_with_len first (end - first)) ≡ true
        → some_in_span (is_on_unmapped places) from count ≡ true
    between_there h =
        let r = some_number on_none first (end - first) h in
        let inside : r.0 < 4096 * length places = omega arith in
        let from_first : nat_le first r.0 ≡ true = grind (arith, nat_tests) in
        let below_last : nat_le end r.0 ≡ false = grind (arith, nat_tests) in
        let at = steps_to from count r.0 (begins r.0 inside ∙ from_first) (ends r.0 inside ∙ below_last) in
        let unmapped = unmapped_there places r.0 inside r.3 in
        byte_passes (is_on_unmapped places) from count (unsigned_abs (pos r.0 -ℤ from)) at.1
        (ap (is_on_unmapped places) at.0 ∙ unmapped)

    between_back : some_in_span (is_on_unmapped places) from count ≡ true
        → list_any on_none (range_with_len first (end - first)) ≡ true
    between_back h =
        let r = some_byte_of (is_on_unmapped places) from count h in
        let s = unmapped_number places (from +ℤ pos r.0) r.2 in
        let at = step_at from count r.0 s.0 r.1 s.1 in
        let from_first : nat_le first s.0 ≡ true = sym (begins s.0 s.2) ∙ at.0 in
        let below_last : nat_le end s.0 ≡ false = sym (ends s.0 s.2) ∙ at.1 in
        let low : first ≤ s.0 = grind (arith, nat_tests) in
        let high : s.0 < end = grind (arith, nat_tests) in
        number_passes on_none first (end - first) s.0 low (omega arith) s.3

    pub between : list_any on_none (range_with_len first (end - first))
        ≡ some_in_span (is_on_unmapped places) from count
    between = same_tests (list_any on_none (range_with_len first (end - first)))
        (some_in_span (is_on_unmapped places) from count) between_there between_back

-- the first byte of place k that isn't before another byte
first_on : (first end k : ℕ) → first < end → first / 4096 ≤ k → k ≤ (end - 1) / 4096
    → (i : ℕ) × (first ≤ i) × (i < end) × (i / 4096 ≡ k)
first_on first end k l low high = elim (cases_lt (first / 4096) k) [
  | inl less ↦ (4096 * k, omega arith, omega arith, omega arith)
  | inr past ↦ (first, omega arith, omega arith, omega arith)
]

-- The places that bytes lie on are all from the first's up to the last's.
module _ (places : Places) (first end : ℕ) (some : first < end) where
  abbrev none_at : ℕ → Bool
  none_at k = is_none (slice_index_or places k None)

  abbrev place_numbers : List ℕ
  place_numbers = range_with_len (first / 4096) ((end - 1) / 4096 + 1 - first / 4096)

  abbrev byte_numbers : List ℕ
  byte_numbers = range_with_len first (end - first)

  touched_there : list_any none_at place_numbers ≡ true → list_any (λ i. none_at (i / 4096)) byte_numbers ≡ true
  touched_there h =
      let r = some_number none_at (first / 4096) ((end - 1) / 4096 + 1 - first / 4096) h in
      let i = first_on first end r.0 some r.1 (omega arith) in
      number_passes (λ i. none_at (i / 4096)) first (end - first) i.0 i.1 (omega arith) (ap none_at i.3 ∙ r.3)

  touched_back : list_any (λ i. none_at (i / 4096)) byte_numbers ≡ true → list_any none_at place_numbers ≡ true
  touched_back h =
      let r = some_number (λ i. none_at (i / 4096)) first (end - first) h in
      number_passes none_at (first / 4096) ((end - 1) / 4096 + 1 - first / 4096) (r.0 / 4096) (omega arith)
      (omega arith) r.3

  pub touched : list_any none_at place_numbers ≡ list_any (λ i. is_none (page_of_byte places i)) byte_numbers
  touched = same_tests (list_any none_at place_numbers) (list_any (λ i. none_at (i / 4096)) byte_numbers)
      touched_there touched_back
