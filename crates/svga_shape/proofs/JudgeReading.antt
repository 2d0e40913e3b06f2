-- What reading page numbers from a region is refused with, where there is such a region.
use Rattle.std.proofs.Common.{◌≡◌, ℕ, ◌+◌, ◌-◌, ◌*◌, ◌∙◌, refl, sym, ap, [], ◌∷◌, Bool, true, false, not, ◌&&◌, ◌||◌, ◌==◌, nat_le, nat_lt, if◌then◌else◌, ℤ, pos, int_lt, Option, Some, None, is_none, option_map, unwrap_or, length, arith}
use Rattle.std.proofs.lemmas.Bool.Decides.{nat_tests}
use Rattle.std.proofs.lemmas.Int.{ints}
use Rattle.std.specs.FinMap as map
use Rattle.std.specs.List.{list_any, range_with_len}
use Rattle.std.specs.Prelude.{IsSome}
use Rattle.svga_cmd.specs.declared.constants.TheConstants.{SVGA_GMR_FRAMEBUFFER}
use Rattle.svga_cmd.specs.declared.fault.Fault.{Fault}
use Rattle.svga_cmd.specs.declared.fault.Fault.TheVariants.{NoRegion, RegionId, Unmapped, BeyondRegion}
use Rattle.svga_model.specs.BlitFaults.{is_on_unmapped, is_outside}
use Rattle.svga_model.specs.PointedNumbers.{Pointed, needs_beyond, needs_unmapped, pointer_tests}
use Rattle.svga_model.specs.RegionBytes.{holds_of, is_beyond, is_unmapped, region_tests}
use Rattle.svga_model.specs.Regions.{Places, Regions, frame_places, places_of, region_places}
use Rattle.svga_model.specs.Standing.{first_standing}
use Rattle.svga_shape.proofs.SpanMembers.{byte_passes, number_passes, same_tests, some_byte_of, some_number}
use Rattle.svga_shape.specs.Spans.{breaks, some_in_span}
use Rattle.svga_shape.specs.declared.span.ByteRule.{ByteRule}
use Rattle.svga_shape.specs.declared.span.ByteRule.TheVariants as rule

-- A test of whole numbers that is another one on natural numbers: some byte from a natural number on passes
-- the one where some number from there on passes the other.
module _ (on : ℤ → Bool) (test : ℕ → Bool) (same : (i : ℕ) → on (pos i) ≡ test i) (offset count : ℕ) where
  needed_there : some_in_span on (pos offset) count ≡ true → list_any test (range_with_len offset count) ≡ true
  needed_there h =
      let r = some_byte_of on (pos offset) count h in
      number_passes test offset count (offset + r.0) (omega arith) (omega arith) (sym (same (offset + r.0)) ∙ r.2)

  needed_back : list_any test (range_with_len offset count) ≡ true → some_in_span on (pos offset) count ≡ true
  needed_back h =
      let r = some_number test offset count h in
      let at : offset + (r.0 - offset) ≡ r.0 = omega arith in
      byte_passes on (pos offset) count (r.0 - offset) (omega arith) (ap (λ i. on (pos i)) at ∙ same r.0 ∙ r.3)

  needed : some_in_span on (pos offset) count ≡ list_any test (range_with_len offset count)
  needed = same_tests (some_in_span on (pos offset) count) (list_any test (range_with_len offset count))
      needed_there needed_back

-- on a natural number the tests of whole numbers are those of bytes
natural : (i : ℕ) → int_lt (pos i) (pos 0) ≡ false
natural i = grind (arith, ints)

on_unmapped : (places : Places) (i : ℕ) → is_on_unmapped places (pos i) ≡ is_unmapped places i
on_unmapped places i = ap (λ b. not b && is_unmapped places i) (natural i)

outside : (places : Places) (i : ℕ) → is_outside places (pos i) ≡ is_beyond places i
outside places i = ap (λ b. b || is_beyond places i) (natural i)

-- an id that has places is none of those that have a rule of their own
present : (framed over low : Bool) (list : Places) (defined : Option Places)
    → IsSome (if framed then Some list else if over then None else defined) → (framed ≡ true → low ≡ false)
    → ((low && is_none (if over then None else defined)) ≡ false) × ((over && not framed) ≡ false)
present true true low list defined h high = (ap (λ b. b && true) (high refl), refl)
present true false low list defined h high = (ap (λ b. b && is_none defined) (high refl), refl)
present false true low list defined h high = absurd (cc)
present false false low list None h high = absurd (cc)
present false false true list (Some places) h high = (refl, refl)
present false false false list (Some places) h high = (refl, refl)

-- the framebuffer's id is none of a region that commands define
framed_high : (id : ℕ) → (id == SVGA_GMR_FRAMEBUFFER) ≡ true → nat_le id 4095 ≡ false
framed_high id e = grind (arith, nat_tests)

-- the rules on bytes alone
abbrev pub byte_rules : Bool → Bool → Option Fault
byte_rules unmapped beyond = first_standing ((unmapped, Unmapped) ∷ (beyond, BeyondRegion) ∷ [])

-- a test of places that are there
held : (o : Option Places) (test : Places → Bool) → IsSome o → holds_of o test ≡ test (unwrap_or o [])
held None test h = absurd (cc)
held (Some places) test h = refl

-- a region that is there is refused for its bytes alone
of_region : (frame : ℕ) (regions : Regions) (id : ℕ) (unmapped beyond : Places → Bool)
    → IsSome (places_of frame regions id) → first_standing (region_tests frame regions id unmapped beyond)
    ≡ byte_rules (unmapped (region_places frame regions id)) (beyond (region_places frame regions id))
of_region frame regions id unmapped beyond h =
    let is = present (id == SVGA_GMR_FRAMEBUFFER) (nat_lt 4095 id) (nat_le id 4095) (frame_places frame) (map.get regions id) h
    (framed_high id) in
    let u = held (places_of frame regions id) unmapped h in
    let b = held (places_of frame regions id) beyond h in
    λ i. first_standing ((is.0 i, NoRegion) ∷ (is.1 i, RegionId) ∷ (u i, Unmapped) ∷ (b i, BeyondRegion) ∷ [])

-- whether a byte is beyond the end matters where none is on an unmapped place
agree : (unmapped beyond other : Bool) → (unmapped ≡ false → beyond ≡ other)
    → byte_rules unmapped beyond ≡ byte_rules unmapped other
agree true beyond other h = refl
agree false beyond other h = ap (byte_rules false) (h refl)

-- a region whose length is told is there
pub has_places : (o : Option Places) (told : Option ℕ) → told ≡ option_map length o → IsSome told → IsSome o
has_places None None e h = absurd (cc)
has_places None (Some n) e h = absurd (cc)
has_places (Some places) told e h = refl

-- Reading numbers from a region whose length is told is refused for the bytes from there on that break a
-- rule.
module _ (frame : ℕ) (regions : Regions) (at : Pointed) (pages : ℕ) (told : Option ℕ)
    (length_is : told ≡ option_map length (places_of frame regions at.region)) (is_told : IsSome told)
  where
    -- a test that tells whether such a byte breaks a rule
    abbrev Tells : ByteRule → Bool → Type 0
    Tells r b = b ≡ some_in_span (breaks r (region_places frame regions at.region)) (pos at.offset) (4 * at.words * pages)

    pub reading : (unmapped beyond : Bool) → Tells rule.Unmapped unmapped → (unmapped ≡ false → Tells rule.Beyond beyond)
        → byte_rules unmapped beyond ≡ first_standing (pointer_tests frame regions at pages)
    reading unmapped beyond u b =
        let places = region_places frame regions at.region in
        let count = 4 * at.words * pages in
        let p = u ∙ needed (is_on_unmapped places) (is_unmapped places) (on_unmapped places) at.offset count in
        let q = needed (is_outside places) (is_beyond places) (outside places) at.offset count in
        agree unmapped beyond (some_in_span (is_outside places) (pos at.offset) count) b
        ∙ (λ i. byte_rules (p i) (q i))
        ∙ sym (of_region frame regions at.region (needs_unmapped at pages) (needs_beyond at pages)
        (has_places (places_of frame regions at.region) told length_is is_told))
