-- The pages that a chain lists are those of the guest, where no rule refuses it.
use Rattle.std.proofs.Common.{◌≡◌, ℕ, zero, suc, ◌+◌, ◌<◌, ◌≤◌, refl, sym, subst, List, [], ◌∷◌, ◌++◌, All, Bool, true, false, cond, ◌&&◌, ◌||◌, not, nat_lt, nat_le, ◌==◌, Option, Some, None, Result, Ok, Err, IfOk, length, arith}
use Rattle.std.proofs.lemmas.Bool.Decides.{nat_tests}
use Rattle.std.proofs.lemmas.List.{length-map}
use Rattle.std.proofs.lemmas.List.Elements.{All-append, All-nil}
use Rattle.std.proofs.lemmas.List.FromFn.{get_or-range_with_len, length-range_with_len}
use Rattle.std.specs.FinMap as map
use Rattle.svga_cmd.specs.declared.constants.TheConstants.{LAST_PAIR, MAX_DESCRIPTORS, MAX_PLACES, MAX_REGION_ID}
use Rattle.svga_cmd.specs.declared.fault.Fault.{Fault}
use Rattle.svga_cmd.specs.declared.fault.Fault.TheVariants as fault
use Rattle.svga_cmd.specs.declared.limits.Limits.{Limits}
use Rattle.svga_cmd.specs.declared.page.PageKey.TheVariants.{Guest}
use Rattle.svga_model.proofs.ValidRegions.{places_guest, regions_inserted, regions_removed}
use Rattle.svga_model.proofs.ValidRules.{AreFalse, all_false, at_most}
use Rattle.svga_model.specs.Regions.{Regions, places_with, guest_places}
use Rattle.svga_model.specs.Standing.{first_standing, least_standing}
use Rattle.svga_model.specs.ValidStates.{AreRegions}
use Rattle.svga_model.specs.Walks.{Descriptor, TablePosition, Tables, chain_tests, descriptor_at, given_tests, is_bad, is_end, is_good_link, is_good_run, last_of, listed_pages, next_position, outcome_after, positions_from, run_pages, unless, walk, walk_outcome, with_chain, with_given}

-- a run that isn't bad ends with the last page of the guest at most
end_within : (guest page count : ℕ) → is_bad guest (record { page = page; count = count }) ≡ false → 0 < count
    → page + count ≤ guest
end_within guest page count good some = grind (arith, nat_tests)

-- so that it lists pages of the guest alone
run_within : (guest : ℕ) (d : Descriptor) → is_bad guest d ≡ false → All (λ p. p < guest) (run_pages d)
run_within guest d good = λ k e l. let low : k < d.count = omega (arith, l, length-range_with_len d.page d.count) in
    subst (λ p. p < guest) (sym (get_or-range_with_len d.page d.count k e low))
    (omega (arith, end_within guest d.page d.count good (omega arith)))

-- a good link isn't bad
link_good : (guest page count : ℕ) → is_good_link guest (record { page = page; count = count }) ≡ true
    → is_bad guest (record { page = page; count = count }) ≡ false
link_good guest page count good = grind (arith, nat_tests)

-- nor is a good run
run_good : (guest page count : ℕ) → is_good_run guest (record { page = page; count = count }) ≡ true
    → is_bad guest (record { page = page; count = count }) ≡ false
run_good guest page count good = grind (arith, nat_tests)

-- the walk goes on behind no bad descriptor
next_good : (guest : ℕ) (at : TablePosition) (d : Descriptor) (next : TablePosition) → next_position guest at d ≡ Some next
    → is_bad guest d ≡ false
next_good guest at d next e =
    go (is_good_link guest d) (is_good_run guest d) (nat_lt at.pair LAST_PAIR) refl refl (record { table = d.page; pair = 0 })
    (record { table = at.table; pair = at.pair + 1 }) e
  where
    go : (link run low : Bool) → is_good_link guest d ≡ link → is_good_run guest d ≡ run → (top below : TablePosition)
        → cond link (Some top) (cond (run && low) (Some below) None) ≡ Some next → is_bad guest d ≡ false
    go true run low is_link is_run top below e = link_good guest d.page d.count is_link
    go false true low is_link is_run top below e = run_good guest d.page d.count is_run
    go false false low is_link is_run top below e = absurd cc

module _ (guest : ℕ) (tables : Tables) where
  -- the pages of places whose descriptors list pages of the guest alone
  abbrev pub AreGood : List TablePosition → Type 0
  AreGood places = All (λ p. p < guest) (listed_pages tables places)

  -- the last place has no bad descriptor
  abbrev pub EndsWell : List TablePosition → Type 0
  EndsWell [] = Unit {0}
  EndsWell (at ∷ places) = is_bad guest (descriptor_at tables (last_of at places)) ≡ false

  -- one place more before good ones
  one_more : (at : TablePosition) (places : List TablePosition) → is_bad guest (descriptor_at tables at) ≡ false
      → AreGood places → AreGood (at ∷ places)
  one_more at places good rest = All-append (λ p. p < guest) (run_pages (descriptor_at tables at))
      (listed_pages tables places) (run_within guest (descriptor_at tables at) good) rest

  -- a walk that ends well has no bad descriptor
  pub walk_good : (n : ℕ) (at : Option TablePosition) → EndsWell (positions_from n guest tables at)
      → AreGood (positions_from n guest tables at)
  unfolding positions_from
  walk_good zero at well = All-nil (λ p. p < guest)
  walk_good (suc n) None well = All-nil (λ p. p < guest)
  walk_good (suc n) (Some at) well =
      let next = next_position guest at (descriptor_at tables at) in
      go next refl (positions_from n guest tables next) refl well (walk_good n next)
    where
      none : (n : ℕ) (p : TablePosition) (places : List TablePosition) → positions_from n guest tables None ≡ p ∷ places → ⊥
      none zero p places e = cc
      none (suc n) p places e = cc

      go : (next : Option TablePosition) → next_position guest at (descriptor_at tables at) ≡ next
          → (places : List TablePosition) → positions_from n guest tables next ≡ places
          → EndsWell (at ∷ places) → (EndsWell places → AreGood places) → AreGood (at ∷ places)
      go next is [] e well rest = one_more at [] well (All-nil (λ p. p < guest))
      go None is (p ∷ places) e well rest = absurd (none n p places e)
      go (Some next) is (p ∷ places) e well rest =
          one_more at (p ∷ places) (next_good guest at (descriptor_at tables at) next is) (rest well)

  -- a walk that gives pages gives those of the guest
  outcome_good : (count : ℕ) (before : List ℕ) (places : List TablePosition) → (EndsWell places → AreGood places)
      → All (λ p. p < guest) before → IfOk (outcome_after guest tables count before places) (All (λ p. p < guest))
  outcome_good count before [] good old = old
  outcome_good count before (at ∷ places) good old =
      let last = descriptor_at tables (last_of at places) in
      let many = count + length (at ∷ places) in
      let test = is_good_run guest last && (last_of at places).pair == LAST_PAIR in
      let long = nat_le MAX_DESCRIPTORS many && not (is_end last) in
      go (is_bad guest last) ((test, fault.ChainEnd) ∷ (long, fault.ChainLimit) ∷ []) good
    where
      go : (bad : Bool) (rules : List (Bool × Fault)) → (bad ≡ false → AreGood (at ∷ places))
          → IfOk (unless (first_standing ((bad, fault.BadPage) ∷ rules)) (before ++ listed_pages tables (at ∷ places)))
          (All (λ p. p < guest))
      go true rules good = tt
      go false rules good = by (first_standing rules) where
        by : (o : Option Fault) → IfOk (unless o (before ++ listed_pages tables (at ∷ places))) (All (λ p. p < guest))
        by None = All-append (λ p. p < guest) before (listed_pages tables (at ∷ places)) old (good refl)
        by (Some f) = tt

  -- so does the reading of a chain
  pub walk_outcome-good : (first : ℕ) → IfOk (walk_outcome guest tables first) (All (λ p. p < guest))
  walk_outcome-good first = at (nat_le guest first) where
    at : (t : Bool) → IfOk (cond t (Err fault.BadPage) (outcome_after guest tables 0 [] (walk guest tables first)))
        (All (λ p. p < guest))
    at true = tt
    at false = outcome_good 0 [] (walk guest tables first)
        (walk_good MAX_DESCRIPTORS (Some (record { table = first; pair = 0 }))) (All-nil (λ p. p < guest))

-- what the reading of a chain gives becomes the region's list
given_good : (l : Limits) (regions : Regions) (id : ℕ) (given : Result (List ℕ) Fault) → id ≤ MAX_REGION_ID
    → AreRegions l regions → IfOk given (All (λ p. p < l.pages)) → AreFalse (given_tests regions id given)
    → AreRegions l (with_given regions id given)
given_good l regions id (Ok pages) small are few tests =
    let room = at_most (places_with regions id (length pages)) MAX_PLACES tests.0 in
    regions_inserted l regions id small are (guest_places pages) (places_guest l pages few)
    (omega (arith, room, length-map pages (λ n. Some (Guest n))))
given_good l regions id (Err f) small are few tests = are

-- a chain that no rule refuses
pub chain_good : (l : Limits) (regions : Regions) (tables : Tables) (id first : ℕ) → AreRegions l regions
    → least_standing (chain_tests l.pages regions tables id first) ≡ None
    → AreRegions l (with_chain l.pages regions tables id first)
chain_good l regions tables id first are none = go (first == 0) tests.1 where
  tests : AreFalse (chain_tests l.pages regions tables id first)
  tests = all_false (chain_tests l.pages regions tables id first) none

  given : Result (List ℕ) Fault
  given = walk_outcome l.pages tables first

  small : id ≤ MAX_REGION_ID
  small = at_most id MAX_REGION_ID tests.0

  go : (t : Bool) → AreFalse (cond (nat_lt MAX_REGION_ID id || t) [] (given_tests regions id given))
      → AreRegions l (cond t (map.remove regions id) (with_given regions id given))
  go true h = regions_removed l regions id small are
  go false h = given_good l regions id given small are (walk_outcome-good l.pages tables first)
      (subst (λ b. AreFalse (cond (b || false) [] (given_tests regions id given))) tests.0 h)
