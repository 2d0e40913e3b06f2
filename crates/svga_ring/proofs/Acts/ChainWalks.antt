-- What an admissible chain asks for, and the pages that it touches.
use Rattle.std.proofs.Common.{◌≡◌, ℕ, zero, suc, ◌+◌, ◌<◌, ◌≤◌, List, [], Bool, true, false, cond, ◌&&◌, ◌||◌, nat_lt, nat_le, ◌==◌, Option, Some, None, Result, Err, refl, sym, subst, arith}
use Rattle.std.proofs.lemmas.Bool.Decides.{nat_tests}
use Rattle.std.proofs.lemmas.Option.{none-some, same_Some}
use Rattle.svga_cmd.proofs.KeyLaws.{keys_exact, keys_total}
use Rattle.svga_cmd.proofs.Maps.{one_key}
use Rattle.svga_cmd.specs.Pages.{IsKey, key_cmp}
use Rattle.std.specs.Ordering.{eq_by_cmp}
use Rattle.svga_cmd.specs.declared.fault.Fault.{Fault}
use Rattle.svga_cmd.specs.declared.fault.Fault.TheVariants as fault
use Rattle.svga_cmd.specs.declared.limits.Limits.{Limits}
use Rattle.svga_cmd.specs.declared.page.PageKey.{PageKey}
use Rattle.svga_cmd.specs.declared.page.PageKey.TheVariants.{Guest}
use Rattle.svga_model.proofs.TouchWalks.{is_entered}
use Rattle.svga_model.proofs.ValidRules.{AreFalse, all_false, at_most}
use Rattle.svga_model.specs.Acts.{Chain}
use Rattle.svga_model.specs.Faults.{IsAdmissible, fault_of}
use Rattle.svga_model.specs.Regions.{Regions}
use Rattle.svga_model.specs.States.{State}
use Rattle.svga_model.specs.Touches.{Touches}
use Rattle.svga_model.specs.Walks.{Descriptor, TablePosition, Tables, chain_tests, descriptor_at, given_tests, is_good_link, is_good_run, next_position, positions_from, tables_of, walk, walk_outcome}

-- the walk goes on within the guest's pages
link_within : (guest page count : ℕ) → is_good_link guest (record { page = page; count = count }) ≡ true
    → page < guest
link_within guest page count good = grind (arith, nat_tests)

next_within : (guest : ℕ) (at : TablePosition) (d : Descriptor) (next : TablePosition) → at.table < guest
    → next_position guest at d ≡ Some next → next.table < guest
next_within guest at d next low e = go (is_good_link guest d) (is_good_run guest d && nat_lt at.pair 511)
    refl e where
      go : (link run : Bool) → is_good_link guest d ≡ link
          → cond link (Some (record { table = d.page; pair = 0 }))
          (cond run (Some (record { table = at.table; pair = at.pair + 1 })) None) ≡ Some next
          → next.table < guest
      go true run is_link same =
          subst (λ (p : TablePosition). p.table < guest)
          (same_Some (record { table = d.page; pair = 0 }) next same)
          (link_within guest d.page d.count is_link)
      go false true is_link same =
          subst (λ (p : TablePosition). p.table < guest)
          (same_Some (record { table = at.table; pair = at.pair + 1 }) next same) low
      go false false is_link same = absurd (none-some next same)

-- what a walk enters
module _ (l : Limits) (tables : Tables) (key : PageKey) where
  here_or_behind : (table : ℕ) (same : Bool) (rest : Bool) → eq_by_cmp key_cmp key (Guest table) ≡ same
      → table < l.pages
      → (same || rest) ≡ true → (rest ≡ true → IsKey l key) → IsKey l key
  here_or_behind table true rest same low has behind =
      subst (IsKey l) (sym (one_key keys_total keys_exact key (Guest table) same)) low
  here_or_behind table false rest same low has behind = behind has

  none_entered : (n : ℕ) → is_entered key (positions_from n l.pages tables None) ≡ true → ⊥
  unfolding positions_from
  none_entered zero has = cc has
  none_entered (suc n) has = cc has

  places_keys : (n : ℕ) (at : TablePosition) → at.table < l.pages
      → is_entered key (positions_from n l.pages tables (Some at)) ≡ true → IsKey l key
  unfolding positions_from
  places_keys zero at low has = absurd (cc has)
  places_keys (suc n) at low has =
      let next = next_position l.pages at (descriptor_at tables at) in
      here_or_behind at.table (eq_by_cmp key_cmp key (Guest at.table))
      (is_entered key (positions_from n l.pages tables next)) refl low has
      (λ behind. go next refl behind (places_keys n))
    where
      go : (next : Option TablePosition) → next_position l.pages at (descriptor_at tables at) ≡ next
          → is_entered key (positions_from n l.pages tables next) ≡ true
          → ((at : TablePosition) → at.table < l.pages
          → is_entered key (positions_from n l.pages tables (Some at)) ≡ true
          → IsKey l key) → IsKey l key
      go None is behind on = absurd (none_entered n behind)
      go (Some next) is behind on = on next (next_within l.pages at (descriptor_at tables at) next low is)
          behind

-- the first page of a chain that is read is a page of the guest
begun_within : (regions : Regions) (id guest first : ℕ) (outcome : Result (List ℕ) Fault)
    → AreFalse (given_tests regions id (cond (nat_le guest first) (Err fault.BadPage) outcome))
    → first < guest
begun_within regions id guest first outcome tests = go (nat_le guest first) refl tests where
  go : (past : Bool) → nat_le guest first ≡ past
      → AreFalse (given_tests regions id (cond past (Err fault.BadPage) outcome)) → first < guest
  go true past tests = absurd (cc (tests.0))
  go false past tests = grind (arith, nat_tests)

-- what an admissible chain asks for: a region, and the first page of a walk, or none
pub record IsChainWithin (guest id first : ℕ) : Type 0 where
  pub id_low : id ≤ 4095
  pub first_low : (first == 0) ≡ false → first < guest

pub chain_within : (s : State) (id first : ℕ) → IsAdmissible s (Chain id first)
    → IsChainWithin s.kept.limits.pages id first
unfolding fault_of
chain_within s id first admissible = record {
  id_low = at_most id 4095 tests.0;
  first_low = λ some. go (nat_lt 4095 id) (first == 0) tests.0 some tests.1;
}
  where
    tests : AreFalse (chain_tests s.kept.limits.pages s.kept.regions (tables_of s.memory) id first)
    tests = all_false (chain_tests s.kept.limits.pages s.kept.regions (tables_of s.memory) id first)
        admissible

    go : (high none : Bool) → high ≡ false → none ≡ false
        → AreFalse (cond (high || none) []
        (given_tests s.kept.regions id (walk_outcome s.kept.limits.pages (tables_of s.memory) first)))
        → first < s.kept.limits.pages
    go true none low some tests = absurd (cc low)
    go false true low some tests = absurd (cc some)
    go false false low some tests = begun_within s.kept.regions id s.kept.limits.pages first _ tests

-- it touches pages of the device alone
pub chain_keys : (s : State) (id first : ℕ) (key : PageKey) → IsAdmissible s (Chain id first)
    → Touches s (Chain id first) key → IsKey s.kept.limits key
chain_keys s id first key admissible touched = go (first == 0) refl touched where
  go : (none : Bool) → (first == 0) ≡ none
      → is_entered key (cond none [] (walk s.kept.limits.pages (tables_of s.memory) first)) ≡ true
      → IsKey s.kept.limits key
  go true none has = absurd (cc has)
  go false some has =
      places_keys s.kept.limits (tables_of s.memory) key 4096 (record { table = first; pair = 0 })
      ((chain_within s id first admissible).first_low some) has
