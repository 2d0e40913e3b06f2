-- The three calls of a chain, one after another.
use Rattle.std.proofs.Common.{◌≡◌, ◌≢◌, ℕ, suc, ◌+◌, ◌<◌, ◌≤◌, refl, sym, ap, subst, ◌∙◌, IsSome, IsSomeAnd, OnOk, OnErr, Option, Some, None, List, [], ◌∷◌, ◌++◌, length, append_assoc, length-append, arith, nat_lt, nat_le, ◌==◌, ◌||◌, Bool, true, false, cond, Result, Ok, Err}
use Rattle.std.proofs.lemmas.Bool.Decides.{nat_tests}
use Rattle.std.specs.FinMap as map
use Rattle.std.specs.Result.{result_err}
use Rattle.svga_cmd.specs.declared.fault.Fault.{Fault}
use Rattle.svga_cmd.specs.declared.fault.Fault.TheVariants as fault
use Rattle.svga_model.specs.Regions.{Regions}
use Rattle.svga_model.specs.Standing.{first_standing}
use Rattle.svga_model.specs.Walks.{Tables, chain_tests, entered, given_tests, list_tests, outcome_after, start_tests, walk, walk_outcome, with_chain, with_given, with_pages}
use Rattle.svga_region.specs.ChainCalls.{FinishesChain, ReadsChain, StartsChain}
use Rattle.svga_region.specs.Chains.{Ends, Fails, GoesOn, IsAnswer, begun_chain, entered_left, outcome_left}
use Rattle.svga_region.specs.Conditions.{IsChainBegun, IsChainWhole}
use Rattle.svga_region.specs.RegionSet.{Chain, RegionSet}
use Rattle.svga_region.specs.WholeChains.{HasBegun, HasGiven, HasRead, IsAllowed, IsDone, IsLeft, IsRead, IsUnderWay, WholeChain, fault_of_chain, given, walked, with_begun}
use Rattle.svga_region.specs.declared.chain.ChainNext.{ChainNext}
use Rattle.svga_region.specs.declared.chain.ChainNext.TheVariants.{Page, Whole}
use Rattle.svga_region.proofs.WalkLaws.{places_from-some}

-- what the walk of a chain gives whose first page is one of the guest
walk_outcome-good : (guest : ℕ) (tables : Tables) (id first : ℕ) → first < guest
    → outcome_left guest tables (begun_chain id first) ≡ walk_outcome guest tables first
walk_outcome-good guest tables id first l =
    ap (λ t. cond t (Err fault.BadPage) (outcome_after guest tables 0 [] (walk guest tables first)))
    (let e : false ≡ nat_le guest first = grind (arith, nat_tests) in e)

-- the first table page is entered first
first_entered : (guest : ℕ) (tables : Tables) (id first : ℕ)
    → (rest : List ℕ) × (entered_left guest tables (begun_chain id first) ≡ first ∷ rest)
first_entered guest tables id first =
    (_, ap entered (places_from-some 4095 guest tables (record { table = first; pair = 0 })))

-- the tests of a chain that can't be begun
chain_tests-start : (guest : ℕ) (regions : Regions) (tables : Tables) (id first : ℕ) (f : Fault) → first ≢ 0
    → Some f ≡ first_standing (start_tests guest id first)
    → first_standing (chain_tests guest regions tables id first) ≡ Some f
chain_tests-start guest regions tables id first f ne is = at (nat_lt 4095 id) (nat_le guest first) is where
  some : (first == 0) ≡ false
  some = grind (arith, nat_tests)

  outcome : Bool → Result (List ℕ) Fault
  outcome b = cond b (Err fault.BadPage) (outcome_after guest tables 0 [] (walk guest tables first))

  tests : Bool → Bool → Bool → Option Fault
  tests a b c = first_standing ((a, fault.RegionId) ∷ cond (a || c) [] (given_tests regions id (outcome b)))

  given_bad : (a b : Bool) → Some f ≡ first_standing ((a, fault.RegionId) ∷ (b, fault.BadPage) ∷ []) → tests a b false ≡ Some f
  given_bad true b e = sym e
  given_bad false true e = sym e
  given_bad false false e = absurd cc

  at : (a b : Bool) → Some f ≡ first_standing ((a, fault.RegionId) ∷ (b, fault.BadPage) ∷ []) → tests a b (first == 0) ≡ Some f
  at a b e = ap (tests a b) some ∙ given_bad a b e

-- the tests of a chain by what its walk gives
chain_tests-given : (guest : ℕ) (regions : Regions) (tables : Tables) (id first : ℕ) (given : Result (List ℕ) Fault)
    → id ≤ 4095 → first ≢ 0 → walk_outcome guest tables first ≡ given
    → first_standing (chain_tests guest regions tables id first) ≡ first_standing (given_tests regions id given)
chain_tests-given guest regions tables id first given l ne e =
    let low : nat_lt 4095 id ≡ false = grind (arith, nat_tests) in
    let some : (first == 0) ≡ false = grind (arith, nat_tests) in
    λ i. first_standing ((low i, fault.RegionId) ∷ cond (low i || some i) [] (given_tests regions id (e i)))

-- the regions after it, likewise
with_chain-given : (guest : ℕ) (regions : Regions) (tables : Tables) (id first : ℕ) (given : Result (List ℕ) Fault)
    → first ≢ 0 → walk_outcome guest tables first ≡ given
    → with_chain guest regions tables id first ≡ with_given regions id given
with_chain-given guest regions tables id first given ne e =
    let some : (first == 0) ≡ false = grind (arith, nat_tests) in
    λ i. cond (some i) (map.remove regions id) (with_given regions id (e i))

-- a chain that can be begun
start_none : (guest id first : ℕ) → None ≡ first_standing (start_tests guest id first) → (id ≤ 4095) × (first < guest)
start_none guest id first none = at (nat_lt 4095 id) (nat_le guest first) refl refl none where
  small : nat_lt 4095 id ≡ false → id ≤ 4095
  small e = grind (arith, nat_tests)

  near : nat_le guest first ≡ false → first < guest
  near e = grind (arith, nat_tests)

  at : (a b : Bool) → nat_lt 4095 id ≡ a → nat_le guest first ≡ b
      → None ≡ first_standing ((a, fault.RegionId) ∷ (b, fault.BadPage) ∷ []) → (id ≤ 4095) × (first < guest)
  at true b e f none = cc
  at false true e f none = cc
  at false false e f none = (small e, near f)

-- the chain that there is
there : (P : Chain → Type 0) (o : Option Chain) → IsSomeAnd o P → (d : Chain) × (o ≡ Some d) × P d
there P None h = absurd h
there P (Some d) h = (d, refl, h)

-- its beginning
pub begins : (w : WholeChain) (answer : Result (Unit {0}) Fault) (new : RegionSet) → w.first ≢ 0
    → StartsChain w.regions w.id w.first answer new → HasBegun w answer new
begins w (Err f) new some starts =
    (chain_tests-start w.regions.guest w.regions.regions w.tables w.id w.first f some starts.fault, starts.err)
begins w (Ok done) new some starts =
    let good = start_none w.regions.guest w.id w.first starts.fault in
    let chain = ap (λ r. r.chain) starts.ok in
    record {
      allowed = record { some = some; id = good.0 };
      kept = starts.ok ∙ ap (with_begun w) (sym chain);
      left = subst (λ o. IsSomeAnd o (IsLeft w [] w.first)) (sym chain) (record {
        id = refl;
        wants = refl;
        page = good.1;
        more = omega arith;
        few = omega arith;
        entered = refl;
        next = first_entered w.regions.guest w.tables w.id w.first;
        outcome = walk_outcome-good w.regions.guest w.tables w.id w.first good.1;
      });
    }

module _ (w : WholeChain) (read : List ℕ) (wanted : ℕ) (now new : RegionSet) (way : IsUnderWay w read wanted now)
    (kept : new ≡ record now { chain = new.chain }) where
  guest : now.guest ≡ w.regions.guest
  guest = ap (λ r. r.guest) way.kept

  -- nothing but the chain has changed since the beginning
  still : new ≡ with_begun w new.chain
  still = kept ∙ ap {A = RegionSet} (λ r. record r { chain = new.chain }) way.kept

  module _ (c : Chain) (left : IsLeft w read wanted c) where
    goes_on : (q : ℕ) → IsAnswer w.regions.guest w.tables wanted c (Ok (Page q)) new.chain
        → IsUnderWay w (read ++ wanted ∷ []) q new
    goes_on q answer =
        let found = there (λ d. GoesOn w.regions.guest w.tables wanted c q d) new.chain answer in
        let on = found.2 in record {
          allowed = way.allowed;
          kept = still;
          left = subst (λ o. IsSomeAnd o (IsLeft w (read ++ wanted ∷ []) q)) (sym found.1) (record {
            id = on.id ∙ left.id;
            wants = on.wants;
            page = on.page;
            more = omega (arith, left.more, on.more, length-append read (wanted ∷ []));
            few = on.few;
            entered = left.entered ∙ ap (λ t. read ++ t) on.entered
                ∙ sym (append_assoc read (wanted ∷ []) (entered_left w.regions.guest w.tables found.0));
            next = on.next;
            outcome = sym on.outcome ∙ left.outcome;
          });
        }

    ends : IsAnswer w.regions.guest w.tables wanted c (Ok Whole) new.chain → IsRead w (read ++ wanted ∷ []) new
    ends answer =
        let found = there (λ d. Ends w.regions.guest w.tables wanted c d) new.chain answer in
        let end = found.2 in record {
          allowed = way.allowed;
          kept = still;
          entered = left.entered ∙ ap (λ t. read ++ t) end.entered;
          whole = subst (λ o. IsSomeAnd o (HasGiven w)) (sym found.1)
              (record { id = end.id ∙ left.id; wants = end.wants; pages = sym left.outcome ∙ end.outcome });
        }

    reads : (answer : Result ChainNext Fault) → IsAnswer w.regions.guest w.tables wanted c answer new.chain
        → HasRead w (read ++ wanted ∷ []) answer new
    reads (Ok (Page q)) answer = goes_on q answer
    reads (Ok Whole) answer = ends answer
    reads (Err f) answer = record {
      over = still ∙ ap (with_begun w) answer.over;
      entered = left.entered ∙ ap (λ t. read ++ t) answer.entered;
      fault = chain_tests-given w.regions.guest w.regions.regions w.tables w.id w.first (Err f) way.allowed.id
          way.allowed.some (sym left.outcome ∙ answer.outcome);
    }

-- its next table page
pub goes : (w : WholeChain) (read : List ℕ) (wanted : ℕ) (now : RegionSet) (answer : Result ChainNext Fault)
    (new : RegionSet) → IsUnderWay w read wanted now → ReadsChain now (w.tables wanted) answer new
    → HasRead w (read ++ wanted ∷ []) answer new
goes w read wanted now answer new way page =
    let found = there (IsLeft w read wanted) now.chain way.left in
    reads w read wanted now new way page.kept found.0 found.2 answer
    (subst (λ g. IsAnswer g w.tables wanted found.0 answer new.chain) (ap (λ r. r.guest) way.kept)
    (page.answers found.0 wanted w.tables found.1 found.2.wants refl))

-- it wants a table page, one of the guest, of fewer than 4,096
pub wants_page : (w : WholeChain) (read : List ℕ) (wanted : ℕ) (now : RegionSet) → IsUnderWay w read wanted now
    → IsChainBegun now.chain × (wanted < w.regions.guest) × (length read < 4096)
wants_page w read wanted now way =
    let found = there (IsLeft w read wanted) now.chain way.left in
    let more = found.2.more in
    let few = found.2.few in
    (subst IsChainBegun (sym found.1) (subst IsSome (sym found.2.wants) refl), found.2.page, omega arith)

-- its end was read
pub is_whole : (w : WholeChain) (read : List ℕ) (now : RegionSet) → IsRead w read now → IsChainWhole now.chain
is_whole w read now whole =
    let found = there (HasGiven w) now.chain whole.whole in
    subst IsChainWhole (sym found.1) found.2.wants

-- its end
pub finishes : (w : WholeChain) (read : List ℕ) (now : RegionSet) (answer : Result (Unit {0}) Fault) (new : RegionSet)
    → IsRead w read now → FinishesChain now answer new → IsDone w answer new
finishes w read now answer new whole done = record {
  fault = done.fault found.0 found.1
      ∙ (λ i. first_standing (list_tests (regions i) (found.2.id i) (length found.0.pages)))
      ∙ sym (chain_tests-given w.regions.guest w.regions.regions w.tables w.id w.first (Ok found.0.pages)
      whole.allowed.id whole.allowed.some found.2.pages);
  ok = on_ok answer done.ok;
  err = on_err answer done.err;
}
  where
    found : (c : Chain) × (now.chain ≡ Some c) × HasGiven w c
    found = there (HasGiven w) now.chain whole.whole

    regions : now.regions ≡ w.regions.regions
    regions = ap (λ r. r.regions) whole.kept

    after : RegionSet
    after = record w.regions {
      regions = with_chain w.regions.guest w.regions.regions w.tables w.id w.first;
      chain = None;
    }

    is_after : record now { regions = with_pages now.regions found.0.id found.0.pages; chain = None } ≡ after
    is_after =
        (λ i. record (whole.kept i) { regions = with_pages (regions i) (found.2.id i) found.0.pages; chain = None })
        ∙ ap (λ rs. record w.regions { regions = rs; chain = None })
        (sym (with_chain-given w.regions.guest w.regions.regions w.tables w.id w.first (Ok found.0.pages)
        whole.allowed.some found.2.pages))

    on_ok : (r : Result (Unit {0}) Fault)
        → OnOk r ((c : Chain) → now.chain ≡ Some c → new ≡ record now { regions = with_pages now.regions c.id c.pages; chain = None })
        → OnOk r (new ≡ after)
    on_ok (Ok u) holds = holds found.0 found.1 ∙ is_after
    on_ok (Err f) holds = tt

    on_err : (r : Result (Unit {0}) Fault) → OnErr r (new ≡ record now { chain = None }) → OnErr r (new ≡ with_begun w None)
    on_err (Ok u) holds = tt
    on_err (Err f) holds = holds ∙ ap {A = RegionSet} (λ r. record r { chain = None }) whole.kept
