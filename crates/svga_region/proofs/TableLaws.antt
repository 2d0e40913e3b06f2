-- What a table page more does to a chain, by how its reading ends.
use Rattle.std.proofs.Common.{◌≡◌, ℕ, suc, ◌+◌, ◌-◌, ◌<◌, ◌≤◌, refl, sym, ap, ◌∙◌, Some, None, List, [], ◌∷◌, ◌++◌, arith, nat_lt, nat_le, not, ◌==◌, ◌&&◌, Bool, true, false, cond}
use Rattle.std.proofs.lemmas.Bool.Decides.{nat_tests}
use Rattle.svga_cmd.specs.declared.fault.Fault.{Fault}
use Rattle.svga_cmd.specs.declared.fault.Fault.TheVariants as fault
use Rattle.svga_model.specs.Standing.{first_standing}
use Rattle.svga_model.specs.Walks.{Tables, TablePosition, Descriptor, descriptor_in, is_end, is_good_link, is_good_run, is_bad, next_position, positions_from, run_pages, last_tests, unless}
use Rattle.svga_region.proofs.WalkLaws.{place_on, AreGoodRuns, places_from-none, places_from-zero, entered_stops, outcome_stops, entered_goes, entered_next, outcome_goes_on}
use Rattle.svga_region.specs.Chains.{Ends, Fails, GoesOn}
use Rattle.svga_region.specs.Kept.{table_pages}
use Rattle.svga_region.specs.RegionSet.{Chain}

-- the kinds of descriptors, by page and count
good_link : (guest : ℕ) (d : Descriptor) → is_good_run guest d ≡ true → is_good_link guest d ≡ false
good_link guest d good = grind (arith, nat_tests)

-- a good run is not bad
good_bad : (guest : ℕ) (d : Descriptor) → is_good_run guest d ≡ true → is_bad guest d ≡ false
good_bad guest d good = grind (arith, nat_tests)

-- a good run is not the end
good_end : (guest : ℕ) (d : Descriptor) → is_good_run guest d ≡ true → is_end d ≡ false
good_end guest d good = grind (arith, nat_tests)

-- a run is no link
long_link : (guest : ℕ) (d : Descriptor) → 0 < d.count → is_good_link guest d ≡ false
long_link guest d l = grind (arith, nat_tests)

-- a run that is not good is bad
long_bad : (guest : ℕ) (d : Descriptor) → 0 < d.count → is_good_run guest d ≡ false → is_bad guest d ≡ true
long_bad guest d l bad = grind (arith, nat_tests)

-- a descriptor without a count is no run
short_run : (guest : ℕ) (d : Descriptor) → d.count ≡ 0 → is_good_run guest d ≡ false
short_run guest d e = grind (arith, nat_tests)

-- a link past the guest is not good
far_link : (guest : ℕ) (d : Descriptor) → guest ≤ d.page → is_good_link guest d ≡ false
far_link guest d l = grind (arith, nat_tests)

-- a link past the guest is bad
far_bad : (guest : ℕ) (d : Descriptor) → d.count ≡ 0 → 0 < d.page → guest ≤ d.page → is_bad guest d ≡ true
far_bad guest d e p l = grind (arith, nat_tests)

-- a link to a guest page is good
near_link : (guest : ℕ) (d : Descriptor) → d.count ≡ 0 → 0 < d.page → d.page < guest → is_good_link guest d ≡ true
near_link guest d e p l = grind (arith, nat_tests)

-- a link to a guest page is not bad
near_bad : (guest : ℕ) (d : Descriptor) → d.count ≡ 0 → d.page < guest → is_bad guest d ≡ false
near_bad guest d e l = grind (arith, nat_tests)

-- a link is not the end
near_end : (d : Descriptor) → 0 < d.page → is_end d ≡ false
near_end d p = grind (arith, nat_tests)

-- page 0 is no link
none_link : (guest : ℕ) (d : Descriptor) → d.page ≡ 0 → is_good_link guest d ≡ false
none_link guest d e = grind (arith, nat_tests)

-- (0, 0) is the end
none_end : (d : Descriptor) → d.page ≡ 0 → d.count ≡ 0 → is_end d ≡ true
none_end d e f = grind (arith, nat_tests)

-- (0, 0) is not bad
none_bad : (guest : ℕ) (d : Descriptor) → d.page ≡ 0 → d.count ≡ 0 → is_bad guest d ≡ false
none_bad guest d e f = grind (arith, nat_tests)

-- no next place where there is neither a good link nor a good run on the way
no_next : (guest : ℕ) (at : TablePosition) (d : Descriptor) → is_good_link guest d ≡ false → (is_good_run guest d && nat_lt at.pair 511) ≡ false → next_position guest at d ≡ None
no_next guest at d link run = λ j. cond (link j) (Some (place_on d.page 0)) (cond (run j) (Some (place_on at.table (at.pair + 1))) None)

-- the tests at the last place, by their answers
last_bad : (guest m : ℕ) (at : TablePosition) (d : Descriptor) → is_bad guest d ≡ true → first_standing (last_tests guest m at d) ≡ Some fault.BadPage
last_bad guest m at d bad = λ i. first_standing ((bad i, fault.BadPage) ∷ (is_good_run guest d && at.pair == 511, fault.ChainEnd) ∷ (nat_le 4096 m && not (is_end d), fault.ChainLimit) ∷ [])

-- a good run as descriptor 511
last_on_page : (guest m : ℕ) (at : TablePosition) (d : Descriptor) → is_good_run guest d ≡ true → at.pair ≡ 511 → first_standing (last_tests guest m at d) ≡ Some fault.ChainEnd
last_on_page guest m at d good last =
    let bad = good_bad guest d good in
    let pair : (at.pair == 511) ≡ true = grind (arith, nat_tests) in
    λ i. first_standing ((bad i, fault.BadPage) ∷ (good i && pair i, fault.ChainEnd) ∷ (nat_le 4096 m && not (is_end d), fault.ChainLimit) ∷ [])

-- the 4,096th descriptor
last_of_all : (guest m : ℕ) (at : TablePosition) (d : Descriptor) → is_bad guest d ≡ false → (is_good_run guest d && at.pair == 511) ≡ false → is_end d ≡ false → m ≡ 4096 → first_standing (last_tests guest m at d) ≡ Some fault.ChainLimit
last_of_all guest m at d bad inside more all =
    let limit : nat_le 4096 m ≡ true = grind (arith, nat_tests) in
    λ i. first_standing ((bad i, fault.BadPage) ∷ (inside i, fault.ChainEnd) ∷ (limit i && not (more i), fault.ChainLimit) ∷ [])

-- no test is true beside a false one
off : (b : Bool) → (b && false) ≡ false
off true = refl
off false = refl

-- the end
last_end : (guest m : ℕ) (at : TablePosition) (d : Descriptor) → is_bad guest d ≡ false → is_good_run guest d ≡ false → is_end d ≡ true → first_standing (last_tests guest m at d) ≡ None
last_end guest m at d bad run end =
    let limit = ap (λ e. nat_le 4096 m && not e) end ∙ off (nat_le 4096 m) in
    λ i. first_standing ((bad i, fault.BadPage) ∷ (run i && at.pair == 511, fault.ChainEnd) ∷ (limit i, fault.ChainLimit) ∷ [])

-- good runs of the page's bytes are good runs of its descriptors
runs_of : (guest : ℕ) (tables : Tables) (p : ℕ) (bytes : List ℕ) (k : ℕ) → tables p ≡ bytes → ((j : ℕ) → j < k → is_good_run guest (descriptor_in bytes j) ≡ true) → (m : ℕ) → m ≤ k → AreGoodRuns guest (tables p) 0 m
runs_of guest tables p bytes k same good m l j a b = ap (λ bs. is_good_run guest (descriptor_in bs j)) same ∙ good j (omega arith)

module _ (guest : ℕ) (tables : Tables) (p : ℕ) (c : Chain) (bytes : List ℕ) (k : ℕ) (wants : c.wants ≡ Some p) (same : tables p ≡ bytes) (few : c.count < 4096) (good : (j : ℕ) → j < k → is_good_run guest (descriptor_in bytes j) ≡ true) where
  -- pair 511 is a good run
  pub fails_on_page : k ≡ 512 → c.count + k ≤ 4096 → Fails guest tables p c fault.ChainEnd None
  fails_on_page all fits =
      let d = descriptor_in (tables p) 511 in
      let last = ap (λ bs. is_good_run guest (descriptor_in bs 511)) same ∙ good 511 (omega arith) in
      let next = no_next guest (place_on p 511) d (good_link guest d last) (λ i. last i && false) in
      let n = 4096 - c.count - 512 in
      let left : 4096 - c.count ≡ 511 + suc n = omega arith in
      let none = ap (positions_from n guest tables) next ∙ places_from-none n guest tables in
      record {
        over = refl;
        entered = entered_stops guest tables p c 511 n wants left (omega arith) (runs_of guest tables p bytes k same good 511 (omega arith)) none;
        outcome = outcome_stops guest tables p c 511 n wants left (omega arith) (runs_of guest tables p bytes k same good 511 (omega arith)) none
            ∙ ap (λ o. unless o ((c.pages ++ table_pages (tables p) 511) ++ run_pages d)) (last_on_page guest (c.count + 511 + 1) (place_on p 511) d last refl);
      }

  -- the 4,096th descriptor is a good run
  pub fails_in_runs : k < 512 → c.count + k ≡ 4096 → Fails guest tables p c fault.ChainLimit None
  fails_in_runs short all =
      let j = k - 1 in
      let d = descriptor_in (tables p) j in
      let last = ap (λ bs. is_good_run guest (descriptor_in bs j)) same ∙ good j (omega arith) in
      let left : 4096 - c.count ≡ j + suc 0 = omega arith in
      let none = places_from-zero guest tables (next_position guest (place_on p j) d) in
      let inside : (j == 511) ≡ false = grind (arith, nat_tests) in
      record {
        over = refl;
        entered = entered_stops guest tables p c j 0 wants left (omega arith) (runs_of guest tables p bytes k same good j (omega arith)) none;
        outcome = outcome_stops guest tables p c j 0 wants left (omega arith) (runs_of guest tables p bytes k same good j (omega arith)) none
            ∙ ap (λ o. unless o ((c.pages ++ table_pages (tables p) j) ++ run_pages d)) (last_of_all guest (c.count + j + 1) (place_on p j) d (good_bad guest d last) (λ i. last i && inside i) (good_end guest d last) (omega arith));
      }

  -- what comes behind the good runs
  module _ (d : Descriptor) (is : d ≡ descriptor_in bytes k) (short : k < 512) (room : c.count + k < 4096) where
    here : descriptor_in (tables p) k ≡ d
    here = ap (λ bs. descriptor_in bs k) same ∙ sym is

    -- the walk ends there with a fault
    fails : (f : Fault) → (n : ℕ) → 4096 - c.count ≡ k + suc n → positions_from n guest tables (next_position guest (place_on p k) d) ≡ [] → first_standing (last_tests guest (c.count + k + 1) (place_on p k) d) ≡ Some f → Fails guest tables p c f None
    fails f n left none test =
        let stops = ap (λ d. positions_from n guest tables (next_position guest (place_on p k) d)) here ∙ none in
        record {
          over = refl;
          entered = entered_stops guest tables p c k n wants left (omega arith) (runs_of guest tables p bytes k same good k (omega arith)) stops;
          outcome = outcome_stops guest tables p c k n wants left (omega arith) (runs_of guest tables p bytes k same good k (omega arith)) stops
              ∙ ap (λ o. unless o ((c.pages ++ table_pages (tables p) k) ++ run_pages (descriptor_in (tables p) k))) (ap (λ d. first_standing (last_tests guest (c.count + k + 1) (place_on p k) d)) here ∙ test);
        }

    -- a run past the last guest page
    pub fails_run : 0 < d.count → is_good_run guest d ≡ false → Fails guest tables p c fault.BadPage None
    fails_run long bad =
        let n = 4096 - c.count - k - 1 in
        let next = no_next guest (place_on p k) d (long_link guest d long) (λ i. bad i && nat_lt k 511) in
        fails fault.BadPage n (omega arith) (ap (positions_from n guest tables) next ∙ places_from-none n guest tables) (last_bad guest (c.count + k + 1) (place_on p k) d (long_bad guest d long bad))

    -- a link to no guest page
    pub fails_link : d.count ≡ 0 → 0 < d.page → guest ≤ d.page → Fails guest tables p c fault.BadPage None
    fails_link none some far =
        let n = 4096 - c.count - k - 1 in
        let run = short_run guest d none in
        let next = no_next guest (place_on p k) d (far_link guest d far) (λ i. run i && nat_lt k 511) in
        fails fault.BadPage n (omega arith) (ap (positions_from n guest tables) next ∙ places_from-none n guest tables) (last_bad guest (c.count + k + 1) (place_on p k) d (far_bad guest d none some far))

    -- the 4,096th descriptor is a link
    pub fails_at_link : d.count ≡ 0 → 0 < d.page → d.page < guest → c.count + k ≡ 4095 → Fails guest tables p c fault.ChainLimit None
    fails_at_link none some near all =
        let run = short_run guest d none in
        fails fault.ChainLimit 0 (omega arith) (places_from-zero guest tables (next_position guest (place_on p k) d)) (last_of_all guest (c.count + k + 1) (place_on p k) d (near_bad guest d none near) (λ i. run i && k == 511) (near_end d some) (omega arith))

    -- the end
    pub ends : d.count ≡ 0 → d.page ≡ 0 → (e : Chain) → e.id ≡ c.id → e.wants ≡ None → e.pages ≡ (c.pages ++ table_pages bytes k) ++ run_pages d → Ends guest tables p c e
    ends none first e id over pages =
        let n = 4096 - c.count - k - 1 in
        let left : 4096 - c.count ≡ k + suc n = omega arith in
        let run = short_run guest d none in
        let next = no_next guest (place_on p k) d (none_link guest d first) (λ i. run i && nat_lt k 511) in
        let stops = ap (λ d. positions_from n guest tables (next_position guest (place_on p k) d)) here ∙ ap (positions_from n guest tables) next ∙ places_from-none n guest tables in
        record {
          id = id;
          wants = over;
          entered = entered_stops guest tables p c k n wants left (omega arith) (runs_of guest tables p bytes k same good k (omega arith)) stops;
          outcome = outcome_stops guest tables p c k n wants left (omega arith) (runs_of guest tables p bytes k same good k (omega arith)) stops
              ∙ (λ i. unless (first_standing (last_tests guest (c.count + k + 1) (place_on p k) (here i))) ((c.pages ++ table_pages (same i) k) ++ run_pages (here i)))
              ∙ (λ i. unless (last_end guest (c.count + k + 1) (place_on p k) d (none_bad guest d first none) run (none_end d first none) i) (sym pages i));
        }

    -- a link to another table page
    pub goes : d.count ≡ 0 → 0 < d.page → d.page < guest → c.count + k < 4095 → (e : Chain) → e.id ≡ c.id → e.wants ≡ Some d.page → e.count ≡ c.count + k + 1 → e.pages ≡ (c.pages ++ table_pages bytes k) ++ run_pages d → GoesOn guest tables p c d.page e
    goes none some near more e id wanted counted pages =
        let n = 4096 - c.count - k - 1 in
        let left : 4096 - c.count ≡ k + suc n = omega arith in
        let m = n - 1 in
        let longer : n ≡ suc m = omega arith in
        let link = near_link guest d none some near in
        let next : next_position guest (place_on p k) d ≡ Some (place_on d.page 0) = λ i. cond (link i) (Some (place_on d.page 0)) (cond (is_good_run guest d && nat_lt k 511) (Some (place_on p (k + 1))) None) in
        let on = ap (λ d. next_position guest (place_on p k) d) here ∙ next in
        let runs = runs_of guest tables p bytes k same good k (omega arith) in
        record {
          id = id;
          wants = wanted;
          page = near;
          more = omega arith;
          few = omega arith;
          entered = entered_goes guest tables p c k n wants left (omega arith) runs d.page m e on longer wanted counted;
          next = entered_next guest tables p c k n wants left (omega arith) runs d.page m e on longer wanted counted;
          outcome = outcome_goes_on guest tables p c k n wants left (omega arith) runs d.page m e on longer wanted counted
              (pages ∙ (λ i. (c.pages ++ table_pages (sym same i) k) ++ run_pages (sym here i)));
        }
