-- The walk of a chain, one table page at a time.
use Rattle.std.proofs.Common.{◌≡◌, ℕ, zero, suc, ◌+◌, ◌-◌, ◌<◌, ◌≤◌, refl, sym, ap, ◌∙◌, Option, Some, None, List, [], ◌∷◌, ◌++◌, length, map, arith, append-nil, append_assoc, length-append, nat_lt, ◌==◌, ◌&&◌, true, false, cond}
use Rattle.std.proofs.lemmas.Bool.Decides.{nat_tests}
use Rattle.std.proofs.lemmas.Grind.{flat_map-append}
use Rattle.std.proofs.lemmas.List.FromFn.{length-map-range_with_len}
use Rattle.std.specs.List.{flat_map, range_with_len, cons_option}
use Rattle.svga_model.specs.Standing.{first_standing}
use Rattle.svga_model.specs.Walks.{Tables, TablePosition, Descriptor, descriptor_in, descriptor_at, is_good_link, is_good_run, next_position, positions_from, entered, run_pages, listed_pages, last_of, last_tests, unless, outcome_after}
use Rattle.std.specs.Prelude.{option_map}
use Rattle.svga_region.specs.Chains.{positions_left, entered_left, outcome_left}
use Rattle.svga_region.specs.Kept.{table_pages}
use Rattle.svga_region.specs.RegionSet.{Chain}

-- a place of table page p
abbrev pub place_on : ℕ → ℕ → TablePosition
place_on p k = record { table = p; pair = k }

-- so many places of table page p from the i-th on
abbrev pub places_on : ℕ → ℕ → ℕ → List TablePosition
places_on p i k = map (λ j. place_on p j) (range_with_len i k)

-- the descriptors of these places are good runs
abbrev pub AreGoodRuns : ℕ → List ℕ → ℕ → ℕ → Type 0
AreGoodRuns guest bytes i k = (j : ℕ) → i ≤ j → j < i + k → is_good_run guest (descriptor_in bytes j) ≡ true

-- a good run is no link
no_link : (guest page count : ℕ) → is_good_run guest (record { page = page; count = count }) ≡ true → is_good_link guest (record { page = page; count = count }) ≡ false
no_link guest page count good = grind (arith, nat_tests)

-- behind a good run comes the next place of the page
next_place-run : (guest p i : ℕ) (d : Descriptor) → i < 511 → is_good_run guest d ≡ true → next_position guest (place_on p i) d ≡ Some (place_on p (i + 1))
next_place-run guest p i d l good =
    let link = no_link guest d.page d.count good in
    let within : nat_lt i 511 ≡ true = grind (arith, nat_tests) in
    λ j. cond (link j) (Some (place_on d.page 0)) (cond (good j && within j) (Some (place_on p (i + 1))) None)

-- no places from none
pub places_from-none : (n guest : ℕ) (tables : Tables) → positions_from n guest tables None ≡ []
unfolding positions_from
places_from-none zero guest tables = refl
places_from-none (suc n) guest tables = refl

-- no places where none may come
pub places_from-zero : (guest : ℕ) (tables : Tables) (at : Option TablePosition) → positions_from 0 guest tables at ≡ []
unfolding positions_from
places_from-zero guest tables at = refl

-- a place, and those behind it
pub places_from-some : (n guest : ℕ) (tables : Tables) (at : TablePosition) → positions_from (suc n) guest tables (Some at) ≡ at ∷ positions_from n guest tables (next_position guest at (descriptor_at tables at))
unfolding positions_from
places_from-some n guest tables at = refl

-- good runs are walked one after another
pub places_from-runs : (k guest : ℕ) (tables : Tables) (p i m n : ℕ) → m ≡ k + n → i + k ≤ 511 → AreGoodRuns guest (tables p) i k
    → positions_from m guest tables (Some (place_on p i)) ≡ places_on p i k ++ positions_from n guest tables (Some (place_on p (i + k)))
places_from-runs zero guest tables p i m n e l good = ap (λ m. positions_from m guest tables (Some (place_on p i))) (let f : m ≡ n = omega arith in f) ∙ ap (λ i. positions_from n guest tables (Some (place_on p i))) (let f : i ≡ i + 0 = omega arith in f)
places_from-runs (suc k) guest tables p i m n e l good =
    ap (λ m. positions_from m guest tables (Some (place_on p i))) (let f : m ≡ suc (k + n) = omega arith in f)
    ∙ places_from-some (k + n) guest tables (place_on p i)
    ∙ ap (λ at. place_on p i ∷ positions_from (k + n) guest tables at) (next_place-run guest p i (descriptor_in (tables p) i) (omega arith) (good i (omega arith) (omega arith)))
    ∙ ap (λ ps. place_on p i ∷ ps) (places_from-runs k guest tables p (i + 1) (k + n) n refl (omega arith) (λ j a b. good j (omega arith) (omega arith))
    ∙ ap (λ m. places_on p (i + 1) k ++ positions_from n guest tables (Some (place_on p m))) (let f : i + 1 + k ≡ i + suc k = omega arith in f))

-- a place past the first of its page enters none
entered_past : (p i : ℕ) (rest : List TablePosition) → 0 < i → entered (place_on p i ∷ rest) ≡ entered rest
entered_past p i rest l = ap (λ t. cons_option (cond t (Some p) None) (entered rest)) (let f : (i == 0) ≡ false = grind (arith, nat_tests) in f)

-- places past the first of their page enter none
entered_run : (p i k : ℕ) (rest : List TablePosition) → 0 < i → entered (places_on p i k ++ rest) ≡ entered rest
entered_run p i zero rest l = refl
entered_run p i (suc k) rest l = entered_past p i (places_on p (i + 1) k ++ rest) l ∙ entered_run p (i + 1) k rest (omega arith)

-- the places of one table page enter it once
pub entered_table : (p k : ℕ) (rest : List TablePosition) → entered (places_on p 0 k ++ place_on p k ∷ rest) ≡ p ∷ entered rest
entered_table p zero rest = refl
entered_table p (suc k) rest = ap (λ xs. p ∷ xs) (entered_run p 1 k (place_on p (suc k) ∷ rest) (omega arith) ∙ entered_past p (suc k) rest (omega arith))

-- what the places of one table page list
flat_map-map : {X Y Z : Type 0} (f : Y → List Z) (g : X → Y) (xs : List X) → flat_map f (map g xs) ≡ flat_map (λ x. f (g x)) xs
flat_map-map f g [] = refl
flat_map-map f g (x ∷ xs) = ap (λ t. f (g x) ++ t) (flat_map-map f g xs)

-- they list what the page lists
listed_table : (tables : Tables) (p k : ℕ) → listed_pages tables (places_on p 0 k) ≡ table_pages (tables p) k
listed_table tables p k = flat_map-map (λ at. run_pages (descriptor_at tables at)) (place_on p) (range_with_len 0 k) ∙ sym (flat_map-map run_pages (descriptor_in (tables p)) (range_with_len 0 k))

-- the last place is that of the end
last_of-append : (x : TablePosition) (xs : List TablePosition) (y : TablePosition) (ys : List TablePosition) → last_of x (xs ++ y ∷ ys) ≡ last_of y ys
last_of-append x [] y ys = refl
last_of-append x (z ∷ xs) y ys = last_of-append z xs y ys

-- what a walk gives, with its first places counted in
pub outcome_after-append : (guest : ℕ) (tables : Tables) (count : ℕ) (pages : List ℕ) (xs : List TablePosition) (y : TablePosition) (ys : List TablePosition)
    → outcome_after guest tables count pages (xs ++ y ∷ ys) ≡ outcome_after guest tables (count + length xs) (pages ++ listed_pages tables xs) (y ∷ ys)
outcome_after-append guest tables count pages [] y ys = λ i. outcome_after guest tables ((let e : count ≡ count + 0 = omega arith in e) i) (sym (append-nil pages) i) (y ∷ ys)
outcome_after-append guest tables count pages (x ∷ xs) y ys =
    let last = last_of-append x xs y ys in
    let many : count + length (x ∷ (xs ++ y ∷ ys)) ≡ count + length (x ∷ xs) + length (y ∷ ys) = omega (arith, length-append xs (y ∷ ys)) in
    let listed : pages ++ listed_pages tables (x ∷ (xs ++ y ∷ ys)) ≡ (pages ++ listed_pages tables (x ∷ xs)) ++ listed_pages tables (y ∷ ys) =
    ap (λ t. pages ++ t) (flat_map-append (λ at. run_pages (descriptor_at tables at)) (x ∷ xs) (y ∷ ys)) ∙ sym (append_assoc pages (listed_pages tables (x ∷ xs)) (listed_pages tables (y ∷ ys))) in
    λ i. unless (first_standing (last_tests guest (many i) (last i) (descriptor_at tables (last i)))) (listed i)

-- what a walk gives that ends on table page p, behind k good runs
pub outcome_ends : (guest : ℕ) (tables : Tables) (count : ℕ) (pages : List ℕ) (p k : ℕ)
    → outcome_after guest tables count pages (places_on p 0 k ++ place_on p k ∷ [])
    ≡ unless (first_standing (last_tests guest (count + k + 1) (place_on p k) (descriptor_in (tables p) k))) ((pages ++ table_pages (tables p) k) ++ run_pages (descriptor_in (tables p) k))
outcome_ends guest tables count pages p k =
    outcome_after-append guest tables count pages (places_on p 0 k) (place_on p k) []
    ∙ (λ i. unless (first_standing (last_tests guest (count + length-map-range_with_len (place_on p) 0 k i + 1) (place_on p k) (descriptor_in (tables p) k))) ((pages ++ listed_table tables p k i) ++ append-nil (run_pages (descriptor_in (tables p) k)) i))

-- what a walk gives that goes on from there
pub outcome_goes : (guest : ℕ) (tables : Tables) (count : ℕ) (pages : List ℕ) (p k : ℕ) (next : TablePosition) (rest : List TablePosition)
    → outcome_after guest tables count pages (places_on p 0 k ++ place_on p k ∷ next ∷ rest)
    ≡ outcome_after guest tables (count + k + 1) ((pages ++ table_pages (tables p) k) ++ run_pages (descriptor_in (tables p) k)) (next ∷ rest)
outcome_goes guest tables count pages p k next rest =
    outcome_after-append guest tables count pages (places_on p 0 k) (place_on p k) (next ∷ rest)
    ∙ outcome_after-append guest tables (count + length (places_on p 0 k)) (pages ++ listed_pages tables (places_on p 0 k)) (place_on p k ∷ []) next rest
    ∙ (λ i. outcome_after guest tables (count + length-map-range_with_len (place_on p) 0 k i + 1) ((pages ++ listed_table tables p k i) ++ append-nil (run_pages (descriptor_in (tables p) k)) i) (next ∷ rest))

module _ (guest : ℕ) (tables : Tables) (p : ℕ) (c : Chain) (k n : ℕ) (wants : c.wants ≡ Some p) (left : 4096 - c.count ≡ k + suc n) (few : k ≤ 511) (good : AreGoodRuns guest (tables p) 0 k) where
  -- the walk comes through k good runs to the next descriptor
  pub positions_left-table : positions_left guest tables c ≡ places_on p 0 k ++ place_on p k ∷ positions_from n guest tables (next_position guest (place_on p k) (descriptor_in (tables p) k))
  positions_left-table = ap (λ w. positions_from (4096 - c.count) guest tables (option_map (λ q. place_on q 0) w)) wants
      ∙ places_from-runs k guest tables p 0 (4096 - c.count) (suc n) left (omega arith) good
      ∙ ap (λ j. places_on p 0 k ++ positions_from (suc n) guest tables (Some (place_on p j))) (let e : 0 + k ≡ k = omega arith in e)
      ∙ ap (λ t. places_on p 0 k ++ t) (places_from-some n guest tables (place_on p k))

  -- it ends there
  pub entered_stops : positions_from n guest tables (next_position guest (place_on p k) (descriptor_in (tables p) k)) ≡ [] → entered_left guest tables c ≡ p ∷ []
  entered_stops none = ap entered (positions_left-table ∙ ap (λ t. places_on p 0 k ++ place_on p k ∷ t) none) ∙ entered_table p k []

  -- what it gives then
  pub outcome_stops : positions_from n guest tables (next_position guest (place_on p k) (descriptor_in (tables p) k)) ≡ []
      → outcome_left guest tables c ≡ unless (first_standing (last_tests guest (c.count + k + 1) (place_on p k) (descriptor_in (tables p) k))) ((c.pages ++ table_pages (tables p) k) ++ run_pages (descriptor_in (tables p) k))
  outcome_stops none = ap (outcome_after guest tables c.count c.pages) (positions_left-table ∙ ap (λ t. places_on p 0 k ++ place_on p k ∷ t) none) ∙ outcome_ends guest tables c.count c.pages p k

  module _ (q rest_count : ℕ) (d : Chain) (on : next_position guest (place_on p k) (descriptor_in (tables p) k) ≡ Some (place_on q 0)) (more : n ≡ suc rest_count) (wanted : d.wants ≡ Some q) (counted : d.count ≡ c.count + k + 1) where
    rest : List TablePosition
    rest = positions_from rest_count guest tables (next_position guest (place_on q 0) (descriptor_at tables (place_on q 0)))

    walked : positions_left guest tables c ≡ places_on p 0 k ++ place_on p k ∷ place_on q 0 ∷ rest
    unfolding rest
    walked = positions_left-table ∙ ap (λ t. places_on p 0 k ++ place_on p k ∷ t) (ap (positions_from n guest tables) on ∙ ap (λ m. positions_from m guest tables (Some (place_on q 0))) more ∙ places_from-some rest_count guest tables (place_on q 0))

    onward : positions_left guest tables d ≡ place_on q 0 ∷ rest
    unfolding rest
    onward = ap (λ w. positions_from (4096 - d.count) guest tables (option_map (λ q. place_on q 0) w)) wanted
        ∙ ap (λ m. positions_from m guest tables (Some (place_on q 0))) (let e : 4096 - d.count ≡ suc rest_count = omega arith in e) ∙ places_from-some rest_count guest tables (place_on q 0)

    -- it goes on at another table page
    pub entered_goes : entered_left guest tables c ≡ p ∷ entered_left guest tables d
    entered_goes = ap entered walked ∙ entered_table p k (place_on q 0 ∷ rest) ∙ ap (λ t. p ∷ entered t) (sym onward)

    pub entered_next : (more : List ℕ) × (entered_left guest tables d ≡ q ∷ more)
    entered_next = (entered rest, ap entered onward)

    pub outcome_goes_on : d.pages ≡ (c.pages ++ table_pages (tables p) k) ++ run_pages (descriptor_in (tables p) k) → outcome_left guest tables c ≡ outcome_left guest tables d
    outcome_goes_on listed = ap (outcome_after guest tables c.count c.pages) walked ∙ outcome_goes guest tables c.count c.pages p k (place_on q 0) rest
        ∙ (λ i. outcome_after guest tables (sym counted i) (sym listed i) (sym onward i))
