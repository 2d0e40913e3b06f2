-- The reading of a chain, table page by table page, as the driver's acts leave them.
use Rattle.std.proofs.Common.{◌≡◌, ◌≢◌, ℕ, ◌+◌, ◌-◌, ◌<◌, ◌≤◌, List, [], ◌∷◌, ◌++◌, length, Bool, true, false, cond, not, nat_lt, nat_le, ◌==◌, ◌||◌, ◌&&◌, if◌then◌else◌, refl, sym, ap, subst, ◌∙◌, Option, Some, None, IsSomeAnd, Result, Ok, Err, arith, length-append}
use Rattle.std.proofs.lemmas.Bool.Decides.{nat_tests}
use Rattle.std.proofs.lemmas.Option.{none-some}
use Rattle.std.specs.FinSet as set
use Rattle.std.specs.FinSet.{FinSet}
use Rattle.std.specs.Result.{result_err}
use Rattle.svga_cmd.specs.Pages.{IsKey, key_cmp}
use Rattle.svga_cmd.specs.declared.constants.TheConstants.{MAX_DESCRIPTORS, MAX_PLACES, MAX_REGION_ID}
use Rattle.svga_cmd.specs.declared.command.Command.TheVariants.{DefineGmr2}
use Rattle.svga_cmd.specs.declared.fault.Fault.{Fault}
use Rattle.svga_cmd.specs.declared.fault.Fault.TheVariants as fault
use Rattle.svga_cmd.specs.declared.page.PageKey.{PageKey}
use Rattle.svga_cmd.specs.declared.page.PageKey.TheVariants.{Guest}
use Rattle.svga_driver.proofs.RereadLaws.{none_reread, reread_more, reread_rest, reread_run, rest_free}
use Rattle.svga_driver.specs.DescribeAnswers.{IsReread}
use Rattle.svga_driver.specs.Walking.{ChainAnswers, HasLentPages, IsAtRest, giving_again, table_out}
use Rattle.svga_driver.specs.declared.fault.DriverFault.TheVariants as driver
use Rattle.svga_link.specs.Ends.{DriverSeen}
use Rattle.svga_link.specs.Lending.{MayTakeBack}
use Rattle.svga_model.specs.Acts.{Chain}
use Rattle.svga_model.specs.Clients.{first_table_out}
use Rattle.svga_model.specs.Faults.{fault_of}
use Rattle.svga_model.specs.Memories.{page_bytes}
use Rattle.svga_model.specs.Regions.{Regions, place_count, places_with, region_length}
use Rattle.svga_model.specs.Standing.{first_standing, least_standing}
use Rattle.svga_model.specs.States.{Shape, State, shape_of}
use Rattle.svga_model.specs.Steps.{step}
use Rattle.svga_model.specs.Walks.{TablePosition, Tables, chain_tests, entered, given_tests, start_tests, tables_of, walk, walk_outcome, with_chain}
use Rattle.svga_region.proofs.WholeLaws.{begins, finishes, goes, is_whole, wants_page}
use Rattle.svga_region.specs.ChainCalls.{FinishesChain, ReadsChain, StartsChain}
use Rattle.svga_region.specs.Conditions.{IsChainBegun, IsChainWhole}
use Rattle.svga_region.specs.RegionSet.{Chain as Reading, RegionSet}
use Rattle.svga_region.specs.WholeChains.{HasRead, IsDone, IsLeft, IsRead, IsRefused, IsUnderWay, WholeChain, fault_of_chain, walked}
use Rattle.svga_region.specs.declared.chain.ChainNext.{ChainNext}
use Rattle.svga_region.specs.declared.chain.ChainNext.TheVariants.{Page, Whole}
use Rattle.svga_ring.specs.TableSteps.{page_left}
use Rattle.svga_ring.specs.Views.{DriverView, Terms}
use Rattle.svga_shape.specs.Admission.{IsAdmitted}
use Rattle.svga_shape.specs.ShapeSet.{AreOfLimits, ShapeSet, shape_in}

-- the chain that is read, over these tables
abbrev pub chain_of : ShapeSet → Tables → ℕ → ℕ → WholeChain
chain_of s tables id first = record { regions = s.regions; tables = tables; id = id; first = first }

-- the tables have the lent pages as the acts leave them
abbrev pub AreTables : DriverView → Tables → Type 0
AreTables d tables = (p : ℕ) → set.contains d.lent (Guest p) ≡ true → tables p ≡ page_left d (Guest p)

-- So many table pages were read, all of them lent, and this one is wanted.
pub record IsWalking (e : DriverSeen) (s : ShapeSet) (id first count wanted : ℕ) (e2 : DriverSeen)
    (s2 : ShapeSet) : Type 0 where
  pub read : List ℕ
  pub count_is : length read ≡ count
  pub none_out : first_table_out e.view.lent read ≡ None
  pub end_is : e2 ≡ record e { view = e2.view }
  pub reread : IsReread e.view e2.view
  pub shape_is : s2 ≡ record s { regions = s2.regions }
  pub way : (tables : Tables) → AreTables e.view tables
      → IsUnderWay (chain_of s tables id first) read wanted s2.regions

-- lent table pages in front of others
out_behind : (lent : FinSet key_cmp) (read others : List ℕ) → first_table_out lent read ≡ None
    → first_table_out lent (read ++ others) ≡ first_table_out lent others
out_behind lent [] others none = refl
out_behind lent (p ∷ read) others none =
    go (set.contains lent (Guest p)) none (λ rest. out_behind lent read others rest)
  where
    go : (b : Bool) → (if b then first_table_out lent read else Some (Guest p)) ≡ None
        → (first_table_out lent read ≡ None
        → first_table_out lent (read ++ others) ≡ first_table_out lent others)
        → (if b then first_table_out lent (read ++ others) else Some (Guest p)) ≡ first_table_out lent others
    go true none on = on none
    go false none on = absurd (none-some (Guest p) (sym none))

out_more : (lent : FinSet key_cmp) (read : List ℕ) (p : ℕ) → first_table_out lent read ≡ None
    → set.contains lent (Guest p) ≡ true → first_table_out lent (read ++ p ∷ []) ≡ None
out_more lent read p none here =
    out_behind lent read (p ∷ []) none ∙ ap (λ b. cond b None (Some (Guest p))) here

-- a chain that can't be begun
no_start : (guest id first : ℕ) (f : Fault) → id ≤ MAX_REGION_ID → first < guest
    → Some f ≡ first_standing (start_tests guest id first) → ⊥
no_start guest id first f small near is =
    let low : nat_lt MAX_REGION_ID id ≡ false = grind (arith, nat_tests) in
    let good : nat_le guest first ≡ false = grind (arith, nat_tests) in
    cc (is ∙ (λ i. first_standing ((low i, fault.RegionId) ∷ (good i, fault.BadPage) ∷ [])))

-- The same tests, whichever of them is the answer.
one_test : (regions : Regions) (id : ℕ) (given : Result (List ℕ) Fault)
    → least_standing (given_tests regions id given) ≡ first_standing (given_tests regions id given)
one_test regions id (Err f) = refl
one_test regions id (Ok pages) = go (nat_lt MAX_PLACES (places_with regions id (length pages))) where
  go : (b : Bool) → least_standing ((b, fault.PlaceLimit) ∷ []) ≡ first_standing ((b, fault.PlaceLimit) ∷ [])
  go true = refl
  go false = refl

chain_least : (guest : ℕ) (regions : Regions) (tables : Tables) (id first : ℕ) → id ≤ MAX_REGION_ID
    → first ≢ 0
    → least_standing (chain_tests guest regions tables id first)
    ≡ first_standing (chain_tests guest regions tables id first)
chain_least guest regions tables id first small some =
    let low : nat_lt MAX_REGION_ID id ≡ false = grind (arith, nat_tests) in
    let other : (first == 0) ≡ false = grind (arith, nat_tests) in
    let given : Result (List ℕ) Fault = walk_outcome guest tables first in
    (λ i. least_standing ((low i, fault.RegionId)
    ∷ cond (low i || other i) [] (given_tests regions id given)))
    ∙ one_test regions id given
    ∙ (λ i. first_standing ((sym low i, fault.RegionId)
    ∷ cond (sym low i || sym other i) [] (given_tests regions id given)))

module _ (s : State) (shape : ShapeSet) (id first : ℕ) (same : shape_of s.kept ≡ shape_in shape)
    (limits : shape.regions.guest ≡ shape.limits.pages) (small : id ≤ MAX_REGION_ID) (some : first ≢ 0) where
  abbrev w : WholeChain
  w = chain_of shape (tables_of s.memory) id first

  guest_is : s.kept.limits.pages ≡ shape.regions.guest
  guest_is = ap (λ (h : Shape). h.limits.pages) same ∙ sym limits

  regions_are : s.kept.regions ≡ shape.regions.regions
  regions_are = ap (λ (h : Shape). h.regions) same

  -- the first table page that is out, and the fault
  pub out_is : (lent : FinSet key_cmp) → table_out s lent first ≡ first_table_out lent (walked w)
  out_is lent =
      let other : (first == 0) ≡ false = grind (arith, nat_tests) in
      let walked_so : List TablePosition = walk s.kept.limits.pages (tables_of s.memory) first in
      ap (λ b. first_table_out lent (entered (cond b [] walked_so))) other
      ∙ ap (λ g. first_table_out lent (entered (walk g (tables_of s.memory) first))) guest_is

  pub fault_is : fault_of s (Chain id first) ≡ fault_of_chain w
  unfolding fault_of
  fault_is =
      (λ i. least_standing (chain_tests (guest_is i) (regions_are i) (tables_of s.memory) id first))
      ∙ chain_least shape.regions.guest shape.regions.regions (tables_of s.memory) id first small some

  -- the shape after it
  pub step_is : (after : ShapeSet) → after ≡ record shape { regions = after.regions }
      → after.regions.regions ≡ with_chain w.regions.guest w.regions.regions w.tables w.id w.first
      → shape_of (step s (Chain id first)).kept ≡ shape_in after
  step_is after kept regions =
      let old : Regions = with_chain s.kept.limits.pages s.kept.regions (tables_of s.memory) id first in
      let now : old ≡ after.regions.regions =
      (λ i. with_chain (guest_is i) (regions_are i) (tables_of s.memory) id first) ∙ sym regions in
      ap (λ (h : Shape). record h { regions = old }) same
      ∙ ap (λ rs. record (shape_in shape) { regions = rs }) now
      ∙ sym (ap shape_in kept)

-- a shape that says the same
pub same_shape : (s s2 : ShapeSet) → s2 ≡ record s { regions = s2.regions }
    → s2.regions.regions ≡ s.regions.regions → shape_in s2 ≡ shape_in s
same_shape s s2 kept regions =
    ap shape_in kept ∙ ap (λ rs. record (shape_in s) { regions = rs }) regions

-- the chain's reading may begin
pub record CanWalk (e : DriverSeen) (s : ShapeSet) (id first : ℕ) : Type 0 where
  pub at_rest : IsAtRest e.view
  pub limits : s.limits ≡ e.view.terms.limits
  pub valid : AreOfLimits s
  pub small : id ≤ MAX_REGION_ID
  pub some : first ≢ 0
  pub near : first < e.view.terms.limits.pages

-- what isn't false
so_true : (b : Bool) → not b ≡ false → b ≡ true
so_true true is = refl
so_true false is = cc

so_false : (b : Bool) → not b ≡ true → b ≡ false
so_false true is = cc
so_false false is = refl

module _ {e : DriverSeen} {s : ShapeSet} {id first : ℕ} (can : CanWalk e s id first) where
  guest_pages : s.regions.guest ≡ e.view.terms.limits.pages
  guest_pages = can.valid.guest ∙ ap (λ l. l.pages) can.limits

  -- the tables as the acts leave them
  abbrev own_tables : Tables
  own_tables p = page_left e.view (Guest p)

  -- It is begun,
  pub starts : {answer : Result (Unit {0}) Fault} {s2 : ShapeSet} → answer ≡ Ok tt
      → StartsChain s.regions id first answer s2.regions
      → s2 ≡ record s { regions = s2.regions } → IsWalking e s id first 0 first e s2
  starts {answer} {s2} ok begun kept = record {
    read = [];
    count_is = refl;
    none_out = refl;
    end_is = refl;
    reread = none_reread e.view;
    shape_is = kept;
    way = λ tables are. begins (chain_of s tables id first) (Ok tt) s2.regions can.some
        (subst (λ a. StartsChain s.regions id first a s2.regions) ok begun);
  }

  pub no_refusal : {answer : Result (Unit {0}) Fault} {f : Fault} {new : RegionSet} → answer ≡ Err f
      → StartsChain s.regions id first answer new → ⊥
  no_refusal {answer} {f} {new} err begun =
      no_start s.regions.guest id first f can.small (omega (arith, can.near, guest_pages))
      (ap result_err (sym err) ∙ begun.fault)

  -- goes on for 4,096 table pages at most,
  pub few : {count wanted : ℕ} {e2 : DriverSeen} {s2 : ShapeSet}
      → IsWalking e s id first count wanted e2 s2 → count < MAX_DESCRIPTORS
  few {count} {wanted} {e2} {s2} o =
      let here = wants_page _ _ _ _ (o.way own_tables (λ p lent. refl)) in
      omega (arith, here.2, o.count_is)

  module _ {count wanted : ℕ} {e2 : DriverSeen} {s2 : ShapeSet}
      (o : IsWalking e s id first count wanted e2 s2) where
    abbrev key : PageKey
    key = Guest wanted

    pub begun : IsChainBegun s2.regions.chain
    begun = (wants_page _ _ _ _ (o.way own_tables (λ p lent. refl))).0

    key_is : IsKey e.view.terms.limits key
    key_is = let low = (wants_page _ _ _ _ (o.way own_tables (λ p lent. refl))).1 in
        omega (arith, low, guest_pages)

    lent_still : e2.view.lent ≡ e.view.lent
    lent_still = ap (λ (v : DriverView). v.lent) o.reread.left_is

    terms_still : e2.view.terms ≡ e.view.terms
    terms_still = ap (λ (v : DriverView). v.terms) o.reread.left_is

    pub key_there : IsKey e2.view.terms.limits key
    key_there = subst (λ (t : Terms). IsKey t.limits key) (sym terms_still) key_is

    -- stops at a page that is with the driver,
    pub goes_out : not (set.contains e2.view.lent key) ≡ true → (t : State) → shape_of t.kept ≡ shape_in s
        → HasLentPages t e.view → ChainAnswers t e.view.lent id first (Err (driver.PageOut key)) s s2
    goes_out free t same tables =
        let way = o.way (tables_of t.memory) tables in
        let entered_is : (others : List ℕ)
        × (walked (chain_of s (tables_of t.memory) id first) ≡ o.read ++ wanted ∷ others) =
        entered_so way in (
          out_is t s id first same can.valid.guest can.small can.some e.view.lent
              ∙ ap (first_table_out e.view.lent) entered_is.1
              ∙ out_behind e.view.lent o.read (wanted ∷ entered_is.0) o.none_out
              ∙ ap (λ b. cond b (first_table_out e.view.lent entered_is.0) (Some key))
              (ap (λ lent. set.contains lent key) (sym lent_still)
              ∙ so_false (set.contains e2.view.lent key) free),
          same_shape s s2 o.shape_is (ap (λ (r : RegionSet). r.regions) way.kept),
        )
      where
        entered_so : {w : WholeChain} {read : List ℕ} {p : ℕ} {now : RegionSet}
            → IsUnderWay w read p now → (others : List ℕ) × (walked w ≡ read ++ p ∷ others)
        entered_so {w} {read} {p} {now} way = go now.chain way.left where
          go : (c : Option Reading) → IsSomeAnd c (IsLeft w read p)
              → (others : List ℕ) × (walked w ≡ read ++ p ∷ others)
          go None left = absurd left
          go (Some c) left = (left.next.0, left.entered ∙ ap (λ l. read ++ l) left.next.1)

    module _ (away : not (set.contains e2.view.lent key) ≡ false) where
      lent : set.contains e2.view.lent key ≡ true
      lent = so_true (set.contains e2.view.lent key) away

      lent_then : set.contains e.view.lent key ≡ true
      lent_then = ap (λ l. set.contains l key) (sym lent_still) ∙ lent

      -- takes one that is lent,
      pub may_take : MayTakeBack e2.view key
      may_take =
          let now = reread_rest e.view e2.view o.reread can.at_rest in record {
            key_is = key_there;
            lent = lent;
            none_open = now.none_open;
            untouched = λ n low touched. rest_free e2.view now n key low touched;
          }

      module _ {answer : Result ChainNext Fault} {e3 : DriverSeen} {s3 : ShapeSet}
          (taken : e3 ≡ record e2 { view = giving_again e2.view key })
          (reads : ReadsChain s2.regions (page_left e2.view key) answer s3.regions)
          (kept : s3 ≡ record s2 { regions = s3.regions }) where
        pub end_then : e3 ≡ record e { view = e3.view }
        end_then = taken ∙ ap (λ (x : DriverSeen). record x { view = giving_again e2.view key }) o.end_is
            ∙ ap (λ v. record e { view = v }) (ap (λ (x : DriverSeen). x.view) (sym taken))

        pub reread_then : IsReread e.view e3.view
        reread_then = subst (IsReread e.view) (ap (λ (x : DriverSeen). x.view) (sym taken))
            (reread_more e.view e2.view o.reread can.at_rest key key_is lent_then)

        shape_then : s3 ≡ record s { regions = s3.regions }
        shape_then = kept ∙ ap (λ (x : ShapeSet). record x { regions = s3.regions }) o.shape_is

        page_is : (tables : Tables) → AreTables e.view tables → page_left e2.view key ≡ tables wanted
        page_is tables are =
            ap (λ (t : State). page_bytes t.memory key) (reread_run e.view e2.view o.reread can.at_rest)
            ∙ sym (are wanted lent_then)

        comes : (tables : Tables) → AreTables e.view tables
            → HasRead (chain_of s tables id first) (o.read ++ wanted ∷ []) answer s3.regions
        comes tables are = goes (chain_of s tables id first) o.read wanted s2.regions answer s3.regions
            (o.way tables are)
            (subst (λ bytes. ReadsChain s2.regions bytes answer s3.regions) (page_is tables are) reads)

        -- and wants the next one,
        pub goes_on : (next : ℕ) → answer ≡ Ok (Page next) → IsWalking e s id first (count + 1) next e3 s3
        goes_on next is = record {
          read = o.read ++ wanted ∷ [];
          count_is = length-append o.read (wanted ∷ []) ∙ ap (λ n. n + 1) o.count_is;
          none_out = out_more e.view.lent o.read wanted o.none_out lent_then;
          end_is = end_then;
          reread = reread_then;
          shape_is = shape_then;
          way = λ tables are. subst
              (λ a. HasRead (chain_of s tables id first) (o.read ++ wanted ∷ []) a s3.regions) is
              (comes tables are);
        }

        -- ends with a fault,
        pub fails : (f : Fault) → answer ≡ Err f → (t : State) → shape_of t.kept ≡ shape_in s
            → HasLentPages t e.view → ChainAnswers t e.view.lent id first (Err (driver.Refused f)) s s3
        fails f is t same tables =
            let over : IsRefused (chain_of s (tables_of t.memory) id first) (o.read ++ wanted ∷ []) f
            s3.regions = subst
            (λ a. HasRead (chain_of s (tables_of t.memory) id first) (o.read ++ wanted ∷ []) a s3.regions)
            is (comes (tables_of t.memory) tables) in (
              out_is t s id first same can.valid.guest can.small can.some e.view.lent
                  ∙ ap (first_table_out e.view.lent) over.entered
                  ∙ out_more e.view.lent o.read wanted o.none_out lent_then,
              fault_is t s id first same can.valid.guest can.small can.some ∙ over.fault,
              same_shape s s3 shape_then (ap (λ (r : RegionSet). r.regions) over.over),
            )

        -- or has come to its end.
        module _ (is : answer ≡ Ok Whole) where
          whole : (tables : Tables) → AreTables e.view tables
              → IsRead (chain_of s tables id first) (o.read ++ wanted ∷ []) s3.regions
          whole tables are = subst
              (λ a. HasRead (chain_of s tables id first) (o.read ++ wanted ∷ []) a s3.regions) is
              (comes tables are)

          pub may_finish : IsChainWhole s3.regions.chain
          may_finish = is_whole _ _ _ (whole own_tables (λ p l. refl))

          module _ {result : Result (Unit {0}) Fault} {s4 : ShapeSet}
              (finished : FinishesChain s3.regions result s4.regions)
              (kept4 : s4 ≡ record s3 { regions = s4.regions }) (t : State)
              (same : shape_of t.kept ≡ shape_in s) (tables : HasLentPages t e.view) where
            shape_last : s4 ≡ record s { regions = s4.regions }
            shape_last = kept4 ∙ ap (λ (x : ShapeSet). record x { regions = s4.regions }) shape_then

            all_lent : table_out t e.view.lent first ≡ None
            all_lent = out_is t s id first same can.valid.guest can.small can.some e.view.lent
                ∙ ap (first_table_out e.view.lent) (whole (tables_of t.memory) tables).entered
                ∙ out_more e.view.lent o.read wanted o.none_out lent_then

            ends : IsDone (chain_of s (tables_of t.memory) id first) result s4.regions
            ends = finishes (chain_of s (tables_of t.memory) id first) (o.read ++ wanted ∷ []) s3.regions
                result s4.regions (whole (tables_of t.memory) tables) finished

            pub finishes_well : result ≡ Ok tt → ChainAnswers t e.view.lent id first (Ok tt) s s4
            finishes_well ok =
                let w : WholeChain = chain_of s (tables_of t.memory) id first in
                let all : IsDone w (Ok tt) s4.regions = subst (λ a. IsDone w a s4.regions) ok ends in (
                  all_lent,
                  fault_is t s id first same can.valid.guest can.small can.some ∙ sym all.fault,
                  step_is t s id first same can.valid.guest can.small can.some s4 shape_last
                      (ap (λ (r : RegionSet). r.regions) all.ok),
                )

            pub finishes_badly : (f : Fault) → result ≡ Err f
                → ChainAnswers t e.view.lent id first (Err (driver.Refused f)) s s4
            finishes_badly f err =
                let w : WholeChain = chain_of s (tables_of t.memory) id first in
                let all : IsDone w (Err f) s4.regions = subst (λ a. IsDone w a s4.regions) err ends in (
                  all_lent,
                  fault_is t s id first same can.valid.guest can.small can.some ∙ sym all.fault,
                  same_shape s s4 shape_last (ap (λ (r : RegionSet). r.regions) all.err),
                )

-- A region that goes.
module _ (shape : ShapeSet) (id : ℕ) (small : id ≤ MAX_REGION_ID) where
  pub may_forget : place_count shape.regions.regions ≤ MAX_PLACES
      → IsAdmitted (shape_in shape) (DefineGmr2 id 0)
  may_forget within =
      let low : nat_lt MAX_REGION_ID id ≡ false = grind (arith, nat_tests) in
      let room : nat_lt MAX_PLACES
      (place_count shape.regions.regions - region_length shape.regions.regions id + 0) ≡ false =
      grind (arith, nat_tests, within) in
      (λ i. least_standing ((low i, fault.RegionId)
      ∷ (nat_le id MAX_REGION_ID && room i, fault.PlaceLimit) ∷ []))
      ∙ go (nat_le id MAX_REGION_ID)
    where
      go : (b : Bool) → least_standing ((false, fault.RegionId) ∷ (b && false, fault.PlaceLimit) ∷ []) ≡ None
      go true = refl
      go false = refl

  pub forgets : (s : State) → fault_of s (Chain id 0) ≡ None
  unfolding fault_of
  forgets s =
      let low : nat_lt MAX_REGION_ID id ≡ false = grind (arith, nat_tests) in
      ap (λ b. least_standing ((b, fault.RegionId)
      ∷ cond (b || true) [] (given_tests s.kept.regions id
      (walk_outcome s.kept.limits.pages (tables_of s.memory) 0)))) low
