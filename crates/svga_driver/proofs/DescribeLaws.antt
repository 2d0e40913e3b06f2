-- A driver that describes a region by a chain of table pages.
use Rattle.std.proofs.Common.{◌≡◌, ◌≢◌, ◌⊎◌, inl, inr, ℕ, ◌+◌, ◌-◌, ◌<◌, ◌≤◌, ◌%◌, ◌^◌, ◌==◌, List, [], ◌∷◌, ◌++◌, length, take, Bool, true, false, not, nat_lt, nat_le, ◌&&◌, if◌then◌else◌, refl, sym, ap, subst, ◌∙◌, Option, Some, None, unwrap_or, option_map, Result, Ok, Err, arith, append-nil, length-drop}
use Rattle.std.proofs.lemmas.Bool.Decides.{nat_tests}
use Rattle.std.proofs.lemmas.List.{take_all}
use Rattle.std.proofs.lemmas.Option.{none-some}
use Rattle.std.specs.Option.{option_or}
use Rattle.svga_client.proofs.CallLaws.{asked as is_asked, call_describe}
use Rattle.svga_client.proofs.ClientOfLaws.{client_is, lent_reads}
use Rattle.svga_client.proofs.FollowLaws.{IsAsked, chain_admits, chain_touches, limits_are}
use Rattle.svga_client.specs.Following.{IsFollowed, acting}
use Rattle.svga_client.specs.Marks.{fence_behind}
use Rattle.svga_cmd.specs.declared.command.Command.{Command}
use Rattle.svga_cmd.specs.declared.constants.TheConstants.{MAX_PLACES, MAX_REGION_ID}
use Rattle.svga_cmd.specs.declared.fault.Fault.{Fault}
use Rattle.svga_cmd.specs.declared.fault.Fault.TheVariants as fault
use Rattle.svga_cmd.specs.declared.limits.Limits.{Limits}
use Rattle.svga_cmd.specs.declared.page.PageKey.{PageKey}
use Rattle.svga_cmd.specs.declared.page.PageKey.TheVariants.{Guest}
use Rattle.svga_driver.proofs.CommitLaws.{has, has_view, keeps_lacking, no_fewer, same_or_settled, settled_is}
use Rattle.svga_driver.proofs.RereadLaws.{client_reread, driver_reread, reread_rest}
use Rattle.svga_driver.specs.Answering.{told}
use Rattle.svga_driver.specs.DescribeAnswers.{DescribeAnswers, IsAllTaken, IsBehind, IsLookedAt, IsNotDescribed, IsPosted, IsReread, IsWalked, LoadAnswers, start_refusal}
use Rattle.svga_driver.specs.Driving.{DriverHas, IsDriver, client_by, client_in, known_by, open_request, settled}
use Rattle.svga_driver.specs.LendingSet.{LendingSet}
use Rattle.svga_driver.specs.Walking.{ChainAnswers, HasLentPages, IsAtRest, table_out}
use Rattle.svga_driver.specs.declared.fault.DriverFault.{DriverFault}
use Rattle.svga_driver.specs.declared.fault.DriverFault.TheVariants as driver
use Rattle.svga_driver.specs.declared.fault.Posted.{Posted}
use Rattle.svga_link.proofs.DriverRequests.{number_low}
use Rattle.svga_link.specs.Ends.{DriverSeen}
use Rattle.svga_link.specs.Lending.{MayAskFor, asking}
use Rattle.svga_link.specs.Reserving.{next_command}
use Rattle.svga_link.specs.Seats.{IsDriverPossible}
use Rattle.svga_link.specs.Told.{StopTold}
use Rattle.svga_model.proofs.Turns.{mod_turn}
use Rattle.svga_model.proofs.ValidRuns.{run_good}
use Rattle.svga_model.proofs.ValidStateLaws.{opening_good}
use Rattle.svga_model.specs.Acts.{Chain}
use Rattle.svga_model.specs.Addresses.{address}
use Rattle.svga_model.specs.ClientActs.{DescribeRegion}
use Rattle.svga_model.specs.ClientFaults.{ClientFault, PageOut, Refused, first_true}
use Rattle.svga_model.specs.Clients.{Client, after_call, refusal_of, start_refusals}
use Rattle.svga_model.specs.Faults.{fault_of}
use Rattle.svga_model.specs.Fences.{fences}
use Rattle.svga_model.specs.Regions.{place_count}
use Rattle.svga_model.specs.Runs.{run}
use Rattle.svga_model.specs.Sentences.{spelling_all}
use Rattle.svga_model.specs.States.{Shape, opening_state, shape_of}
use Rattle.svga_model.specs.ValidStates.{IsState}
use Rattle.svga_model.specs.Walks.{tables_of}
use Rattle.svga_ring.proofs.Acts.KnownDone.{known_done_least}
use Rattle.svga_ring.proofs.Words.NextCommand.{commands-append}
use Rattle.svga_ring.specs.Committed.{commands}
use Rattle.svga_ring.specs.Conditions.{NoneOpen, first_state, unsent}
use Rattle.svga_ring.specs.Layouts.{Layout, ring_dwords, ring_start, word_address}
use Rattle.svga_ring.specs.Rings.{address_in}
use Rattle.svga_ring.specs.Views.{DriverView, Terms, loaded}
use Rattle.svga_ring.specs.declared.plans.Geometry.{Geometry}
use Rattle.svga_shape.specs.ShapeSet.{ShapeSet, shape_in}

-- Why a chain can't be begun, by what was computed of its numbers.
pub start_why : (c : Client) (l : Limits) (id page : ℕ) (high other beyond : Bool)
    → c.state.kept.limits ≡ l → nat_lt MAX_REGION_ID id ≡ high → (page == 0) ≡ other
    → nat_le l.pages page ≡ beyond
    → first_true (start_refusals c id page)
    ≡ (if high then Some (Refused fault.RegionId) else
    if not other && beyond then Some (Refused fault.BadPage) else None)
start_why c l id page high other beyond limits is_high is_other is_beyond =
    λ i. first_true ((is_high i, Refused fault.RegionId)
    ∷ (not (is_other i) && (ap (λ m. nat_le m.pages page) limits ∙ is_beyond) i, Refused fault.BadPage) ∷ [])

-- a chain that can be begun has such an id and such a first page
start_good : (c : Client) (l : Limits) (id page : ℕ) → c.state.kept.limits ≡ l
    → first_true (start_refusals c id page) ≡ None
    → (id ≤ MAX_REGION_ID) × ((page ≡ 0) ⊎ (page < l.pages))
start_good c l id page limits none =
    go (nat_lt MAX_REGION_ID id) refl (page == 0) refl (nat_le l.pages page) refl
  where
    go : (high : Bool) → nat_lt MAX_REGION_ID id ≡ high → (other : Bool) → (page == 0) ≡ other
        → (beyond : Bool) → nat_le l.pages page ≡ beyond
        → (id ≤ MAX_REGION_ID) × ((page ≡ 0) ⊎ (page < l.pages))
    go true a other b beyond d =
        absurd (none-some _ (sym none ∙ start_why c l id page true other beyond limits a b d))
    go false a true b beyond d = (
      (let small : id ≤ MAX_REGION_ID = grind (arith, nat_tests, a) in small),
      inl (let zero : page ≡ 0 = grind (arith, nat_tests, b) in zero),
    )
    go false a false b true d =
        absurd (none-some _ (sym none ∙ start_why c l id page false false true limits a b d))
    go false a false b false d = (
      (let small : id ≤ MAX_REGION_ID = grind (arith, nat_tests, a) in small),
      inr (let near : page < l.pages = grind (arith, nat_tests, d) in near),
    )

-- STOP was loaded
pub told_of : (d left : DriverView) (answer : Result (Unit {0}) DriverFault) → LoadAnswers d answer left
    → (stop : ℕ) × StopTold d left stop
told_of d left (Ok done) all = (all.stop, all.told_by)
told_of d left (Err (driver.Busy stop next)) behind = (stop, behind.told_by)
told_of d left (Err fault) never = absurd never

-- Words that are less than a full ring apart have one address where they are one.
one_address : (lay : Layout) (stop sent : ℕ) → lay.base ≤ stop → stop ≤ sent
    → sent < stop + ring_dwords lay → word_address lay stop ≡ word_address lay sent → stop ≡ sent
one_address lay stop sent from below near same =
    let turn = mod_turn (ring_dwords lay) (sent - lay.base) (stop - lay.base) (omega (arith, below))
    (omega (arith, from, below, near)) in
    omega (arith, turn, same, from, below, near)

-- Where it is NEXT_CMD, all commands are taken.
all_passed : (d left : DriverView) → IsAllTaken d left → IsDriverPossible left → unsent left ≡ []
    → length (commands left.acts) ≤ left.passed
all_passed d left all possible sent =
    no_fewer cs (length cs) left.passed (omega arith)
    (omega (
      arith,
      ap (λ ws. length (spelling_all ws)) (take_all (length cs) cs (omega arith)),
      whole,
      ap length sent,
      length-drop (length left.sent) (spelling_all cs),
      taken,
    ))
  where
    cs : List Command
    cs = commands left.acts

    whole : left.stop ≡ length (spelling_all (take left.passed cs))
    whole = subst (λ (v : DriverView). v.stop ≡ length (spelling_all (take v.passed (commands v.acts))))
        (sym all.told_by.view) all.told_by.whole

    taken : left.stop ≡ length left.sent
    taken = subst (λ (v : DriverView). v.stop ≡ length v.sent) (sym all.told_by.view)
        (let ring = possible.sound.of_words.ring in
        let one = possible.sound.of_words.session.one_layout in
        let base : left.layout.base ≤ left.stop = subst (λ (v : DriverView). v.layout.base ≤ v.stop)
        possible.view_is (omega (arith, ring.base_known, ap (λ lay. lay.base) one)) in
        let room : length left.sent < left.stop + ring_dwords left.layout =
        subst (λ (v : DriverView). length v.sent < v.stop + ring_dwords v.layout) possible.view_is
        (omega (arith, ring.room, ap ring_dwords one)) in
        let base_then : d.layout.base ≤ all.told_by.stop =
        subst (λ (v : DriverView). v.layout.base ≤ v.stop) all.told_by.view base in
        let room_then : length d.sent < all.told_by.stop + ring_dwords d.layout =
        subst (λ (v : DriverView). length v.sent < v.stop + ring_dwords v.layout) all.told_by.view room in
        one_address d.layout all.told_by.stop (length d.sent)
        base_then all.told_by.most room_then (sym all.told_by.address ∙ all.is_next))

-- The state that a driver's acts leave is a valid one.
valid_left : (d : DriverView) → IsDriverPossible d → IsState (run (first_state d) d.acts)
valid_left d possible =
    let c = possible.core in
    let o = possible.sound.of_words in
    subst (λ (v : DriverView). IsState (run (first_state v) v.acts)) possible.view_is
    (subst (λ (t : Terms). IsState (run (opening_state t.limits t.first) c.driver.acts))
    (sym o.session.of_driver)
    (run_good (opening_state possible.key.limits possible.key.first) c.driver.acts
    (opening_good possible.key.limits possible.key.first possible.key.within.device) o.acts.each))

-- The next request has another number.
next_differs : (n : ℕ) → n < 2 ^ 20 → ((n + 1) % 2 ^ 20 == n) ≡ false
next_differs n low =
    let differ : (n + 1) % 2 ^ 20 ≢ n = λ same. omega (arith, same, low) in grind (arith, nat_tests, differ)

module _ {ring : Geometry} {next : ℕ} {e : DriverSeen} {s : ShapeSet} {n : LendingSet}
    {first emitted committed seen : ℕ} {asked : Option ℕ}
    (o : IsDriver ring next e s n first emitted committed seen asked) (id page : ℕ) where
  abbrev d : DriverHas
  d = has e n.touched

  abbrev c : Client
  c = client_in d

  pub limits_same : c.state.kept.limits ≡ s.limits
  limits_same = ap (λ (h : Shape). h.limits) o.shape_is

  limits_seen : s.limits ≡ e.view.terms.limits
  limits_seen = sym limits_same ∙ limits_are o.followed

  -- NEXT_CMD is where the driver keeps it
  pub next_is : next ≡ next_command e.view
  next_is = o.at_next.next_is ∙ ap (λ g. address_in g (length e.view.sent)) o.at_next.ring_is
      ∙ ap (λ m. address ring_start (ring_dwords e.view.layout) m)
      (let none = o.at_next.none_before in omega (arith, none))

  module _ {f : DriverSeen} {now : Option ℕ} (same : f ≡ record e { view = f.view })
      (is : f.view ≡ settled e.view) (now_is : now ≡ open_request f.view) where
    pub settled_client : client_in (has f n.touched) ≡ c
    settled_client = ap (λ (x : DriverSeen). client_in (has x n.touched))
        (same ∙ ap (λ v. record e { view = v }) (is ∙ settled_is e.view))

    -- It is refused before anything more is loaded.
    pub no_start : (why : Fault) → Some (Refused why) ≡ first_true (start_refusals c id page)
        → DescribeAnswers d id page (Err (driver.Refused why)) (has f n.touched)
    no_start why refused = record {
      refused = ap (λ r. option_map told (option_or r later)) (sym refused);
      looked = subst (λ r. IsLookedAt r e.view f.view) refused is;
      client_is = settled_client;
      left_is = has_view e f n.touched f.view same refl;
    }
      where
        later : Option ClientFault
        later = option_or (option_map PageOut (table_out c.state c.lent page))
            (option_map Refused (fault_of c.state (Chain id page)))

    module _ {g : DriverSeen} (after : g ≡ record f { view = g.view })
        (begins : first_true (start_refusals c id page) ≡ None) where
      pub good : (id ≤ MAX_REGION_ID) × ((page ≡ 0) ⊎ (page < s.limits.pages))
      good = start_good c s.limits id page limits_same begins

      whole : g ≡ record e { view = g.view }
      whole = after ∙ ap (λ (x : DriverSeen). record x { view = g.view }) same

      module _ (answer : Result (Unit {0}) DriverFault) (loads : LoadAnswers f.view answer g.view) where
        abbrev load : (stop : ℕ) × StopTold f.view g.view stop
        load = told_of f.view g.view answer loads

        pub loaded_client : client_in (has g n.touched) ≡ c
        loaded_client = ap (λ (x : DriverSeen). client_in (has x n.touched))
            (after ∙ ap (λ v. record f { view = v }) load.1.view) ∙ settled_client

        pub keeps_loaded : IsDriver ring next g s n first emitted committed seen now
        keeps_loaded = keeps_lacking o f g now same is now_is after load.0 g.view load.1 refl

      -- Not all that was sent is taken.
      pub busy : (why : DriverFault) → LoadAnswers f.view (Err why) g.view
          → DescribeAnswers d id page (Err why) (has g n.touched)
      busy (driver.Busy stop offset) behind = record {
        begins = begins;
        behind = subst (λ v. IsBehind v stop offset g.view) is behind;
        client_is = loaded_client (Err (driver.Busy stop offset)) behind;
        left_is = has_view e g n.touched g.view whole refl;
      }
      busy why never = absurd never

      -- All of it is.
      module _ (all : IsAllTaken f.view g.view) (possible : IsDriverPossible g.view)
          (sent : unsent g.view ≡ []) where
        kept : IsDriver ring next g s n first emitted committed seen now
        kept = keeps_loaded (Ok tt) all

        pub at_rest : IsAtRest g.view
        at_rest = record {
          none_open = subst NoneOpen (sym all.told_by.view)
              (subst NoneOpen (sym is) (same_or_settled e.view));
          all_done = omega (
            arith,
            all_passed f.view g.view all possible sent,
            known_done_least g.view.acts g.view.passed g.view.seen,
          );
          in_turn = kept.followed.in_turn;
        }

        terms_still : g.view.terms ≡ e.view.terms
        terms_still = ap (λ (v : DriverView). v.terms) (all.told_by.view)
            ∙ ap (λ (v : DriverView). v.terms) (is ∙ settled_is e.view)

        pub limits_then : s.limits ≡ g.view.terms.limits
        limits_then = limits_seen ∙ ap (λ (t : Terms). t.limits) (sym terms_still)

        pub within : place_count s.regions.regions ≤ MAX_PLACES
        within =
            let state = valid_left g.view possible in
            let regions = ap (λ (h : Shape). h.regions) kept.shape_is in
            omega (arith, state.kept.regions.within, ap place_count regions)

        pub page_good : (page ≡ 0) ⊎ (page < g.view.terms.limits.pages)
        page_good = subst (λ (l : Limits). (page ≡ 0) ⊎ (page < l.pages)) limits_then good.1

        -- the lent pages are the client's
        pub lent_pages : HasLentPages c.state g.view
        lent_pages p lent =
            ap (λ (x : Client). tables_of x.state.memory p) (sym (loaded_client (Ok tt) all))
            ∙ ap (λ o. unwrap_or o []) (lent_reads kept.followed (Guest p) lent)

        lent_still : c.lent ≡ g.view.lent
        lent_still = ap (λ (x : Client). x.lent) (sym (loaded_client (Ok tt) all))

        module _ {h : DriverSeen} (s3 : ShapeSet) (read : h ≡ record g { view = h.view })
            (reread : IsReread g.view h.view) where
          whole_read : h ≡ record e { view = h.view }
          whole_read = read ∙ ap (λ (x : DriverSeen). record x { view = h.view }) whole

          pub read_client : client_in (has h n.touched) ≡ c
          read_client = ap (λ (x : DriverSeen). client_in (has x n.touched)) read
              ∙ client_reread g n.touched h.view at_rest reread ∙ loaded_client (Ok tt) all

          walked : IsWalked e.view h.view
          walked = record {
            loaded = g.view;
            all_taken = subst (λ v. IsAllTaken v g.view) is all;
            reread = reread;
          }

          looked : IsLookedAt (start_refusal d id page) e.view h.view
          looked = subst (λ r. IsLookedAt r e.view h.view) (sym begins) walked

          -- what the client is told of what was read
          refusal_is : (out : Option PageKey) (why : Option Fault)
              → table_out c.state g.view.lent page ≡ out → fault_of c.state (Chain id page) ≡ why
              → refusal_of c (DescribeRegion id page)
              ≡ option_or (option_map PageOut out) (option_map Refused why)
          refusal_is out why is_out is_why =
              (λ i. option_or (begins i) (option_or
              (option_map PageOut (table_out c.state (lent_still i) page))
              (option_map Refused (fault_of c.state (Chain id page)))))
              ∙ (λ i. option_or (option_map PageOut (is_out i)) (option_map Refused (is_why i)))

          not_described : (why : DriverFault)
              → option_map told (refusal_of c (DescribeRegion id page)) ≡ Some why
              → IsNotDescribed d id page why (has h n.touched)
          not_described why refused = record {
            refused = refused;
            looked = looked;
            client_is = read_client;
            left_is = has_view e h n.touched h.view whole_read refl;
          }

          -- The chain is refused.
          pub refuses : (why : DriverFault) → ChainAnswers c.state g.view.lent id page (Err why) s s3
              → DescribeAnswers d id page (Err why) (has h n.touched)
          refuses (driver.Refused why) answer = not_described (driver.Refused why)
              (ap (option_map told) (refusal_is None (Some why) answer.0 answer.1))
          refuses (driver.PageOut key) answer = not_described (driver.PageOut key)
              (ap (option_map told)
              (refusal_is (Some key) (fault_of c.state (Chain id page)) answer.0 refl))
          refuses why never = absurd never

          keeps_read : (s4 : ShapeSet) → shape_in s4 ≡ shape_in s
              → IsDriver ring next h s4 n first emitted committed seen now
          keeps_read s4 shape = subst (λ x. IsDriver ring next x s4 n first emitted committed seen now)
              (sym read) (driver_reread kept h.view reread s4 shape)

          pub refuses_kept : (why : DriverFault)
              → ChainAnswers c.state g.view.lent id page (Err why) s s3
              → IsDriver ring next h s3 n first emitted committed seen now
          refuses_kept (driver.Refused why) answer = keeps_read s3 answer.2
          refuses_kept (driver.PageOut key) answer = keeps_read s3 answer.1
          refuses_kept why never = absurd never

          -- It is asked for.
          module _ (answer : ChainAnswers c.state g.view.lent id page (Ok tt) s s3) where
            abbrev u : IsDriver ring next h s n first emitted committed seen now
            u = keeps_read s refl

            granted : refusal_of c (DescribeRegion id page) ≡ None
            granted = refusal_is None None answer.0 answer.1

            granted_then : refusal_of (client_in (has h n.touched)) (DescribeRegion id page) ≡ None
            granted_then = ap (λ x. refusal_of x (DescribeRegion id page)) read_client ∙ granted

            may : IsAsked (client_in (has h n.touched)) id page
            may = is_asked u.followed id page granted_then

            rest_then : IsAtRest h.view
            rest_then = reread_rest g.view h.view reread at_rest

            pub may_ask : MayAskFor h.view id page
            may_ask = record {
              runs = u.runs;
              none_open = rest_then.none_open;
              all_taken = subst
                  (λ (v : DriverView). v.stop_loads.last ≡ word_address v.layout (length v.sent))
                  (sym reread.left_is)
                  (subst (λ (v : DriverView). v.stop_loads.last ≡ word_address v.layout (length v.sent))
                  (sym all.told_by.view) all.is_next);
              admissible = chain_admits u.followed id page may;
              pages_lent = λ key touched. chain_touches u.followed id page key may touched;
            }

            module _ {i : DriverSeen} (asks : i ≡ record h { view = asking h.view id page }) where
              asked_followed : IsFollowed h.view.terms.limits
                  (after_call (client_in (has h n.touched)) (DescribeRegion id page))
                  (acting (known_by h.view h.pages) (Chain id page))
              asked_followed = call_describe u.followed id page granted_then

              asked_client : after_call (client_in (has h n.touched)) (DescribeRegion id page)
                  ≡ client_by (asking h.view id page) h.pages n.touched
              asked_client = client_is asked_followed

              more : commands (h.view.acts ++ Chain id page ∷ []) ≡ commands h.view.acts
              more = commands-append h.view.acts (Chain id page ∷ [])
                  ∙ append-nil (commands h.view.acts)

              pub posted : (post : Posted) → post.request ≡ i.view.request.number
                  → IsPosted d id page post (has i n.touched)
              posted post number = record {
                done = record {
                  granted = granted;
                  client_is = ap (λ (x : DriverSeen). client_in (has x n.touched)) asks
                      ∙ sym asked_client ∙ ap (λ x. after_call x (DescribeRegion id page)) read_client;
                };
                walked = h.view;
                walk = walked;
                number = number;
                left_is = has_view e i n.touched (asking h.view id page)
                    (asks ∙ ap (λ (x : DriverSeen). record x { view = asking h.view id page }) whole_read
                    ∙ ap (λ v. record e { view = v }) (ap (λ (x : DriverSeen). x.view) (sym asks)))
                    (ap (λ (x : DriverSeen). x.view) asks);
              }

              -- the driver has the shape of the state after the chain, and its request is open
              pub keeps_asked : (request : ℕ) → request ≡ i.view.request.number
                  → IsDriver ring next i s3 n first emitted committed seen (Some request)
              keeps_asked request number = subst
                  (λ x. IsDriver ring next x s3 n first emitted committed seen (Some request)) (sym asks)
                  (record {
                    followed = subst
                        (λ x. IsFollowed h.view.terms.limits x
                        (known_by (asking h.view id page) h.pages)) asked_client asked_followed;
                    none_reserved = u.none_reserved;
                    none_put = u.none_put;
                    runs = u.runs;
                    large = u.large;
                    shape_is = ap shape_of (sym asked_followed.state.kept)
                        ∙ ap (λ x. shape_of (after_call x (DescribeRegion id page)).state.kept) read_client
                        ∙ answer.2;
                    limits_are = u.limits_are;
                    lent_are = u.lent_are;
                    marks = λ key command fences at. (let was = u.marks key command fences at in (
                      was.0 ∙ ap (λ l. fence_behind l command) (sym more),
                      omega (arith, was.1, ap length more),
                    ));
                    first_is = u.first_is;
                    some_first = u.some_first;
                    emitted_are = u.emitted_are ∙ ap (λ l. length (fences l)) (sym more);
                    committed_are = u.committed_are ∙ ap length (sym more);
                    fenced = u.fenced;
                    counted = u.counted;
                    seen_are = u.seen_are;
                    window = u.window;
                    passed = u.passed ∙ ap (λ l. length (spelling_all (take h.view.passed l))) (sym more);
                    some_passed = omega (arith, u.some_passed, ap length more);
                    asked_is = ap Some (number ∙ ap (λ (x : DriverSeen). x.view.request.number) asks)
                        ∙ sym open_now;
                    at_next = u.at_next;
                  })
                where
                  possible_number : h.view.request.number < 2 ^ 20
                  possible_number = subst (λ (v : DriverView). v.request.number < 2 ^ 20)
                      (sym reread.left_is) (number_low g.view possible)

                  open_now : open_request (asking h.view id page)
                      ≡ Some ((h.view.request.number + 1) % 2 ^ 20)
                  open_now = ap (λ m. if (h.view.request.number + 1) % 2 ^ 20 == m then None else
                      Some ((h.view.request.number + 1) % 2 ^ 20)) (sym rest_then.none_open)
                      ∙ ap (λ b. if b then None else Some ((h.view.request.number + 1) % 2 ^ 20))
                      (next_differs h.view.request.number possible_number)

-- Whatever it answers, no word is sent.
walked_sent : (d left : DriverView) → IsWalked d left → left.sent ≡ d.sent
walked_sent d left w =
    ap (λ (v : DriverView). v.sent) w.reread.left_is
    ∙ ap (λ (v : DriverView). v.sent) w.all_taken.told_by.view
    ∙ ap (λ (v : DriverView). v.sent) (settled_is d)

looked_sent : (d left : DriverView) (why : Option ClientFault) → IsLookedAt why d left → left.sent ≡ d.sent
looked_sent d left (Some f) is = ap (λ (v : DriverView). v.sent) (is ∙ settled_is d)
looked_sent d left None w = walked_sent d left w

pub describe_sent : (d : DriverHas) (id page : ℕ) (answer : Result Posted DriverFault) (left : DriverHas)
    → DescribeAnswers d id page answer left → left.view.sent ≡ d.view.sent
describe_sent d id page (Ok post) left o =
    ap (λ (x : DriverHas). x.view.sent) o.left_is ∙ walked_sent d.view o.walked o.walk
describe_sent d id page (Err (driver.Asked request reply)) left o =
    ap (λ (v : DriverView). v.sent) o.0.left_is
describe_sent d id page (Err (driver.Busy stop offset)) left o =
    ap (λ (v : DriverView). v.sent) (o.behind.told_by.view ∙ ap (λ (v : DriverView). record v {
      stop = o.behind.told_by.stop;
      passed = o.behind.told_by.passed;
      stop_loads = loaded v.stop_loads stop;
    }) (settled_is d.view))
describe_sent d id page (Err (driver.Refused f)) left o =
    looked_sent d.view left.view (start_refusal d id page) o.looked
describe_sent d id page (Err (driver.PageOut key)) left o =
    looked_sent d.view left.view (start_refusal d id page) o.looked
describe_sent d id page (Err fault) left never = absurd never
