-- How a page comes back to a driver, or why it doesn't.
use Rattle.std.proofs.Common.{◌≡◌, ℕ, ◌-◌, ◌<◌, ◌≤◌, ◌==◌, nat_lt, [], ◌∷◌, Bool, true, false, not, is_some, if◌then◌else◌, length, Option, None, Some, option_map, refl, sym, ap, subst, ◌∙◌, arith}
use Rattle.std.proofs.lemmas.Bool.Decides.{nat_tests}
use Rattle.std.specs.FinMap as map
use Rattle.std.specs.Prelude.{Err, Ok, Result}
use Rattle.svga_client.proofs.CallLaws.{call_take, taken_free}
use Rattle.svga_client.proofs.ClientOfLaws.{client_is}
use Rattle.svga_client.proofs.FollowLaws.{limits_are}
use Rattle.svga_client.proofs.MarkLaws.{mark_unfenced}
use Rattle.svga_client.specs.Marks.{IsSeenBehind, fence_behind}
use Rattle.svga_cmd.specs.Pages.{is_key}
use Rattle.svga_cmd.specs.declared.page.PageKey.{PageKey}
use Rattle.svga_driver.proofs.CommitLaws.{settled_is as only_reply}
use Rattle.svga_driver.proofs.LoadLaws.{driver_polled}
use Rattle.svga_driver.proofs.PageCalls.{driver_with_pages, has, key_is, lent_fewer, marks_fewer}
use Rattle.svga_driver.specs.Answering.{told}
use Rattle.svga_driver.specs.Driving.{IsDriver, client_in, settled}
use Rattle.svga_driver.specs.LendingSet.{LendingSet, command_of, without}
use Rattle.svga_driver.specs.PageAnswers.{IsBack, PassAnswers, ShowsNoFence, TakeAnswers}
use Rattle.svga_driver.specs.declared.fault.DriverFault.{DriverFault}
use Rattle.svga_driver.specs.declared.fault.DriverFault.TheVariants as driver
use Rattle.svga_driver.specs.declared.lending.Lending.{Lending}
use Rattle.svga_driver.specs.declared.lending.Lending.TheVariants.{Touched, Untouched}
use Rattle.svga_link.specs.Ends.{DriverSeen}
use Rattle.svga_link.specs.Lending.{MayTakeBack, taking, with_reply}
use Rattle.svga_model.specs.ClientActs.{TakePage}
use Rattle.svga_model.specs.ClientFaults.{ClientFault, NoFence, NotLent, PageRange, first_true}
use Rattle.svga_model.specs.Clients.{after_call, is_unfenced, refusal_of}
use Rattle.svga_model.specs.Fences.{fences, number_of_fence}
use Rattle.svga_ring.specs.Committed.{commands}
use Rattle.svga_ring.specs.Conditions.{NoneOpen}
use Rattle.svga_ring.specs.TableSteps.{page_left}
use Rattle.svga_ring.specs.Views.{DriverView}
use Rattle.svga_ring.specs.declared.plans.Geometry.{Geometry}
use Rattle.svga_shape.specs.ShapeSet.{ShapeSet}

-- why a page can't be taken back
abbrev pub why_away : PageKey → Bool → Bool → Bool → Option ClientFault
why_away key false lent unfenced = Some (PageRange key)
why_away key true false unfenced = Some (NotLent key)
why_away key true true true = Some (NoFence key)
why_away key true true false = None

why_is : (key : PageKey) (there lent unfenced : Bool)
    → first_true ((not there, PageRange key) ∷ (not lent, NotLent key) ∷ (unfenced, NoFence key) ∷ [])
    ≡ why_away key there lent unfenced
why_is key false lent unfenced = refl
why_is key true false unfenced = refl
why_is key true true true = refl
why_is key true true false = refl

module _ {ring : Geometry} {next : ℕ} {e : DriverSeen} {s : ShapeSet} {n : LendingSet} {first emitted committed seen : ℕ} {asked : Option ℕ}
    (is : IsDriver ring next e s n first emitted committed seen asked) (key : PageKey) where
  pub take_why : (there lent unfenced : Bool) → is_key n.limits key ≡ there → is_some (map.get n.lent key) ≡ lent
      → is_unfenced (commands e.view.acts) (map.get n.touched key) ≡ unfenced
      → refusal_of (client_in (has e n)) (TakePage key) ≡ why_away key there lent unfenced
  take_why there lent unfenced is_there is_lent is_unfenced_so =
      (λ i. first_true ((not (is_key ((limits_are is.followed ∙ sym is.limits_are) i) key), PageRange key)
      ∷ (not (sym (is.lent_are key) i), NotLent key)
      ∷ (is_unfenced (commands e.view.acts) (map.get n.touched key), NoFence key) ∷ []))
      ∙ (λ i. first_true ((not (is_there i), PageRange key) ∷ (not (is_lent i), NotLent key) ∷ (is_unfenced_so i, NoFence key) ∷ []))
      ∙ why_is key there lent unfenced

  same_driver : (e' : DriverSeen) (seen' : ℕ) → e'.view ≡ e.view → e' ≡ record e { view = e'.view } → seen' ≡ e'.view.seen
      → IsDriver ring next e' s n first emitted committed seen' asked
  same_driver e' seen' view end_is seen_is =
      let now : e' ≡ e = end_is ∙ ap (λ v. record e { view = v }) view in
      subst (λ x. IsDriver ring next x s n first emitted committed seen' asked) (sym now)
      (subst (λ m. IsDriver ring next e s n first emitted committed m asked) (is.seen_are ∙ sym (seen_is ∙ ap (λ v. v.seen) view)) is)

  -- FENCE was loaded for it, if it was
  pub driver_passed : (lending : Lending) (answer : Result (Unit {0}) DriverFault) (e' : DriverSeen) (seen' : ℕ)
      → PassAnswers e.view key lending answer e'.view → e' ≡ record e { view = e'.view } → seen' ≡ e'.view.seen
      → IsDriver ring next e' s n first emitted committed seen' asked
  driver_passed Untouched (Ok done) e' seen' pass end_is seen_is = same_driver e' seen' pass end_is seen_is
  driver_passed Untouched (Err fault) e' seen' pass end_is seen_is = absurd pass
  driver_passed (Touched command count) (Ok done) e' seen' pass end_is seen_is =
      driver_polled is e' pass.0 pass.1 end_is seen' seen_is
  driver_passed (Touched command count) (Err (driver.NoFence k)) e' seen' pass end_is seen_is =
      same_driver e' seen' pass.2 end_is seen_is
  driver_passed (Touched command count) (Err (driver.NotYet k fence)) e' seen' pass end_is seen_is =
      driver_polled is e' pass.2 pass.3 end_is seen' seen_is
  driver_passed (Touched command count) (Err fault) e' seen' pass end_is seen_is = absurd pass

  -- where it passed, nothing changes but what is seen
  passed_view : (lending : Lending) (v : DriverView) → PassAnswers e.view key lending (Ok tt) v
      → v ≡ record e.view { seen = v.seen; fence_loads = v.fence_loads }
  passed_view Untouched v pass =
      pass ∙ ap (λ (x : DriverView). record e.view { seen = x.seen; fence_loads = x.fence_loads }) (sym pass)
  passed_view (Touched command count) v pass =
      pass.1.view ∙ ap (λ (x : DriverView). record e.view { seen = x.seen; fence_loads = x.fence_loads }) (sym pass.1.view)

  none_unfenced : (lending : Lending) (v : DriverView) → map.get n.lent key ≡ Some lending → map.get n.touched key ≡ command_of lending
      → PassAnswers e.view key lending (Ok tt) v → is_unfenced (commands e.view.acts) (map.get n.touched key) ≡ false
  none_unfenced Untouched v at touched pass = ap (is_unfenced (commands e.view.acts)) touched
  none_unfenced (Touched command count) v at touched pass =
      let mark = (is.marks key command count at).0 in
      let enough = pass.3 in
      ap (is_unfenced (commands e.view.acts)) touched ∙ mark_unfenced (commands e.view.acts) command
      ∙ grind (arith, nat_tests, mark, enough)

  seen_behind : (lending : Lending) (v : DriverView) → map.get n.lent key ≡ Some lending → map.get n.touched key ≡ command_of lending
      → PassAnswers e.view key lending (Ok tt) v → IsSeenBehind (client_in (has e n)) v.seen key
  seen_behind Untouched v at touched pass = λ place there. absurd (cc (touched, there))
  seen_behind (Touched command count) v at touched pass = λ place there.
      let both : ◌≡◌ {A = Option ℕ} (Some command) (Some place) = sym touched ∙ there in
      let same : command ≡ place = cc in
      let mark = (is.marks key command count at).0 in
      omega (arith, pass.2, mark, ap (fence_behind (commands e.view.acts)) same)

  module _ (lending : Lending) (e' : DriverSeen) (seen' : ℕ) (at : map.get n.lent key ≡ Some lending)
      (touched : map.get n.touched key ≡ command_of lending) (there : is_key n.limits key ≡ true)
      (pass : PassAnswers e.view key lending (Ok tt) e'.view) (end_is : e' ≡ record e { view = e'.view })
      (seen_is : seen' ≡ e'.view.seen) where
    end_now : e' ≡ record e { view = record e.view { seen = e'.view.seen; fence_loads = e'.view.fence_loads } }
    end_now = end_is ∙ ap (λ v. record e { view = v }) (passed_view lending e'.view pass)

    pub client_passed : client_in (has e' n) ≡ client_in (has e n)
    client_passed = ap (λ x. client_in (has x n)) end_now

    pub granted : refusal_of (client_in (has e n)) (TakePage key) ≡ None
    granted = take_why true true false there (ap is_some at) (none_unfenced lending e'.view at touched pass)

    now : IsDriver ring next e' s n first emitted committed seen' asked
    now = driver_passed lending (Ok tt) e' seen' pass end_is seen_is

    granted_now : refusal_of (client_in (has e' n)) (TakePage key) ≡ None
    granted_now = ap (λ c. refusal_of c (TakePage key)) client_passed ∙ granted

    behind_now : IsSeenBehind (client_in (has e' n)) e'.view.seen key
    behind_now = subst (λ c. IsSeenBehind c e'.view.seen key) (sym client_passed) (seen_behind lending e'.view at touched pass)

    pub may_take : NoneOpen e.view → MayTakeBack e'.view key
    may_take none_open = record {
      key_is = key_is e'.view.terms.limits key (ap (λ l. is_key l key) (sym now.limits_are) ∙ there);
      lent = sym (now.lent_are key) ∙ ap is_some at;
      none_open = subst (λ (x : DriverSeen). NoneOpen x.view) (sym end_now) none_open;
      untouched = λ k low touches. taken_free now.followed key behind_now k low touches;
    }

    pub take_kept : (e'' : DriverSeen) (n'' : LendingSet)
        → e'' ≡ record e' { view = taking e'.view key; pages = map.insert e'.pages key (page_left e'.view key) }
        → n'' ≡ without n key → IsDriver ring next e'' s n'' first emitted committed seen' asked
    take_kept e'' n'' left_is lendings_are =
        let o = call_take now.followed key granted_now behind_now in
        subst (λ x. IsDriver ring next x s n'' first emitted committed seen' asked) (sym left_is)
        (subst (λ m. IsDriver ring next (record e' { view = taking e'.view key; pages = map.insert e'.pages key (page_left e'.view key) }) s m first emitted committed seen' asked)
        (sym lendings_are)
        (driver_with_pages e' s n (without n key) first emitted committed seen' asked e'.view.acts _ _ _ now o (client_is o) refl refl refl
        (lent_fewer e'.view.lent n key now.lent_are) (λ q command count there. marks_fewer n key q command count there)))

    pub take_client : (e'' : DriverSeen) (n'' : LendingSet)
        → e'' ≡ record e' { view = taking e'.view key; pages = map.insert e'.pages key (page_left e'.view key) }
        → n'' ≡ without n key → client_in (has e'' n'') ≡ after_call (client_in (has e n)) (TakePage key)
    take_client e'' n'' left_is lendings_are =
        let o = call_take now.followed key granted_now behind_now in
        (λ i. client_in (has (left_is i) (lendings_are i))) ∙ sym (client_is o)
        ∙ ap (λ c. after_call c (TakePage key)) client_passed

    pub is_back : IsBack e.view (map.get n.touched key) e'.view
    is_back = subst (λ o. IsBack e.view o e'.view) (sym touched) (back lending at pass) where
      back : (x : Lending) → map.get n.lent key ≡ Some x → PassAnswers e.view key x (Ok tt) e'.view → IsBack e.view (command_of x) e'.view
      back Untouched here passed = passed
      back (Touched command count) here passed =
          let mark = (is.marks key command count here).0 in (passed.0, passed.1, omega (arith, passed.2, mark))

  -- where it didn't, the client's rule says so, or FENCE
  refused_for : (command count : ℕ) → map.get n.lent key ≡ Some (Touched command count) → map.get n.touched key ≡ Some command
      → is_key n.limits key ≡ true → length (fences (commands e.view.acts)) < count
      → refusal_of (client_in (has e n)) (TakePage key) ≡ Some (NoFence key)
  refused_for command count at touched there few =
      let mark = (is.marks key command count at).0 in
      let so : nat_lt (length (fences (commands e.view.acts))) (fence_behind (commands e.view.acts) command) ≡ true =
      grind (arith, nat_tests, mark, few) in
      take_why true true true there (ap is_some at) (ap (is_unfenced (commands e.view.acts)) touched
      ∙ mark_unfenced (commands e.view.acts) command ∙ so)

  granted_for : (command count : ℕ) → map.get n.lent key ≡ Some (Touched command count) → map.get n.touched key ≡ Some command
      → is_key n.limits key ≡ true → count ≤ length (fences (commands e.view.acts))
      → refusal_of (client_in (has e n)) (TakePage key) ≡ None
  granted_for command count at touched there enough =
      let mark = (is.marks key command count at).0 in
      let so : nat_lt (length (fences (commands e.view.acts))) (fence_behind (commands e.view.acts) command) ≡ false =
      grind (arith, nat_tests, mark, enough) in
      take_why true true false there (ap is_some at) (ap (is_unfenced (commands e.view.acts)) touched
      ∙ mark_unfenced (commands e.view.acts) command ∙ so)

-- the view once settled keeps none open
none_open_settled : (d : DriverView) → NoneOpen (settled d)
none_open_settled d = go (d.request.number == d.reply_loads.last) refl where
  go : (b : Bool) → (d.request.number == d.reply_loads.last) ≡ b → NoneOpen (if b then d else with_reply d d.request.number)
  go true e = grind (arith, nat_tests, e)
  go false e = refl

-- Said of the driver as it was before its request was settled.
module _ (e : DriverSeen) {ring : Geometry} {next : ℕ} {e1 : DriverSeen} {s : ShapeSet} {n : LendingSet} {first emitted committed seen : ℕ} {asked : Option ℕ}
    (is : IsDriver ring next e1 s n first emitted committed seen asked) (key : PageKey) (settled_is : e1.view ≡ settled e.view)
    (end_is : e1 ≡ record e { view = e1.view }) (lending : Lending) (at : map.get n.lent key ≡ Some lending)
    (touched : map.get n.touched key ≡ command_of lending) (there : is_key n.limits key ≡ true) where
  same_end : e1 ≡ record e { view = record e.view { reply_loads = (settled e.view).reply_loads } }
  same_end = end_is ∙ ap (λ v. record e { view = v }) (settled_is ∙ only_reply e.view)

  same_client : client_in (has e1 n) ≡ client_in (has e n)
  same_client = ap (λ x. client_in (has x n)) same_end

  pub none_open : NoneOpen e1.view
  none_open = subst NoneOpen (sym settled_is) (none_open_settled e.view)

  pub take_done : (e' : DriverSeen) (seen' : ℕ) (pass : PassAnswers e1.view key lending (Ok tt) e'.view)
      → (left_end : e' ≡ record e1 { view = e'.view }) → seen' ≡ e'.view.seen → (e'' : DriverSeen) (n'' : LendingSet)
      → e'' ≡ record e' { view = taking e'.view key; pages = map.insert e'.pages key (page_left e'.view key) }
      → n'' ≡ without n key → TakeAnswers (has e n) key (Ok tt) (has e'' n'')
  take_done e' seen' pass left_end seen_is e'' n'' left_is lendings_are = (
    record {
      granted = ap (λ c. refusal_of c (TakePage key)) (sym same_client)
          ∙ granted is key lending e' seen' at touched there pass left_end seen_is;
      client_is = take_client is key lending e' seen' at touched there pass left_end seen_is e'' n'' left_is lendings_are
          ∙ ap (λ c. after_call c (TakePage key)) same_client;
    },
    e'.view,
    subst (λ v. IsBack v (map.get n.touched key) e'.view) settled_is
        (is_back is key lending e' seen' at touched there pass left_end seen_is),
    (λ i. has (left_is i) (lendings_are i))
        ∙ ap (λ (x : DriverSeen). record (has x n) {
          view = taking e'.view key;
          own = map.insert x.pages key (page_left e'.view key);
          touched = map.remove n.touched key;
        }) (left_end ∙ ap (λ (x : DriverSeen). record x { view = e'.view }) end_is),
  )

  pub take_fails : (fault : DriverFault) (e' : DriverSeen) → PassAnswers e1.view key lending (Err fault) e'.view
      → e' ≡ record e1 { view = e'.view } → TakeAnswers (has e n) key (Err fault) (has e' n)
  take_fails fault e' pass left_end = fails lending fault at touched pass where
    whole : e' ≡ record e { view = e'.view }
    whole = left_end ∙ ap (λ (x : DriverSeen). record x { view = e'.view }) end_is

    fails : (x : Lending) (f : DriverFault) → map.get n.lent key ≡ Some x → map.get n.touched key ≡ command_of x
        → PassAnswers e1.view key x (Err f) e'.view → TakeAnswers (has e n) key (Err f) (has e' n)
    fails Untouched f here noted passed = absurd passed
    fails (Touched command count) (driver.NoFence k) here noted passed = record {
      refused = ap (λ c. option_map told (refusal_of c (TakePage key))) (sym same_client)
          ∙ ap (option_map told) (refused_for is key command count here noted there passed.1)
          ∙ ap (λ q. Some (driver.NoFence q)) (sym passed.0);
      left_is = ap (λ x. has x n) (whole ∙ ap (λ v. record e { view = v }) (passed.2 ∙ settled_is));
    }
    fails (Touched command count) (driver.NotYet k fence) here noted passed =
        let mark = (is.marks key command count here).0 in
        let acts : commands e1.view.acts ≡ commands e.view.acts = ap (λ (x : DriverSeen). commands x.view.acts) same_end in (
          passed.0,
          ap (λ c. refusal_of c (TakePage key)) (sym same_client) ∙ granted_for is key command count here noted there passed.1,
          command,
          noted,
          subst (λ v. ShowsNoFence v command e'.view) settled_is (passed.2, passed.3, omega (arith, passed.4, mark)),
          passed.5 ∙ (λ i. number_of_fence (same_end i).view.terms.first ((mark i) - 1))
              ∙ ap (λ cs. number_of_fence e.view.terms.first (fence_behind cs command - 1)) acts
              ∙ ap (number_of_fence e.view.terms.first) (omega arith),
          ap (λ x. has x n) whole,
        )
    fails (Touched command count) f here noted passed = absurd passed
