-- What is left where lent pages are read by the driver: all but its list of acts.
use Rattle.std.proofs.Common.{◌≡◌, ℕ, suc, ◌-◌, ◌≤◌, ◌==◌, nat_lt, List, [], ◌∷◌, ◌++◌, length, All, true, false, if◌then◌else◌, is_none, is_some, refl, sym, ap, subst, ◌∙◌, Option, Some, None, unwrap_or, arith, append_assoc, append-nil, length-append}
use Rattle.std.proofs.lemmas.List.Elements.{All-append, All-cons, All-head, All-nil, All-tail}
use Rattle.std.specs.FinMap as map
use Rattle.std.specs.FinMap.{FinMap}
use Rattle.std.specs.FinSet as set
use Rattle.std.specs.FinSet.{FinSet}
use Rattle.svga_client.proofs.ClientOfLaws.{client_is}
use Rattle.svga_client.proofs.OpeningLaws.{follows_relend}
use Rattle.svga_client.specs.Following.{IsFollowed, Known, giving_again as known_again, state_of}
use Rattle.svga_client.specs.OwnPages.{with_own}
use Rattle.svga_cmd.proofs.KeyLaws.{keys_exact, keys_total}
use Rattle.svga_cmd.proofs.Maps.{by_key, get_other, get_same, is_insert, is_remove}
use Rattle.svga_cmd.specs.Pages.{IsKey, Memory, key_cmp, page_at}
use Rattle.svga_cmd.specs.declared.command.Command.{Command}
use Rattle.svga_cmd.specs.declared.limits.Limits.{Limits}
use Rattle.svga_cmd.specs.declared.page.PageKey.{PageKey}
use Rattle.svga_driver.proofs.PageCalls.{driver_with_pages, other_shape}
use Rattle.svga_driver.specs.DescribeAnswers.{IsAgain, IsReread}
use Rattle.svga_driver.specs.Driving.{IsDriver, client_by, known_by}
use Rattle.svga_driver.specs.LendingSet.{LendingSet}
use Rattle.svga_driver.specs.Walking.{IsAtRest, giving_again}
use Rattle.svga_link.specs.Ends.{DriverSeen}
use Rattle.svga_link.specs.Lending.{lending, taking}
use Rattle.svga_model.proofs.PutLaws.{put_admissible, with_page-has, with_page-lacks}
use Rattle.svga_model.proofs.RunLaws.{done-first, run-first, run_whole}
use Rattle.svga_model.specs.Acts.{Act, Chain, Do, Put}
use Rattle.svga_model.specs.Clients.{Client}
use Rattle.svga_model.specs.Memories.{page_bytes, with_page}
use Rattle.svga_model.specs.Runs.{done, run}
use Rattle.svga_model.specs.States.{State, opening_state}
use Rattle.svga_model.specs.Steps.{step}
use Rattle.svga_ring.proofs.Acts.Append.{there}
use Rattle.svga_ring.proofs.Pages.Locations.{in_here, in_other, out_other}
use Rattle.svga_ring.proofs.Words.NextCommand.{commands-append}
use Rattle.svga_ring.specs.Committed.{before_fence, commands}
use Rattle.svga_ring.specs.Conditions.{first_state}
use Rattle.svga_ring.specs.SoundPages.{TouchesAt, known_done}
use Rattle.svga_ring.specs.TableSteps.{page_left}
use Rattle.svga_ring.specs.Views.{DriverView}
use Rattle.svga_ring.specs.declared.plans.Geometry.{Geometry}
use Rattle.svga_shape.specs.ShapeSet.{ShapeSet, shape_in}

-- a page that is put as it is
page_again : (m : Memory) (key : PageKey) → with_page m key (page_bytes m key) ≡ m
page_again m key = go (page_at m key) refl where
  go : (p : Option (List ℕ)) → page_at m key ≡ p → with_page m key (page_bytes m key) ≡ m
  go None e = with_page-lacks m key (page_bytes m key) (ap is_some e)
  go (Some bytes) e = with_page-has m key (page_bytes m key) (ap is_some e)
      ∙ sym (is_insert keys_total keys_exact m m key (page_bytes m key)
      (e ∙ ap Some (sym (ap (λ p. unwrap_or p []) e))) (λ q differ. refl))

put_again : (t : State) (key : PageKey) (bytes : List ℕ) → bytes ≡ page_bytes t.memory key
    → step t (Put key bytes) ≡ t
put_again t key bytes is =
    ap (λ b. record t { memory = with_page t.memory key b }) is
    ∙ ap (λ m. record t { memory = m }) (page_again t.memory key)

-- The state that a driver's acts leave, as it reads pages.
abbrev pub left_by : DriverView → State
left_by d = run (first_state d) d.acts

-- how many commands are known to be done, by the commands alone
abbrev done_of : List Command → ℕ → ℕ → ℕ
done_of cs passed seen =
    let by_fence = if seen == 0 then 0 else before_fence (seen - 1) cs in
    if nat_lt passed by_fence then by_fence else passed

-- a set without a page and with it again
lent_again : (lent : FinSet key_cmp) (key : PageKey) → set.contains lent key ≡ true
    → set.insert (set.remove lent key) key ≡ lent
lent_again lent key is = set.same_set keys_total keys_exact (set.insert (set.remove lent key) key) lent
    (λ q. by_key keys_total keys_exact q key
    (set.contains (set.insert (set.remove lent key) key) q ≡ set.contains lent q)
    (λ same. subst (λ p. set.contains (set.insert (set.remove lent key) key) p ≡ set.contains lent p)
    (sym same) (in_here (set.remove lent key) key ∙ sym is))
    (λ differ. in_other (set.remove lent key) key q differ ∙ out_other lent key q differ))

module _ (d : DriverView) where
  again_run : (t : State) → t ≡ left_by d → (again : List Act) → All (IsAgain d) again
      → (run t again ≡ t) × (done t again ≡ length again)
  again_run t is [] each = (refl, refl)
  again_run t is (Do c ∷ again) each = absurd (All-head (IsAgain d) (Do c) again each)
  again_run t is (Chain id first ∷ again) each = absurd (All-head (IsAgain d) (Chain id first) again each)
  again_run t is (Put key bytes ∷ again) each =
      let one = All-head (IsAgain d) (Put key bytes) again each in
      let on = again_run t is again (All-tail (IsAgain d) (Put key bytes) again each) in
      let same : step t (Put key bytes) ≡ t = put_again t key bytes
      (one.2 ∙ ap (λ (u : State). page_bytes u.memory key) (sym is)) in
      let good = ap is_none (put_admissible t key bytes) in (
        run-first t (Put key bytes) again true good ∙ ap (λ u. run u again) same ∙ on.0,
        done-first t (Put key bytes) again true good ∙ ap suc (ap (λ u. done u again) same ∙ on.1),
      )

  again_commands : (again : List Act) → All (IsAgain d) again → commands again ≡ []
  again_commands [] each = refl
  again_commands (Do c ∷ again) each = absurd (All-head (IsAgain d) (Do c) again each)
  again_commands (Chain id first ∷ again) each =
      absurd (All-head (IsAgain d) (Chain id first) again each)
  again_commands (Put key bytes ∷ again) each =
      again_commands again (All-tail (IsAgain d) (Put key bytes) again each)

  -- a page that the driver may take back, while it is at rest
  pub rest_free : IsAtRest d → (n : ℕ) (key : PageKey) → known_done d.acts d.passed d.seen ≤ n
      → TouchesAt (first_state d) d.acts n key → ⊥
  rest_free rest n key low touched =
      let few = there (first_state d) d.acts n key touched in
      let all = rest.all_done in omega (arith, few, low, all)

  -- nothing is read at first
  pub none_reread : IsReread d d
  none_reread = record {
    again = [];
    each = All-nil (IsAgain d);
    left_is = ap (λ acts. record d { acts = acts }) (sym (append-nil d.acts));
  }

  module _ (left : DriverView) (o : IsReread d left) where
    abbrev v : DriverView
    v = record d { acts = d.acts ++ o.again }

    pub reread_commands : commands left.acts ≡ commands d.acts
    reread_commands = ap (λ (x : DriverView). commands x.acts) o.left_is ∙ commands-append d.acts o.again
        ∙ ap (λ cs. commands d.acts ++ cs) (again_commands o.again o.each) ∙ append-nil (commands d.acts)

    -- so the acts leave the same state,
    pub reread_run : IsAtRest d → left_by left ≡ left_by d
    reread_run rest = ap left_by o.left_is
        ∙ (run_whole (first_state d) d.acts o.again rest.in_turn).0
        ∙ (again_run (left_by d) refl o.again o.each).0

    -- and the driver is at rest.
    pub reread_rest : IsAtRest d → IsAtRest left
    reread_rest rest = subst IsAtRest (sym o.left_is) (record {
      none_open = rest.none_open;
      all_done =
          let same : commands v.acts ≡ commands d.acts =
          ap (λ (x : DriverView). commands x.acts) (sym o.left_is) ∙ reread_commands in
          let now : known_done v.acts d.passed d.seen ≡ known_done d.acts d.passed d.seen =
          ap (λ cs. done_of cs d.passed d.seen) same in
          omega (arith, rest.all_done, now, ap length same);
      in_turn =
          let whole = (run_whole (first_state d) d.acts o.again rest.in_turn).1 in
          let one = (again_run (left_by d) refl o.again o.each).1 in
          omega (arith, whole, one, rest.in_turn, length-append d.acts o.again);
    })

    -- One page more is read.
    pub reread_more : IsAtRest d → (key : PageKey) → IsKey d.terms.limits key
        → set.contains d.lent key ≡ true → IsReread d (giving_again left key)
    reread_more rest key is lent = record {
      again = o.again ++ Put key (page_left left key) ∷ [];
      each = All-append (IsAgain d) o.again (Put key (page_left left key) ∷ []) o.each
          (All-cons (IsAgain d) (Put key (page_left left key)) []
          (is, lent, ap (λ (t : State). page_bytes t.memory key) (reread_run rest)) (All-nil (IsAgain d)));
      left_is = ap (λ (x : DriverView). record x { acts = x.acts ++ Put key (page_left left key) ∷ [] })
          o.left_is
          ∙ ap (λ acts. record d { acts = acts })
          (append_assoc d.acts o.again (Put key (page_left left key) ∷ []));
    }

-- The client stays what the acts mean.
follows_again : (d : DriverView) (l : Limits) (c : Client) (k : Known) (again : List Act)
    → l ≡ d.terms.limits → IsFollowed l c k → state_of l c k ≡ left_by d → All (IsAgain d) again
    → IsFollowed l c (record k { acts = k.acts ++ again })
follows_again d l c k [] limits o state each =
    subst (λ acts. IsFollowed l c (record k { acts = acts })) (sym (append-nil k.acts)) o
follows_again d l c k (Do command ∷ again) limits o state each =
    absurd (All-head (IsAgain d) (Do command) again each)
follows_again d l c k (Chain id first ∷ again) limits o state each =
    absurd (All-head (IsAgain d) (Chain id first) again each)
follows_again d l c k (Put key bytes ∷ again) limits o state each =
    let one = All-head (IsAgain d) (Put key bytes) again each in
    let old : List ℕ = page_bytes (state_of l c k).memory key in
    let same : old ≡ bytes = ap (λ (t : State). page_bytes t.memory key) state ∙ sym one.2 in
    let still : state_of l c (known_again l c k key) ≡ state_of l c k =
    (run_whole (opening_state l c.first) k.acts (Put key old ∷ []) o.in_turn).0
    ∙ run-first (state_of l c k) (Put key old) [] true
    (ap is_none (put_admissible (state_of l c k) key old))
    ∙ put_again (state_of l c k) key old refl in
    let on = follows_again d l c (known_again l c k key) again limits
    (follows_relend key o (subst (λ m. IsKey m key) (sym limits) one.0)) (still ∙ state)
    (All-tail (IsAgain d) (Put key bytes) again each) in
    subst (λ acts. IsFollowed l c (record k { acts = acts }))
    (append_assoc k.acts (Put key old ∷ []) again
    ∙ ap (λ b. k.acts ++ Put key b ∷ again) same) on

-- What a driver keeps that read pages, with a shape that says the same.
pub driver_reread : {ring : Geometry} {next : ℕ} {e : DriverSeen} {s : ShapeSet} {n : LendingSet}
    {first emitted committed seen : ℕ} {asked : Option ℕ}
    → IsDriver ring next e s n first emitted committed seen asked
    → (left : DriverView) → IsReread e.view left → (s2 : ShapeSet) → shape_in s2 ≡ shape_in s
    → IsDriver ring next (record e { view = left }) s2 n first emitted committed seen asked
driver_reread {ring} {next} {e} {s} {n} {first} {emitted} {committed} {seen} {asked} is left o s2 shape =
    subst (λ v. IsDriver ring next (record e { view = v }) s2 n first emitted committed seen asked)
    (sym o.left_is)
    (other_shape
    (driver_with_pages e s n n first emitted committed seen asked acts e.view.lent e.pages
    (client_by e.view e.pages n.touched) is followed (client_is followed) refl refl refl is.lent_are
    (λ key command fences at. at)) s2 shape)
  where
    acts : List Act
    acts = e.view.acts ++ o.again

    followed : IsFollowed e.view.terms.limits (client_by e.view e.pages n.touched)
        (record (known_by e.view e.pages) { acts = acts })
    followed = follows_again e.view e.view.terms.limits (client_by e.view e.pages n.touched)
        (known_by e.view e.pages) o.again refl is.followed refl o.each

-- and its client is the same
pub client_reread : (e : DriverSeen) (touched : FinMap key_cmp ℕ) (left : DriverView)
    → IsAtRest e.view → IsReread e.view left
    → client_by left e.pages touched ≡ client_by e.view e.pages touched
client_reread e touched left rest o =
    ap (λ v. client_by v e.pages touched) o.left_is
    ∙ (λ i. record (client_by e.view e.pages touched) {
      state = with_own e.pages (run_is i);
      commands = commands_are i;
    })
  where
    run_is : run (first_state e.view) (e.view.acts ++ o.again) ≡ left_by e.view
    run_is = ap left_by (sym o.left_is) ∙ reread_run e.view left o rest

    commands_are : commands (e.view.acts ++ o.again) ≡ commands e.view.acts
    commands_are = ap (λ (v : DriverView). commands v.acts) (sym o.left_is)
        ∙ reread_commands e.view left o

-- A page that is taken and lent again: the driver's end is left with an act more.
pub given_again : (e e1 e2 : DriverSeen) (key : PageKey) → set.contains e.view.lent key ≡ true
    → is_some (page_at e.pages key) ≡ false
    → e1 ≡ record e {
      view = taking e.view key;
      pages = map.insert e.pages key (page_left e.view key);
    }
    → e2 ≡ record e1 {
      view = lending e1.view key (page_bytes e1.pages key);
      pages = map.remove e1.pages key;
    }
    → e2 ≡ record e { view = giving_again e.view key }
given_again e e1 e2 key lent none taken_is lent_is =
    lent_is ∙ (λ i. record (taken_is i) {
      view = lending (taken_is i).view key (page_bytes (taken_is i).pages key);
      pages = map.remove (taken_is i).pages key;
    })
    ∙ (λ i. record e {
      view = record e.view {
        acts = e.view.acts ++ Put key (bytes_are i) ∷ [];
        lent = lent_again e.view.lent key lent i;
      };
      pages = pages_again i;
    })
  where
    bytes : List ℕ
    bytes = page_left e.view key

    bytes_are : page_bytes (map.insert e.pages key bytes) key ≡ bytes
    bytes_are = ap (λ p. unwrap_or p []) (get_same keys_total keys_exact e.pages key bytes)

    nothing : page_at e.pages key ≡ None
    nothing = go (page_at e.pages key) refl where
      go : (p : Option (List ℕ)) → page_at e.pages key ≡ p → page_at e.pages key ≡ None
      go None is = is
      go (Some b) is = absurd (cc (ap is_some is, none))

    pages_again : map.remove (map.insert e.pages key bytes) key ≡ e.pages
    pages_again = sym (is_remove keys_total keys_exact (map.insert e.pages key bytes) e.pages key nothing
        (λ q differ. sym (get_other keys_total keys_exact e.pages key q bytes differ)))
