-- A driver keeps what it is once a command is sent.
use Rattle.std.proofs.Common.{◌≡◌, ℕ, zero, suc, ◌+◌, ◌*◌, ◌<◌, ◌≤◌, List, [], ◌∷◌, ◌++◌, length, take, Bool, true, false, ◌==◌, if◌then◌else◌, refl, sym, ap, subst, ◌∙◌, Option, Some, None, Err, option_map, option_and_then, unwrap_or, arith, length-append}
use Rattle.std.proofs.lemmas.Bool.Decides.{nat_tests}
use Rattle.std.proofs.lemmas.List.{take-append-le}
use Rattle.std.proofs.lemmas.List.Elements.{filter_map-append}
use Rattle.std.proofs.lemmas.Option.{none-some, same_Some}
use Rattle.std.specs.FinMap as map
use Rattle.std.specs.FinMap.{FinMap}
use Rattle.std.specs.FinSet.{FinSet}
use Rattle.std.specs.List.{cons_option}
use Rattle.std.specs.Option.{option_or}
use Rattle.svga_client.proofs.CallLaws.{call_commit, commit_judged, granted}
use Rattle.svga_client.proofs.ClientOfLaws.{client_is, judged_by_shape}
use Rattle.svga_client.proofs.FollowLaws.{command_admits, command_touches, follows_known, run_more}
use Rattle.svga_client.proofs.MarkLaws.{mark_kept, mark_last}
use Rattle.svga_client.specs.Following.{IsFollowed, Known, acting, client_of, refusal_by}
use Rattle.svga_client.specs.Marks.{fence_behind}
use Rattle.svga_cmd.specs.Limits.{frame_page_count}
use Rattle.svga_cmd.specs.Pages.{key_cmp}
use Rattle.svga_cmd.specs.Spelling.{spelling}
use Rattle.svga_cmd.specs.WellFormed.{IsWellFormed}
use Rattle.svga_cmd.specs.declared.constants.TheConstants.{FENCE_WINDOW}
use Rattle.svga_cmd.specs.declared.command.Command.{Command}
use Rattle.svga_cmd.specs.declared.command.Command.TheVariants.{BlitToGmrfb, BlitToScreen, DefineGmr2, DefineGmrfb, DefineScreen, DestroyScreen, Fence, RemapGmr2, Update}
use Rattle.svga_cmd.specs.declared.fault.Fault.{Fault}
use Rattle.svga_cmd.specs.declared.page.PageKey.{PageKey}
use Rattle.svga_driver.proofs.TouchLaws.{Noted, all_lent_still, all_limits, all_marked, all_noted}
use Rattle.svga_driver.specs.Answering.{told}
use Rattle.svga_driver.specs.CommitAnswers.{CommitAnswers, IsCommitted}
use Rattle.svga_driver.specs.Driving.{DriverHas, IsAtNext, IsDriver, client_by, client_in, known_by, open_request, settled, with_view}
use Rattle.svga_driver.specs.LendingSet.{AreLent, LendingSet, all_touched, places_for}
use Rattle.svga_driver.specs.Sending.{HasNoRoomFor}
use Rattle.svga_driver.specs.declared.fault.DriverFault.{DriverFault}
use Rattle.svga_driver.specs.declared.lending.Lending.TheVariants.{Touched}
use Rattle.svga_link.specs.Ends.{DriverSeen}
use Rattle.svga_link.specs.Lending.{with_reply}
use Rattle.svga_link.specs.ReserveAnswers.{HasNoRoom}
use Rattle.svga_link.specs.Reserving.{MaySend, free_now}
use Rattle.svga_link.specs.Told.{StopTold, committed as committing}
use Rattle.svga_model.specs.Acts.{Do}
use Rattle.svga_model.specs.ClientActs.{Commit}
use Rattle.svga_model.specs.ClientFaults.{ClientFault, PageOut, Refused}
use Rattle.svga_model.specs.Clients.{Client, after_call, first_out, marked, refusal_of}
use Rattle.svga_model.specs.Faults.{ReadsNumbers, fault_of, shape_tests}
use Rattle.svga_model.specs.Fences.{fence_value, fences}
use Rattle.svga_model.specs.Regions.{Places, places_of}
use Rattle.svga_model.specs.Runs.{run}
use Rattle.svga_model.specs.Sentences.{spelling_all}
use Rattle.svga_model.specs.Standing.{least_standing}
use Rattle.svga_model.specs.States.{Kept, Shape, State, shape_of}
use Rattle.svga_model.specs.Steps.{step}
use Rattle.svga_model.specs.Touches.{touched_places, touched_region}
use Rattle.svga_ring.proofs.Words.NextCommand.{commands-append}
use Rattle.svga_ring.specs.Committed.{commands}
use Rattle.svga_ring.specs.Conditions.{IsNextFence, NoneOpen, first_state}
use Rattle.svga_ring.specs.Views.{DriverView, Loads, loaded}
use Rattle.svga_shape.specs.Admission.{IsAdmitted}
use Rattle.svga_ring.specs.declared.plans.Geometry.{Geometry}
use Rattle.svga_shape.specs.ShapeSet.{ShapeSet, shape_in}

-- Settling changes the reply alone.
pub settled_is : (d : DriverView) → settled d ≡ record d { reply_loads = (settled d).reply_loads }
settled_is d = go (d.request.number == d.reply_loads.last) where
  go : (b : Bool) → (if b then d else with_reply d d.request.number) ≡
      record d { reply_loads = (if b then d else with_reply d d.request.number).reply_loads }
  go true = refl
  go false = refl

-- a command has words
some_word : (c : Command) → 0 < length (spelling c)
some_word (Update x y width height) = omega arith
some_word (Fence value) = omega arith
some_word (DefineScreen d) = omega arith
some_word (DestroyScreen id) = omega arith
some_word (DefineGmrfb g) = omega arith
some_word (BlitToScreen b) = omega arith
some_word (BlitToGmrfb b) = omega arith
some_word (DefineGmr2 region pages) = omega arith
some_word (RemapGmr2 region offset pages entries) = omega arith

-- more words are no fewer commands
pub no_fewer : (cs : List Command) (a b : ℕ) → a ≤ length cs
    → length (spelling_all (take a cs)) ≤ length (spelling_all (take b cs)) → a ≤ b
no_fewer cs zero b within le = omega arith
no_fewer [] (suc a) b within le = absurd (omega (arith, within))
no_fewer (c ∷ cs) (suc a) zero within le = absurd (omega
    (arith, le, some_word c, length-append (spelling c) (spelling_all (take a cs))))
no_fewer (c ∷ cs) (suc a) (suc b) within le =
    let on : a ≤ b = no_fewer cs a b (omega (arith, within))
    (omega (
      arith,
      le,
      length-append (spelling c) (spelling_all (take a cs)),
      length-append (spelling c)
          (spelling_all (take b cs)),
    )) in
    omega (arith, on)

-- what the last fence of a command adds
fences_after : (cs : List Command) (c : Command) → fence_value c ≡ None
    → length (fences (cs ++ c ∷ [])) ≡ length (fences cs)
fences_after cs c none =
    let whole = ap length (filter_map-append fence_value cs (c ∷ []))
    ∙ length-append (fences cs) (fences (c ∷ [])) in
    omega (arith, whole, none_more)
  where
    none_more : length (fences (c ∷ [])) ≡ 0
    none_more = ap (λ o. length (cons_option o [])) none

-- The view of an end whose request is settled, whose STOP was loaded, and that sent a command.
abbrev pub view_loaded : DriverView → Loads → ℕ → ℕ → Loads → DriverView
view_loaded d replies stop passed stops =
    record d { reply_loads = replies; stop = stop; passed = passed; stop_loads = stops }

abbrev pub view_after : DriverView → Loads → ℕ → ℕ → Loads → Command → List ℕ → DriverView
view_after d replies stop passed stops command words =
    committing (view_loaded d replies stop passed stops) command words

-- A driver whose end made loads alone stays as it is.
pub keeps_loads : {ring : Geometry} {next : ℕ} {e : DriverSeen} {s : ShapeSet} {n : LendingSet} {first emitted committed seen : ℕ} {asked :
    Option ℕ}
    (o : IsDriver ring next e s n first emitted committed seen asked) (replies : Loads) (stop passed : ℕ)
    (stops : Loads)
    → e.view.stop ≤ stop → passed ≤ length (commands e.view.acts)
    → stop ≡ length (spelling_all (take passed (commands e.view.acts)))
    → IsDriver ring next (record e { view = view_loaded e.view replies stop passed stops }) s n first emitted committed
    seen
    (open_request (view_loaded e.view replies stop passed stops))
keeps_loads {e} o replies stop passed stops least some whole = record {
  followed = follows_known o.followed passed e.view.seen
      (no_fewer (commands e.view.acts) e.view.passed passed o.some_passed
      (omega (arith, least, whole, o.passed)))
      (omega arith) o.followed.seen_low;
  none_reserved = o.none_reserved;
  none_put = o.none_put;
  runs = o.runs;
  large = o.large;
  shape_is = o.shape_is;
  limits_are = o.limits_are;
  lent_are = o.lent_are;
  marks = o.marks;
  first_is = o.first_is;
  some_first = o.some_first;
  emitted_are = o.emitted_are;
  committed_are = o.committed_are;
  fenced = o.fenced;
  counted = o.counted;
  seen_are = o.seen_are;
  window = o.window;
  passed = whole;
  some_passed = some;
  asked_is = refl;
  at_next = o.at_next;
}

module _ {ring : Geometry} {next : ℕ} {e : DriverSeen} {s : ShapeSet} {n : LendingSet} {first emitted committed seen : ℕ} {asked :
    Option ℕ}
    (o : IsDriver ring next e s n first emitted committed seen asked) (command : Command)
    (granted_is : refusal_of (client_by e.view e.pages n.touched) (Commit command) ≡ None) where
  abbrev pub d : DriverView
  d = e.view

  abbrev pub c : Client
  c = client_by d e.pages n.touched

  abbrev pub k : Known
  k = known_by d e.pages

  more : commands (d.acts ++ Do command ∷ []) ≡ commands d.acts ++ command ∷ []
  more = commands-append d.acts (Do command ∷ [])

  -- what the client is then
  pub follows_sent : (passed : ℕ) → d.passed ≤ passed
      → IsFollowed d.terms.limits (after_call c (Commit command))
      (record (acting k (Do command)) { passed = passed })
  follows_sent passed rises =
      let on = call_commit o.followed command granted_is in
      follows_known on passed d.seen rises (omega arith) on.seen_low

  pub client_sent : (passed : ℕ) → d.passed ≤ passed
      → after_call c (Commit command)
      ≡ client_of d.terms.limits d.terms.first
      (marked (touched_places c.state.kept command) (length c.commands) n.touched)
      (record (acting k (Do command)) { passed = passed })
  client_sent passed rises = client_is (follows_sent passed rises)

  pub run_sent : run (first_state d) (d.acts ++ Do command ∷ []) ≡ step (run (first_state d) d.acts)
      (Do command)
  run_sent = run_more (first_state d) d.acts (Do command) o.followed.in_turn
      (command_admits o.followed command (granted c command granted_is))

  module _ (replies : Loads) (stop passed : ℕ) (stops : Loads) (words : List ℕ)
      (none_open : d.request.number ≡ replies.last)
      (least : d.stop ≤ stop) (some : passed ≤ length (commands d.acts))
      (whole : stop ≡ length (spelling_all (take passed (commands d.acts))))
      (spelled : words ≡ spelling command) where
    rises : d.passed ≤ passed
    rises = no_fewer (commands d.acts) d.passed passed o.some_passed (omega (arith, least, whole, o.passed))

    abbrev pub v : DriverView
    v = view_after d replies stop passed stops command words

    closed : open_request v ≡ None
    closed = go (d.request.number == replies.last)
        (let same : (d.request.number == replies.last) ≡ true = grind (arith, nat_tests, none_open) in
        same) where
          go : (b : Bool) → b ≡ true → (if b then None else Some d.request.number) ≡ None
          go true e = refl
          go false e = absurd (cc e)

    -- the driver that has noted what the command touches, with the shape behind it
    pub keeps_sent : (s2 : ShapeSet) (n2 : LendingSet) (emitted2 next2 : ℕ)
        → emitted2 ≡ length (fences (commands (d.acts ++ Do command ∷ []))) → emitted2 ≤ committed + 1
        → emitted2 ≤ seen + FENCE_WINDOW
        → shape_of (step (run (first_state d) d.acts) (Do command)).kept ≡ shape_in s2
        → n2.limits ≡ n.limits → AreLent d.lent n2
        → n2.touched ≡ marked (touched_places c.state.kept command) (length c.commands) n.touched
        → ((key : PageKey) (cm fs : ℕ) → map.get n2.lent key ≡ Some (Touched cm fs)
        → (fs ≡ fence_behind (commands (d.acts ++ Do command ∷ [])) cm) ×
        (cm < length (commands (d.acts ++ Do command ∷ []))))
        → IsAtNext ring next2 d.layout (length d.sent + length words)
        → IsDriver ring next2 (record e { view = v }) s2 n2 first emitted2 (committed + 1) seen None
    keeps_sent s2 n2 emitted2 next2 emits fenced2 window2 shape limits lent touched marks at_next2 = record {
      followed = subst (λ client. IsFollowed d.terms.limits client (known_by v e.pages))
          (client_sent passed rises ∙ ap (λ t. client_by v e.pages t) (sym touched))
          (follows_sent passed rises);
      none_reserved = o.none_reserved;
      none_put = o.none_put;
      runs = o.runs;
      large = o.large;
      shape_is = ap (λ (t : State). shape_of t.kept) run_sent ∙ shape;
      limits_are = limits ∙ o.limits_are;
      lent_are = lent;
      marks = marks;
      first_is = o.first_is;
      some_first = o.some_first;
      emitted_are = emits;
      committed_are = omega (
        arith,
        o.committed_are,
        ap length more,
        length-append (commands d.acts)
            (command ∷ []),
      );
      fenced = fenced2;
      counted = omega (arith, o.counted, length-append d.sent words, ap length spelled, some_word command);
      seen_are = o.seen_are;
      window = window2;
      passed = whole ∙ ap (λ cs. length (spelling_all cs))
          (sym (take-append-le passed (commands d.acts) (command ∷ []) some) ∙ ap (take passed) (sym more));
      some_passed = omega (arith, some, ap length more, length-append (commands d.acts) (command ∷ []));
      asked_is = sym closed;
      at_next = subst (IsAtNext ring next2 d.layout) (sym (length-append d.sent words)) at_next2;
    }

-- What contracts see of an end with what is noted of its pages.
abbrev pub has : DriverSeen → FinMap key_cmp ℕ → DriverHas
has e touched = record { table = e.table; view = e.view; own = e.pages; touched = touched }

pub has_view : (e f : DriverSeen) (touched : FinMap key_cmp ℕ) (v : DriverView)
    → f ≡ record e { view = f.view } → f.view ≡ v
    → has f touched ≡ with_view (has e touched) v
has_view e f touched v same is = λ i. record {
  table = ap (λ (g : DriverSeen). g.table) same i;
  view = is i;
  own = ap (λ (g : DriverSeen). g.pages) same i;
  touched = touched;
}

-- a refusal of a command is for its fault or for a page
pub refused_answers : (d : DriverHas) (command : Command) (fault : DriverFault) (left : DriverHas)
    → option_map told (refusal_of (client_in d) (Commit command)) ≡ Some fault
    → left ≡ with_view d (settled d.view)
    → CommitAnswers d command (Err fault) left
refused_answers d command fault left is at =
    go (fault_of (client_in d).state (Do command)) refl
    (first_out (client_in d).lent (touched_places (client_in d).state.kept command)) refl
  where
    refused : (f : ClientFault) → refusal_of (client_in d) (Commit command) ≡ Some f → told f ≡ fault
    refused f e = same_Some (told f) fault (sym (ap (option_map told) e) ∙ is)

    go : (a : Option Fault) → fault_of (client_in d).state (Do command) ≡ a
        → (b : Option PageKey) → first_out (client_in d).lent
        (touched_places (client_in d).state.kept command) ≡ b
        → CommitAnswers d command (Err fault) left
    go (Some f) e b e2 =
        let why : refusal_of (client_in d) (Commit command) ≡ Some (Refused f) =
        ap (λ o. option_or (option_map Refused o)
        (option_map PageOut (first_out (client_in d).lent (touched_places (client_in d).state.kept command))))
        e in
        subst (λ x. CommitAnswers d command (Err x) left) (refused (Refused f) why)
        (record { refused = ap (option_map told) why; left_is = at })
    go None e (Some key) e2 =
        let why : refusal_of (client_in d) (Commit command) ≡ Some (PageOut key) =
        (λ i. option_or (option_map Refused (e i)) (option_map PageOut (e2 i))) in
        subst (λ x. CommitAnswers d command (Err x) left) (refused (PageOut key) why)
        (record { refused = ap (option_map told) why; left_is = at })
    go None e None e2 = absurd (none-some fault
        (sym (ap (option_map told) (λ i. option_or (option_map Refused (e i)) (option_map PageOut (e2 i))))
        ∙ is))

-- What a driver's judge tells.
abbrev pub Judges : ShapeSet → LendingSet → Command → Option DriverFault → Type 0
Judges s n command answer = (kept : Kept) (lent : FinSet key_cmp) → shape_of kept ≡ shape_in s
    → AreLent lent n
    → answer ≡ option_map told (refusal_by kept lent command)

module _ {ring : Geometry} {next : ℕ} {e : DriverSeen} {s : ShapeSet} {n : LendingSet} {first emitted committed seen : ℕ} {asked :
    Option ℕ}
    (o : IsDriver ring next e s n first emitted committed seen asked) (command : Command) (named : ReadsNumbers command
    → ⊥) where
  pub judged : (answer : Option DriverFault) → Judges s n command answer
      → option_map told (refusal_of (client_by e.view e.pages n.touched) (Commit command)) ≡ answer
  judged answer tells = ap (option_map told) (commit_judged o.followed command named)
      ∙ sym (tells (run (first_state e.view) e.view.acts).kept e.view.lent o.shape_is o.lent_are)

  pub refuses : (f : DriverSeen) (fault : DriverFault) → f ≡ record e { view = f.view }
      → f.view ≡ settled e.view
      → Judges s n command (Some fault) → CommitAnswers (has e n.touched) command (Err fault)
      (has f n.touched)
  refuses f fault same is tells = refused_answers (has e n.touched) command fault (has f n.touched)
      (judged (Some fault) tells) (has_view e f n.touched (settled e.view) same is)

  pub grants : Judges s n command None → refusal_of (client_by e.view e.pages n.touched)
      (Commit command) ≡ None
  grants tells = none_told (refusal_of (client_by e.view e.pages n.touched) (Commit command))
      (judged None tells) where
        none_told : (r : Option ClientFault) → option_map told r ≡ None → r ≡ None
        none_told None is = refl
        none_told (Some f) is = absurd (none-some (told f) (sym is))

  -- there is no room
  pub lacks : (f g : DriverSeen) (fault : DriverFault) (words : List ℕ) → f ≡ record e { view = f.view }
      → f.view ≡ settled e.view
      → g ≡ record f { view = g.view } → words ≡ spelling command
      → HasNoRoomFor f.view (4 * length words) fault g.view → Judges s n command None
      → CommitAnswers (has e n.touched) command (Err fault) (has g n.touched)
  lacks f g fault words same is after spelled none tells =
      subst (λ x. CommitAnswers (has e n.touched) command (Err x) (has g n.touched)) (sym none.fault_is) (
        grants tells,
        record {
          too_few = subst (λ v. HasNoRoom v (4 * length (spelling command)) none.stop none.free g.view) is
              (subst (λ ws. HasNoRoom f.view (4 * length ws) none.stop none.free g.view) spelled
              none.too_few);
          left_is = has_view e g n.touched g.view
              (after ∙ ap (λ (x : DriverSeen). record x { view = g.view }) same) refl;
        },
      )

-- the words of a command that may be sent
next_if_none : (first seen : ℕ) (cs : List Command) (c : Command) → fence_value c ≡ None
    → IsNextFence first cs seen c
next_if_none first seen cs (Fence value) none = absurd (none-some value (sym none))
next_if_none first seen cs (Update x y width height) none = tt
next_if_none first seen cs (DefineScreen d) none = tt
next_if_none first seen cs (DestroyScreen id) none = tt
next_if_none first seen cs (DefineGmrfb g) none = tt
next_if_none first seen cs (BlitToScreen b) none = tt
next_if_none first seen cs (BlitToGmrfb b) none = tt
next_if_none first seen cs (DefineGmr2 region pages) none = tt
next_if_none first seen cs (RemapGmr2 region offset pages entries) none = tt

pub same_or_settled : (d : DriverView) → NoneOpen (settled d)
same_or_settled d = go (d.request.number == d.reply_loads.last) refl where
  go : (b : Bool) → (d.request.number == d.reply_loads.last) ≡ b
      → NoneOpen (if b then d else with_reply d d.request.number)
  go true e = let same : d.request.number ≡ d.reply_loads.last = grind (arith, nat_tests, e) in same
  go false e = refl

pub may_send : {ring : Geometry} {next : ℕ} {e : DriverSeen} {s : ShapeSet} {n : LendingSet} {first emitted committed seen : ℕ} {asked :
    Option ℕ}
    (o : IsDriver ring next e s n first emitted committed seen asked) (command : Command) (f : DriverSeen)
    (words : List ℕ)
    → refusal_of (client_by e.view e.pages n.touched) (Commit command) ≡ None
    → IsNextFence e.view.terms.first (commands e.view.acts) e.view.seen command
    → IsWellFormed command → words ≡ spelling command → f.view ≡ settled e.view → MaySend f.view words command
may_send {e} {n = n} o command f words none next well spelled is =
    subst (λ v. MaySend v words command) (sym (is ∙ settled_is e.view)) (record {
      spelled = record { well_formed = well; words = spelled };
      none_open = subst NoneOpen (settled_is e.view) (same_or_settled e.view);
      admissible = command_admits o.followed command
          (granted (client_by e.view e.pages n.touched) command none);
      pages_lent = λ key touched. command_touches o.followed command key
          (granted (client_by e.view e.pages n.touched) command none) touched;
      fence = next;
    })

pub may_send_plain : {ring : Geometry} {next : ℕ} {e : DriverSeen} {s : ShapeSet} {n : LendingSet} {first emitted committed seen :
    ℕ} {asked : Option ℕ}
    (o : IsDriver ring next e s n first emitted committed seen asked) (command : Command) (f : DriverSeen)
    (words : List ℕ)
    → (ReadsNumbers command → ⊥) → Judges s n command None → fence_value command ≡ None
    → IsWellFormed command → words ≡ spelling command → f.view ≡ settled e.view → MaySend f.view words command
may_send_plain {e} o command f words named tells no_fence well spelled is =
    may_send o command f words (grants o command named tells)
    (next_if_none e.view.terms.first e.view.seen (commands e.view.acts) command no_fence) well spelled is

pub none_after : (d : DriverView) → open_request (settled d) ≡ None
none_after d = go (d.request.number == d.reply_loads.last) refl where
  go : (b : Bool) → (d.request.number == d.reply_loads.last) ≡ b
      → open_request (if b then d else with_reply d d.request.number) ≡ None
  go true e = ap (λ t. if t then None else Some d.request.number) e
  go false e = let same : (d.request.number == d.request.number) ≡ true = grind (arith, nat_tests) in
      ap (λ t. if t then None else Some d.request.number) same

-- An end that is settled, and then loads STOP, and perhaps sends.
module _ {ring : Geometry} {next : ℕ} {e : DriverSeen} {s : ShapeSet} {n : LendingSet} {first emitted committed seen : ℕ} {asked :
    Option ℕ}
    (o : IsDriver ring next e s n first emitted committed seen asked) (f g : DriverSeen) (now : Option ℕ)
    (same : f ≡ record e { view = f.view }) (is : f.view ≡ settled e.view)
    (now_is : now ≡ open_request f.view)
    (after : g ≡ record f { view = g.view }) where
  abbrev pub replies : Loads
  replies = (settled e.view).reply_loads

  abbrev pub from_view : f.view ≡ record e.view { reply_loads = (settled e.view).reply_loads }
  from_view = is ∙ settled_is e.view

  pub end_is : (v : DriverView) → g.view ≡ v → g ≡ record e { view = v }
  end_is v at = after ∙ ap (λ (x : DriverSeen). record x { view = g.view }) same
      ∙ ap (λ w. record e { view = w }) at

  pub none_now : now ≡ None
  none_now = now_is ∙ ap open_request is ∙ none_after e.view

  module _ (found : ℕ) (loaded_view : DriverView) (told_by : StopTold f.view loaded_view found) where
    pub base : StopTold (record e.view { reply_loads = replies }) loaded_view found
    base = subst (λ v. StopTold v loaded_view found) from_view told_by

    pub keeps_lacking : g.view ≡ loaded_view → IsDriver ring next g s n first emitted committed seen now
    keeps_lacking at =
        let b = base in
        let v : DriverView = view_loaded e.view replies b.stop b.passed (loaded e.view.stop_loads found) in
        let kept = keeps_loads o replies b.stop b.passed
        (loaded e.view.stop_loads found) b.least b.some b.whole in
        subst (λ x. IsDriver ring next x s n first emitted committed seen now) (sym (end_is v (at ∙ b.view)))
        (subst (IsDriver ring next (record e { view = v }) s n first emitted committed seen)
        (ap open_request (sym from_view) ∙ sym now_is) kept)

    pub keeps_all : (command : Command) (words : List ℕ) (s2 : ShapeSet) (n2 : LendingSet) (next2 : ℕ)
        → g.view ≡ committing loaded_view command words
        → refusal_of (client_by e.view e.pages n.touched) (Commit command) ≡ None
        → words ≡ spelling command → fence_value command ≡ None
        → shape_of (step (run (first_state e.view) e.view.acts) (Do command)).kept ≡ shape_in s2
        → n2 ≡ all_touched (touched_places (run (first_state e.view) e.view.acts).kept command) committed
        (emitted + 1) n
        → IsAtNext ring next2 e.view.layout (length e.view.sent + length words)
        → IsDriver ring next2 g s2 n2 first emitted (committed + 1) seen now
    keeps_all command words s2 n2 next2 at none spelled no_fence shape noted at_next2 =
        let b = base in
        let places : Places = touched_places (run (first_state e.view) e.view.acts).kept command in
        let cs : List Command = commands e.view.acts in
        let more : commands (e.view.acts ++ Do command ∷ []) ≡ cs ++ command ∷ [] =
        commands-append e.view.acts (Do command ∷ []) in
        let lent_none = (granted (client_by e.view e.pages n.touched) command none).lent in
        let v : DriverView = view_after e.view replies b.stop b.passed
        (loaded e.view.stop_loads found) command words in
        let Q : ℕ → ℕ → Type 0 = λ cm fs. (fs ≡ fence_behind (commands (e.view.acts ++ Do command ∷ [])) cm)
        × (cm < length (commands (e.view.acts ++ Do command ∷ []))) in
        let longer : length (commands (e.view.acts ++ Do command ∷ [])) ≡ length cs + 1 = ap length more
        ∙ length-append cs (command ∷ []) in
        let here : Q committed (emitted + 1) = (
          (let last = mark_last cs command no_fence in omega (arith, o.emitted_are))
              ∙ sym (mark_last cs command no_fence)
              ∙ (λ i. fence_behind (sym more i) (sym o.committed_are i)),
          omega (arith, longer, o.committed_are),
        ) in
        let was : Noted n Q = λ key cm fs got. (
          (o.marks key cm fs got).0 ∙ sym (mark_kept cs command cm (o.marks key cm fs got).1)
              ∙ ap (λ l. fence_behind l cm) (sym more),
          (let low = (o.marks key cm fs got).1 in omega (arith, low, longer)),
        ) in
        let kept = keeps_sent o command none replies b.stop b.passed (loaded e.view.stop_loads found) words
        (subst NoneOpen (settled_is e.view) (same_or_settled e.view)) b.least b.some b.whole spelled
        s2 n2 emitted next2
        (o.emitted_are ∙ sym (ap (λ l. length (fences l)) more ∙ fences_after cs command no_fence))
        (omega (arith, o.fenced)) o.window shape
        (ap (λ (x : LendingSet). x.limits) noted ∙ all_limits places committed (emitted + 1) n)
        (subst (AreLent e.view.lent) (sym noted) (all_lent_still e.view.lent places committed
        (emitted + 1) n o.lent_are lent_none))
        (ap (λ (x : LendingSet). x.touched) noted ∙ all_marked places committed (emitted + 1) n
        ∙ ap (λ m. marked places m n.touched) o.committed_are)
        (subst (λ x. Noted x Q) (sym noted) (all_noted Q places committed (emitted + 1) n here was))
        at_next2 in
        subst (λ x. IsDriver ring next2 x s2 n2 first emitted (committed + 1) seen now)
        (sym (end_is v (at ∙ ap (λ w. committing w command words) b.view)))
        (subst (IsDriver ring next2 (record e { view = v }) s2 n2 first emitted (committed + 1) seen)
        (sym none_now) kept)

    pub answers_all : (command : Command) (words : List ℕ) (n2 : LendingSet)
        → g.view ≡ committing loaded_view command words
        → 4 * length words < free_now loaded_view
        → refusal_of (client_by e.view e.pages n.touched) (Commit command) ≡ None
        → words ≡ spelling command
        → n2 ≡ all_touched (touched_places (run (first_state e.view) e.view.acts).kept command) committed
        (emitted + 1) n
        → IsCommitted (has e n.touched) (Commit command) command (has g n2.touched)
    answers_all command words n2 at enough none spelled noted =
        let b = base in
        let places : Places = touched_places (run (first_state e.view) e.view.acts).kept command in
        let v : DriverView = view_after e.view replies b.stop b.passed
        (loaded e.view.stop_loads found) command words in
        let whole = end_is v (at ∙ ap (λ w. committing w command words) b.view) in
        let rises : e.view.passed ≤ b.passed = no_fewer
        (commands e.view.acts) e.view.passed b.passed o.some_passed
        (omega (arith, b.least, b.whole, o.passed)) in
        record {
          done = record {
            granted = none;
            client_is = ap (λ (x : DriverSeen). client_by x.view x.pages n2.touched) whole
                ∙ ap (λ t. client_by v e.pages t) (ap (λ (x : LendingSet). x.touched) noted
                ∙ all_marked places committed (emitted + 1) n
                ∙ ap (λ m. marked places m n.touched) o.committed_are)
                ∙ sym (client_sent o command none b.passed rises);
          };
          sent = record {
            loaded = loaded_view;
            stop = found;
            told_by = subst (λ w. StopTold w loaded_view found) is told_by;
            enough = omega (arith, enough, ap length spelled);
            left_is = at ∙ ap (committing loaded_view command) spelled;
          };
          left_is = λ i. record {
            table = (ap (λ (x : DriverSeen). x.table) whole) i;
            view = g.view;
            own = (ap (λ (x : DriverSeen). x.pages) whole) i;
            touched = n2.touched;
          };
        }

-- the places that a command touches, by the shape
pub touched_by_shape : (kept : Kept) (s : ShapeSet) (t : Option ℕ) (command : Command)
    → shape_of kept ≡ shape_in s
    → s.regions.frame ≡ frame_page_count s.limits → t ≡ touched_region s.gmrfb command
    → touched_places kept command ≡ places_for s.regions t
touched_by_shape kept s t command same frame region =
    ap (λ (h : Shape). unwrap_or (option_and_then (places_of (frame_page_count h.limits) h.regions)
    (touched_region h.gmrfb command)) []) same
    ∙ ap (λ m. unwrap_or (option_and_then (places_of m s.regions.regions)
    (touched_region s.gmrfb command)) []) (sym frame)
    ∙ ap (λ r. unwrap_or (option_and_then (places_of s.regions.frame s.regions.regions) r) []) (sym region)
    ∙ go t
  where
    go : (r : Option ℕ) → unwrap_or (option_and_then (places_of s.regions.frame s.regions.regions) r) []
        ≡ places_for s.regions r
    go None = refl
    go (Some id) = refl

pub admitted : {ring : Geometry} {next : ℕ} {e : DriverSeen} {s : ShapeSet} {n : LendingSet} {first emitted committed seen : ℕ} {asked :
    Option ℕ}
    (o : IsDriver ring next e s n first emitted committed seen asked) (command : Command) → (ReadsNumbers command → ⊥)
    → refusal_of (client_by e.view e.pages n.touched) (Commit command) ≡ None
    → IsAdmitted (shape_in s) command
admitted {e} {n = n} o command named none =
    ap (λ h. least_standing (shape_tests h command)) (sym o.shape_is)
    ∙ sym (judged_by_shape o.followed command named)
    ∙ (granted (client_by e.view e.pages n.touched) command none).admissible
