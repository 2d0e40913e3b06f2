-- The client stays what the driver's acts mean, whatever it does next.
use Rattle.std.proofs.Common.{◌≡◌, inl, inr, ℕ, suc, ◌+◌, ◌<◌, ◌≤◌, List, [], ◌∷◌, ◌++◌, length, take, Bool, true, false, if◌then◌else◌, refl, sym, ap, subst, ◌∙◌, Option, Some, None, is_none, is_some, IsSome, unwrap_or, arith, length-append}
use Rattle.std.proofs.lemmas.List.Elements.{filter_map-append}
use Rattle.std.proofs.lemmas.Option.{same_Some}
use Rattle.std.specs.FinMap as map
use Rattle.std.specs.FinMap.{FinMap}
use Rattle.std.specs.FinSet as set
use Rattle.svga_client.proofs.MarkLaws.{all_lent, marked_at, place_behind}
use Rattle.svga_client.proofs.OwnLaws.{IsFree, none_there, own_act, own_fault, own_lent, own_taken, own_touches, own_written}
use Rattle.svga_client.specs.Following.{IsFollowed, Known, acting, state_of}
use Rattle.svga_client.specs.OwnPages.{IsWithPages}
use Rattle.svga_cmd.proofs.KeyLaws.{keys_exact, keys_total}
use Rattle.svga_cmd.proofs.Maps.{by_key, get_kept, get_other, get_removed, get_same}
use Rattle.svga_cmd.specs.Pages.{IsKey, key_cmp, page_at}
use Rattle.svga_cmd.specs.declared.command.Command.{Command}
use Rattle.svga_cmd.specs.declared.limits.Limits.{Limits}
use Rattle.svga_cmd.specs.declared.page.PageKey.{PageKey}
use Rattle.svga_model.proofs.PutLaws.{put_admissible}
use Rattle.svga_model.proofs.ValidStateLaws.{step_limits}
use Rattle.svga_model.proofs.RunLaws.{done-first, run-first, run_whole}
use Rattle.svga_model.specs.Acts.{Act, Chain, Do, Put}
use Rattle.svga_model.specs.Clients.{Client, committed, first_out, marked}
use Rattle.svga_model.specs.Faults.{IsAdmissible, fault_of}
use Rattle.svga_model.specs.Fences.{fence_value, fences}
use Rattle.svga_model.specs.Memories.{page_bytes}
use Rattle.svga_model.specs.Regions.{Places}
use Rattle.svga_model.specs.Runs.{done, run}
use Rattle.svga_model.specs.States.{Kept, State, opening_state}
use Rattle.svga_model.specs.Steps.{step}
use Rattle.svga_model.specs.Touches.{Touches, has_page, touched_places}
use Rattle.svga_ring.proofs.Acts.Append.{commands_still, there, touches_before, touches_last, touches_put}
use Rattle.svga_ring.proofs.Acts.KnownDone.{known_done_command, known_done_still, known_done_rises}
use Rattle.svga_ring.proofs.Pages.Locations.{in_here, in_other, out_here, out_other}
use Rattle.svga_ring.proofs.Acts.Runs.{page_there, run_keeps}
use Rattle.svga_ring.proofs.Words.NextCommand.{commands-append}
use Rattle.svga_ring.specs.Committed.{commands}
use Rattle.svga_ring.specs.SoundPages.{TouchesAt, known_done}

-- an act more that is admissible is run behind the others
pub run_more : (s : State) (acts : List Act) (x : Act) → done s acts ≡ length acts
    → IsAdmissible (run s acts) x
    → run s (acts ++ x ∷ []) ≡ step (run s acts) x
run_more s acts x all admits = (run_whole s acts (x ∷ []) all).0
    ∙ run-first (run s acts) x [] true (ap is_none admits)

pub done_more : (s : State) (acts : List Act) (x : Act) → done s acts ≡ length acts
    → IsAdmissible (run s acts) x
    → done s (acts ++ x ∷ []) ≡ length (acts ++ x ∷ [])
done_more s acts x all admits =
    let whole = (run_whole s acts (x ∷ []) all).1 in
    let one = done-first (run s acts) x [] true (ap is_none admits) in
    omega (arith, whole, one, all, length-append acts (x ∷ []))

-- a command is refused for none of these reasons
pub record IsGranted (c : Client) (command : Command) : Type 0 where
  pub admissible : fault_of c.state (Do command) ≡ None
  pub lent : first_out c.lent (touched_places c.state.kept command) ≡ None

-- a chain is refused for none of these
pub record IsAsked (c : Client) (id first : ℕ) : Type 0 where
  pub admissible : fault_of c.state (Chain id first) ≡ None
  pub lent : (key : PageKey) → Touches c.state (Chain id first) key → set.contains c.lent key ≡ true

module _ {l : Limits} {c : Client} {k : Known} (o : IsFollowed l c k) where
  -- the state before all acts
  abbrev pub s : State
  s = opening_state l c.first

  pub command_lent : (command : Command) (key : PageKey) → IsGranted c command
      → Touches c.state (Do command) key → set.contains k.lent key ≡ true
  command_lent command key granted touched =
      ap (λ lent. set.contains lent key) (sym o.lent_is)
      ∙ all_lent c.lent (touched_places c.state.kept command) key granted.lent touched

  pub command_free : (command : Command) → IsGranted c command → IsFree k.own c.state (Do command)
  command_free command granted key touched own = let lent = command_lent command key granted touched in
      let not_lent = (o.own_keys key own).1 in cc (lent, not_lent)

  -- the driver may commit it
  pub command_admits : (command : Command) → IsGranted c command → IsAdmissible (state_of l c k) (Do command)
  command_admits command granted = sym (own_fault k.own (state_of l c k) c.state (Do command) o.state
      (command_free command granted)) ∙ granted.admissible

  pub command_touches : (command : Command) (key : PageKey) → IsGranted c command
      → Touches (state_of l c k) (Do command) key → set.contains k.lent key ≡ true
  command_touches command key granted touched =
      command_lent command key granted (own_touches k.own (state_of l c k) c.state (Do command) key o.state
      (command_free command granted) ∙ touched)

  -- it is committed
  pub follows_commit : (command : Command) → IsGranted c command
      → IsFollowed l (committed c command) (record k { acts = k.acts ++ Do command ∷ [] })
  follows_commit command granted = record {
    state = subst (λ t. IsWithPages k.own t (step c.state x)) (sym (run_more s k.acts x o.in_turn admits))
        (own_act k.own (state_of l c k) c.state x o.state (λ put. put) free);
    commands_are = ap (λ cs. cs ++ command ∷ []) o.commands_are ∙ sym (commands-append k.acts (x ∷ []));
    lent_is = o.lent_is;
    own_keys = o.own_keys;
    own_pages = o.own_pages;
    in_turn = done_more s k.acts x o.in_turn admits;
    seen_low = omega (arith, o.seen_low, more_fences);
    touched_lent = λ n key low touched. elim (touches_last s k.acts command n key touched) as
        (λ _. set.contains k.lent key ≡ true) [
          | inl before ↦ o.touched_lent n key (at_place n low) before
          | inr last ↦ command_touches command key granted last.1
        ];
    touched_last = λ n key low touched. elim (touches_last s k.acts command n key touched) as
        (λ _. (place : ℕ) × (map.get marks key ≡ Some place) × (n ≤ place)) [
          | inl before ↦ older n key (has_page places key) refl before
              (o.touched_last n key (at_place n low) before)
          | inr last ↦ (
            length c.commands,
            marked_at places (length c.commands) c.touched key
                ∙ ap (λ t. if t then Some (length c.commands) else map.get c.touched key)
                (own_touches k.own (state_of l c k) c.state x key o.state free ∙ last.1),
            omega (arith, last.0, ap length o.commands_are),
          )
        ];
    places_low = λ key place at. newer key place (has_page places key) refl at;
  }
    where
      x : Act
      x = Do command

      places : Places
      places = touched_places c.state.kept command

      marks : FinMap key_cmp ℕ
      marks = marked places (length c.commands) c.touched

      admits : IsAdmissible (state_of l c k) x
      admits = command_admits command granted

      free : IsFree k.own c.state x
      free = command_free command granted

      one_more : length (commands (k.acts ++ x ∷ [])) ≡ length (commands k.acts) + 1
      one_more = ap length (commands-append k.acts (x ∷ [])) ∙ length-append (commands k.acts) (command ∷ [])

      more_fences : length (fences (commands (k.acts ++ x ∷ []))) ≡ length (fences (commands k.acts)) + length
          (fences (command ∷ []))
      more_fences = ap (λ cs. length (fences cs)) (commands-append k.acts (x ∷ []))
          ∙ ap length (filter_map-append fence_value (commands k.acts) (command ∷ []))
          ∙ length-append (fences (commands k.acts)) (fences (command ∷ []))

      at_place : (n : ℕ) → known_done (k.acts ++ x ∷ []) k.passed k.seen ≤ n
          → known_done k.acts k.passed k.seen ≤ n
      at_place n low = omega (arith, low, known_done_command k.acts command k.passed k.seen o.seen_low)

      older : (n : ℕ) (key : PageKey) (has : Bool) → has_page places key ≡ has → TouchesAt s k.acts n key
          → (place : ℕ) × (map.get c.touched key ≡ Some place) × (n ≤ place)
          → (place : ℕ) × (map.get marks key ≡ Some place) × (n ≤ place)
      older n key true is before last = (
        length c.commands,
        marked_at places (length c.commands) c.touched key
            ∙ ap (λ t. if t then Some (length c.commands) else map.get c.touched key) is,
        omega (arith, there s k.acts n key before, ap length o.commands_are),
      )
      older n key false is before last = (
        last.0,
        marked_at places (length c.commands) c.touched key
            ∙ ap (λ t. if t then Some (length c.commands) else map.get c.touched key) is ∙ last.1,
        last.2,
      )

      newer : (key : PageKey) (place : ℕ) (has : Bool) → has_page places key ≡ has
          → map.get marks key ≡ Some place → place < length (commands (k.acts ++ x ∷ []))
      newer key place true is at =
          let same : length c.commands ≡ place = same_Some (length c.commands) place
          (sym (marked_at places (length c.commands) c.touched key
          ∙ ap (λ t. if t then Some (length c.commands) else map.get c.touched key) is) ∙ at) in
          omega (arith, same, one_more, ap length o.commands_are)
      newer key place false is at =
          let old = o.places_low key place (sym (marked_at places (length c.commands) c.touched key
          ∙ ap (λ t. if t then Some (length c.commands) else map.get c.touched key) is) ∙ at) in
          omega (arith, old, one_more)

  -- A chain that the client isn't refused: its table pages are lent.
  pub chain_free : (id first : ℕ) → IsAsked c id first → IsFree k.own c.state (Chain id first)
  chain_free id first asked key touched own =
      let lent = asked.lent key touched in
      let same = ap (λ pages. set.contains pages key) o.lent_is in
      let not_lent = (o.own_keys key own).1 in
      cc (lent, same, not_lent)

  -- The driver may ask for it,
  pub chain_admits : (id first : ℕ) → IsAsked c id first → IsAdmissible (state_of l c k) (Chain id first)
  chain_admits id first asked =
      sym (own_fault k.own (state_of l c k) c.state (Chain id first) o.state (chain_free id first asked))
      ∙ asked.admissible

  pub chain_touches : (id first : ℕ) (key : PageKey) → IsAsked c id first
      → Touches (state_of l c k) (Chain id first) key
      → set.contains k.lent key ≡ true
  chain_touches id first key asked touched =
      ap (λ pages. set.contains pages key) (sym o.lent_is)
      ∙ asked.lent key
      (own_touches k.own (state_of l c k) c.state (Chain id first) key o.state (chain_free id first asked)
      ∙ touched)

  -- and asks for it.
  pub follows_chain : (id first : ℕ) → IsAsked c id first
      → IsFollowed l (record c { state = step c.state (Chain id first) }) (acting k (Chain id first))
  follows_chain id first asked = record {
    state = subst (λ t. IsWithPages k.own t (step c.state x)) (sym (run_more s k.acts x o.in_turn admits))
        (own_act k.own (state_of l c k) c.state x o.state (λ put. put) (chain_free id first asked));
    commands_are = o.commands_are ∙ sym (commands_still k.acts x refl);
    lent_is = o.lent_is;
    own_keys = o.own_keys;
    own_pages = o.own_pages;
    in_turn = done_more s k.acts x o.in_turn admits;
    seen_low = omega (arith, o.seen_low, ap (λ cs. length (fences cs)) (commands_still k.acts x refl));
    touched_lent = λ n q low touched. o.touched_lent n q (at_place n low) (older n q touched);
    touched_last = λ n q low touched. o.touched_last n q (at_place n low) (older n q touched);
    places_low = λ q place at.
        let low = o.places_low q place at in omega (arith, low, ap length (commands_still k.acts x refl));
  }
    where
      x : Act
      x = Chain id first

      admits : IsAdmissible (state_of l c k) x
      admits = chain_admits id first asked

      at_place : (n : ℕ) → known_done (k.acts ++ x ∷ []) k.passed k.seen ≤ n
          → known_done k.acts k.passed k.seen ≤ n
      at_place n low = omega (arith, low, known_done_still k.acts x k.passed k.seen refl)

      older : (n : ℕ) (q : PageKey) → TouchesAt s (k.acts ++ x ∷ []) n q → TouchesAt s k.acts n q
      older n q touched =
          let low : n < length (commands (k.acts ++ x ∷ [])) = there s (k.acts ++ x ∷ []) n q touched in
          touches_before s k.acts (x ∷ []) n q
          (omega (arith, low, ap length (commands_still k.acts x refl))) touched

  -- the limits never change
  pub limits_are : c.state.kept.limits ≡ l
  limits_are =
      ap (λ (kept : Kept). kept.limits) o.state.kept
      ∙ run_keeps (λ (t : State). t.kept.limits ≡ l) (λ t act e. step_limits t act ∙ e) s k.acts refl

  -- a page that is with the driver is written
  pub follows_write : (key : PageKey) (bytes : List ℕ) → IsSome (page_at k.own key)
      → IsFollowed l (record c { state = step c.state (Put key bytes) })
      (record k { own = map.insert k.own key bytes })
  follows_write key bytes own = record {
    state = own_written k.own (state_of l c k) c.state key bytes o.state own;
    commands_are = o.commands_are;
    lent_is = o.lent_is;
    own_keys = λ q some. by_key keys_total keys_exact q key (IsKey l q × (set.contains k.lent q ≡ false))
        (λ is. subst (λ p. IsKey l p × (set.contains k.lent p ≡ false)) (sym is) (o.own_keys key own))
        (λ differ. o.own_keys q (subst IsSome (get_other keys_total keys_exact k.own key q bytes differ)
        some));
    own_pages = λ q is free. by_key keys_total keys_exact q key
        (IsSome (page_at (map.insert k.own key bytes) q))
        (λ same. subst (λ p. IsSome (page_at (map.insert k.own key bytes) p)) (sym same)
        (ap is_some (get_same keys_total keys_exact k.own key bytes)))
        (λ differ. subst IsSome (sym (get_other keys_total keys_exact k.own key q bytes differ))
        (o.own_pages q is free));
    in_turn = o.in_turn;
    seen_low = o.seen_low;
    touched_lent = o.touched_lent;
    touched_last = o.touched_last;
    places_low = o.places_low;
  }

  -- it is lent: its bytes are put
  pub follows_lend : (key : PageKey) (bytes : List ℕ) → page_at k.own key ≡ Some bytes
      → IsFollowed l (record c { lent = set.insert c.lent key; touched = map.remove c.touched key })
      (record k {
        acts = k.acts ++ Put key bytes ∷ [];
        lent = set.insert k.lent key;
        own =
            map.remove k.own key;
      })
  follows_lend key bytes own = record {
    state = subst (λ t. IsWithPages (map.remove k.own key) t c.state)
        (sym (run_more s k.acts x o.in_turn admits))
        (own_lent k.own (state_of l c k) c.state key bytes o.state own
        (page_there l c.first k.acts key mine.0));
    commands_are = o.commands_are ∙ sym (commands_still k.acts x refl);
    lent_is = ap (λ lent. set.insert lent key) o.lent_is;
    own_keys = λ q some. by_key keys_total keys_exact q key
        (IsKey l q × (set.contains (set.insert k.lent key) q ≡ false))
        (λ is. absurd (let gone = get_removed keys_total keys_exact k.own key in
        cc (ap (λ p. is_some (page_at (map.remove k.own key) p)) is, some, ap is_some gone)))
        (λ differ. let was = o.own_keys q (subst IsSome
        (get_kept keys_total keys_exact k.own key q differ) some) in
        (was.0, in_other k.lent key q differ ∙ was.1));
    own_pages = λ q is free. by_key keys_total keys_exact q key (IsSome (page_at (map.remove k.own key) q))
        (λ same. absurd (let here = in_here k.lent key in
        cc (ap (set.contains (set.insert k.lent key)) same, here, free)))
        (λ differ. subst IsSome (sym (get_kept keys_total keys_exact k.own key q differ))
        (o.own_pages q is (sym (in_other k.lent key q differ) ∙ free)));
    in_turn = done_more s k.acts x o.in_turn admits;
    seen_low = omega (arith, o.seen_low, ap (λ cs. length (fences cs)) (commands_still k.acts x refl));
    touched_lent = λ n q low touched. by_key keys_total keys_exact q key
        (set.contains (set.insert k.lent key) q ≡ true)
        (λ is. subst (λ p. set.contains (set.insert k.lent key) p ≡ true) (sym is) (in_here k.lent key))
        (λ differ. in_other k.lent key q differ ∙ was n q low touched);
    touched_last = λ n q low touched. by_key keys_total keys_exact q key
        ((place : ℕ) × (map.get (map.remove c.touched key) q ≡ Some place) × (n ≤ place))
        (λ is. absurd (let lent = was n q low touched in let free = mine.1 in
        cc (ap (set.contains k.lent) is, lent, free)))
        (λ differ. let last = o.touched_last n q (at_place n low)
        (touches_put s k.acts q key bytes n touched) in
        (last.0, get_kept keys_total keys_exact c.touched key q differ ∙ last.1, last.2));
    places_low = λ q place at. by_key keys_total keys_exact q key
        (place < length (commands (k.acts ++ x ∷ [])))
        (λ is. absurd (let gone = get_removed keys_total keys_exact c.touched key in
        cc (ap (map.get (map.remove c.touched key)) is, at, gone)))
        (λ differ. let low = o.places_low q place (sym (get_kept keys_total keys_exact c.touched key q differ)
        ∙ at) in
        omega (arith, low, ap length (commands_still k.acts x refl)));
  }
    where
      x : Act
      x = Put key bytes

      admits : IsAdmissible (state_of l c k) x
      admits = put_admissible (state_of l c k) key bytes

      mine : IsKey l key × (set.contains k.lent key ≡ false)
      mine = o.own_keys key (ap is_some own)

      at_place : (n : ℕ) → known_done (k.acts ++ x ∷ []) k.passed k.seen ≤ n
          → known_done k.acts k.passed k.seen ≤ n
      at_place n low = omega (arith, low, known_done_still k.acts x k.passed k.seen refl)

      was : (n : ℕ) (q : PageKey) → known_done (k.acts ++ x ∷ []) k.passed k.seen ≤ n
          → TouchesAt s (k.acts ++ x ∷ []) n q → set.contains k.lent q ≡ true
      was n q low touched = o.touched_lent n q (at_place n low) (touches_put s k.acts q key bytes n touched)

  -- it is taken back, with the bytes that the acts leave
  pub follows_take : (key : PageKey) → IsKey l key → set.contains k.lent key ≡ true
      → ((n : ℕ) → known_done k.acts k.passed k.seen ≤ n → TouchesAt s k.acts n key → ⊥)
      → IsFollowed l (record c { lent = set.remove c.lent key; touched = map.remove c.touched key })
      (record k {
        lent = set.remove k.lent key;
        own =
            map.insert k.own key (page_bytes (state_of l c k).memory key);
      })
  follows_take key is lent untouched = record {
    state = own_taken k.own (state_of l c k) c.state key bytes o.state away bytes_there;
    commands_are = o.commands_are;
    lent_is = ap (λ pages. set.remove pages key) o.lent_is;
    own_keys = λ q some. by_key keys_total keys_exact q key
        (IsKey l q × (set.contains (set.remove k.lent key) q ≡ false))
        (λ same. subst (λ p. IsKey l p × (set.contains (set.remove k.lent key) p ≡ false)) (sym same)
        (is, out_here k.lent key))
        (λ differ. let old = o.own_keys q (subst IsSome
        (get_other keys_total keys_exact k.own key q bytes differ) some) in
        (old.0, out_other k.lent key q differ ∙ old.1));
    own_pages = λ q there free. by_key keys_total keys_exact q key
        (IsSome (page_at (map.insert k.own key bytes) q))
        (λ same. subst (λ p. IsSome (page_at (map.insert k.own key bytes) p)) (sym same)
        (ap is_some (get_same keys_total keys_exact k.own key bytes)))
        (λ differ. subst IsSome (sym (get_other keys_total keys_exact k.own key q bytes differ))
        (o.own_pages q there (sym (out_other k.lent key q differ) ∙ free)));
    in_turn = o.in_turn;
    seen_low = o.seen_low;
    touched_lent = λ n q low touched. by_key keys_total keys_exact q key
        (set.contains (set.remove k.lent key) q ≡ true)
        (λ same. absurd (untouched n low (subst (λ p. TouchesAt s k.acts n p) same touched)))
        (λ differ. out_other k.lent key q differ ∙ o.touched_lent n q low touched);
    touched_last = λ n q low touched. by_key keys_total keys_exact q key
        ((place : ℕ) × (map.get (map.remove c.touched key) q ≡ Some place) × (n ≤ place))
        (λ same. absurd (untouched n low (subst (λ p. TouchesAt s k.acts n p) same touched)))
        (λ differ. let last = o.touched_last n q low touched in
        (last.0, get_kept keys_total keys_exact c.touched key q differ ∙ last.1, last.2));
    places_low = λ q place at. by_key keys_total keys_exact q key (place < length (commands k.acts))
        (λ same. absurd (let gone = get_removed keys_total keys_exact c.touched key in
        cc (ap (map.get (map.remove c.touched key)) same, at, gone)))
        (λ differ. o.places_low q place (sym (get_kept keys_total keys_exact c.touched key q differ) ∙ at));
  }
    where
      bytes : List ℕ
      bytes = page_bytes (state_of l c k).memory key

      away : page_at k.own key ≡ None
      away = none_there (page_at k.own key) (λ some. let free = (o.own_keys key some).1 in cc (lent, free))

      some_bytes : (p : Option (List ℕ)) → page_at (state_of l c k).memory key ≡ p → IsSome p
          → page_at (state_of l c k).memory key ≡ Some bytes
      some_bytes None e there = absurd (cc there)
      some_bytes (Some b) e there = e ∙ ap Some (sym (ap (λ p. unwrap_or p []) e))

      bytes_there : page_at (state_of l c k).memory key ≡ Some bytes
      bytes_there = some_bytes (page_at (state_of l c k).memory key) refl (page_there l c.first k.acts key is)

  -- more is known
  pub follows_known : (passed seen : ℕ) → k.passed ≤ passed → k.seen ≤ seen
      → seen ≤ length (fences (commands k.acts))
      → IsFollowed l c (record k { passed = passed; seen = seen })
  follows_known passed seen of_passed of_seen low = record {
    state = o.state;
    commands_are = o.commands_are;
    lent_is = o.lent_is;
    own_keys = o.own_keys;
    own_pages = o.own_pages;
    in_turn = o.in_turn;
    seen_low = low;
    touched_lent = λ n key at touched. o.touched_lent n key (omega (arith, at, rises)) touched;
    touched_last = λ n key at touched. o.touched_last n key (omega (arith, at, rises)) touched;
    places_low = o.places_low;
  }
    where
      rises : known_done k.acts k.passed k.seen ≤ known_done k.acts passed seen
      rises = known_done_rises k.acts k.passed k.seen passed seen of_passed of_seen

  -- What may be taken back: a page that no command of this lending touches,
  pub untouched_free : (key : PageKey) → map.get c.touched key ≡ None → (n : ℕ)
      → known_done k.acts k.passed k.seen ≤ n → TouchesAt s k.acts n key → ⊥
  untouched_free key none n low touched = let last = o.touched_last n key low touched in let at = last.1 in
      cc (none, at)

  -- and one behind a fence that was seen.
  pub fenced_free : (key : PageKey) (place : ℕ) → map.get c.touched key ≡ Some place
      → length (fences (take (suc place) c.commands)) < k.seen
      → (n : ℕ) → known_done k.acts k.passed k.seen ≤ n → TouchesAt s k.acts n key → ⊥
  fenced_free key place at fewer n low touched =
      let last = o.touched_last n key low touched in
      let same : last.0 ≡ place = same_Some last.0 place (sym last.1 ∙ at) in
      let behind : place < known_done k.acts k.passed k.seen = place_behind k.acts k.passed k.seen place
      (omega (arith, fewer, ap (λ cs. length (fences (take (suc place) cs))) o.commands_are)) o.seen_low in
      omega (arith, low, last.2, same, behind)
