-- A session that is closed behind a script is what the script means.
use Rattle.std.proofs.Common.{◌≡◌, ℕ, ◌-◌, List, Bool, true, false, length, not, is_some, refl, sym, ap, subst, ◌∙◌, Option, Some, None, IsSome, [], unwrap_or, arith}
use Rattle.std.proofs.lemmas.Bool.Decides.{nat_tests}
use Rattle.std.specs.FinSet as set
use Rattle.std.specs.Prelude.{if◌then◌else◌}
use Rattle.std.specs.Option.{option_or}
use Rattle.svga_client.proofs.ClientOfLaws.{overlaid_at}
use Rattle.svga_client.proofs.OwnLaws.{none_there}
use Rattle.svga_client.specs.OwnPages.{overlaid}
use Rattle.svga_cmd.proofs.KeyLaws.{keys_exact, keys_total}
use Rattle.svga_cmd.proofs.Maps.{same_gets}
use Rattle.svga_cmd.specs.Pages.{HasPage, IsKey, Memory, is_key, page_at}
use Rattle.svga_cmd.specs.declared.constants.TheConstants.{RING_START}
use Rattle.svga_cmd.specs.declared.limits.Limits.{Limits}
use Rattle.svga_cmd.specs.declared.page.PageKey.{PageKey}
use Rattle.svga_cmd.specs.declared.page.PageKey.TheVariants.{Guest, Frame}
use Rattle.svga_cmd.specs.declared.session.Session.{Session}
use Rattle.svga_cmd.specs.declared.session.Way.{Way}
use Rattle.svga_cmd.specs.declared.session.Way.TheVariants.{Dword, Reserve}
use Rattle.svga_link.specs.Closing.{AreClosingPages, closing}
use Rattle.svga_link.specs.Ends.{DriverSeen}
use Rattle.svga_link.specs.Seats.{IsDriverPossible}
use Rattle.svga_model.proofs.MeaningLaws.{script_fence}
use Rattle.svga_model.proofs.ValidRuns.{run_good}
use Rattle.svga_model.proofs.ValidStateLaws.{opening_good, step_limits}
use Rattle.svga_model.specs.Addresses.{address, dwords_between}
use Rattle.svga_model.specs.Clients.{Client}
use Rattle.svga_model.specs.Closings.{Closed, IsMeant, stores_of}
use Rattle.svga_model.specs.Fences.{fences, register_after}
use Rattle.svga_model.specs.Runs.{run}
use Rattle.svga_model.specs.Scripts.{Script, meaning_of}
use Rattle.svga_model.specs.Sentences.{spelling_all}
use Rattle.svga_model.specs.States.{State, opening_state}
use Rattle.svga_model.specs.ValidStates.{ArePages}
use Rattle.svga_pair.specs.RaceDrivers.{IsStoppedFor}
use Rattle.svga_ring.proofs.Acts.Runs.{page_there, run_keeps}
use Rattle.svga_ring.proofs.Words.Order.{sent_whole}
use Rattle.svga_ring.specs.Committed.{commands}
use Rattle.svga_ring.specs.Conditions.{first_state, unsent}
use Rattle.svga_ring.specs.Layouts.{Layout, word_address}
use Rattle.svga_ring.specs.Views.{DriverView, Terms}

-- all words of the commands are sent
all_sent : (d : DriverView) → IsDriverPossible d → unsent d ≡ [] → d.sent ≡ spelling_all (commands d.acts)
all_sent d is none =
    subst (λ (x : DriverView). unsent x ≡ [] → x.sent ≡ spelling_all (commands x.acts)) is.view_is
    (λ none. sym (sent_whole is.sound.of_words.order none)) none

-- NEXT_CMD was stored as often as the session's way wants
all_stored : (d : DriverView) → IsDriverPossible d → unsent d ≡ []
    → d.next_stores ≡ stores_of d.terms.way (commands d.acts)
all_stored d is none =
    subst (λ (x : DriverView). unsent x ≡ [] → x.next_stores ≡ stores_of x.terms.way (commands x.acts))
    is.view_is (λ none. by_way is.core.driver.terms.way refl none) none
  where
    x : DriverView
    x = is.core.driver

    by_way : (way : Way) → x.terms.way ≡ way → unsent x ≡ [] → x.next_stores ≡ stores_of way (commands x.acts)
    by_way Reserve e none = is.sound.reserving.stores_by_command e
    by_way Dword e none =
        is.sound.reserving.stores_by_dword e ∙ ap length (sym (sent_whole is.sound.of_words.order none))

-- the acts leave pages of the device alone,
pages_left : (d : DriverView) → IsDriverPossible d
    → ArePages d.terms.limits (run (first_state d) d.acts).memory
pages_left d is =
    subst (λ (x : DriverView). ArePages x.terms.limits (run (first_state x) x.acts).memory) is.view_is
    (subst (λ (t : Terms). ArePages t.limits (run (opening_state t.limits t.first) x.acts).memory)
    (sym is.sound.of_words.session.of_driver)
    (subst (λ l. ArePages l (run opened x.acts).memory) limits
    (run_good opened x.acts (opening_good k.limits k.first k.within.device)
    is.sound.of_words.acts.each).memory))
  where
    k : Session
    k = is.key

    x : DriverView
    x = is.core.driver

    opened : State
    opened = opening_state k.limits k.first

    limits : (run opened x.acts).kept.limits ≡ k.limits
    limits = run_keeps (λ (t : State). t.kept.limits ≡ k.limits) (λ t act e. step_limits t act ∙ e)
        opened x.acts refl

-- a page that is there
there : (o : Option (List ℕ)) → IsSome o → o ≡ Some (unwrap_or o [])
there None is = cc
there (Some bytes) is = refl

-- one page of all, where it is lent or isn't
lent_or_own : (lent : Bool) (own left : Option (List ℕ)) → is_some own ≡ not lent → IsSome left
    → (if lent then Some (unwrap_or left []) else own) ≡ option_or own left
lent_or_own true None left mine is = sym (there left is)
lent_or_own true (Some bytes) left mine is = cc
lent_or_own false (Some bytes) left mine is = refl
lent_or_own false None left mine is = cc

-- a key of the device, by its test
key_tested : (l : Limits) (key : PageKey) → (is_key l key ≡ true → IsKey l key)
    × (IsKey l key → is_key l key ≡ true)
key_tested l (Guest p) = (λ is. grind (arith, nat_tests, is), λ is. grind (arith, nat_tests, is))
key_tested l (Frame g) = (λ is. grind (arith, nat_tests, is), λ is. grind (arith, nat_tests, is))

-- All pages together are those that the acts leave, under the driver's.
all_pages : (e : DriverSeen) (pages : Memory) → IsDriverPossible e.view
    → ((key : PageKey) → IsKey e.view.terms.limits key
    → is_some (page_at e.pages key) ≡ not (set.contains e.view.lent key))
    → ((key : PageKey) → HasPage e.pages key → IsKey e.view.terms.limits key)
    → AreClosingPages e.view e.pages pages
    → pages ≡ overlaid e.pages (run (first_state e.view) e.view.acts).memory
all_pages e pages is mine keys are =
    same_gets keys_total keys_exact pages (overlaid e.pages left)
    (λ key. at key (is_key l key) refl ∙ sym (overlaid_at e.pages left key))
  where
    d : DriverView
    d = e.view

    l : Limits
    l = e.view.terms.limits

    left : Memory
    left = (run (first_state e.view) e.view.acts).memory

    no_page : (key : PageKey) → is_key l key ≡ false → IsKey l key → ⊥
    no_page key off on = let t = (key_tested l key).1 on in cc

    at : (key : PageKey) (b : Bool) → is_key l key ≡ b
        → page_at pages key ≡ option_or (page_at e.pages key) (page_at left key)
    at key true on =
        let key_is = (key_tested l key).0 on in
        are.each key key_is
        ∙ lent_or_own (set.contains d.lent key) (page_at e.pages key) (page_at left key) (mine key key_is)
        (page_there l d.terms.first d.acts key key_is)
    at key false off =
        none_there (page_at pages key) (λ has. no_page key off ((are.keys key).0 has))
        ∙ (λ i. option_or
        (sym (none_there (page_at e.pages key) (λ has. no_page key off (keys key has))) i)
        (sym (none_there (page_at left key) (λ has. no_page key off ((pages_left d is).keys key has))) i))

-- What is left of the session is what the script means.
pub closes_meant : (s : Script) (e : DriverSeen) (c : Closed)
    → (is : IsStoppedFor s.session (meaning_of s).client e) → IsDriverPossible e.view → unsent e.view ≡ []
    → ((key : PageKey) → IsKey e.view.terms.limits key
    → is_some (page_at e.pages key) ≡ not (set.contains e.view.lent key))
    → ((key : PageKey) → HasPage e.pages key → IsKey e.view.terms.limits key)
    → AreClosingPages e.view e.pages c.pages → c ≡ closing e.view c.pages
    → IsMeant is.session (meaning_of s) c
closes_meant s e c is possible none mine keys are left =
    subst (IsMeant is.session (meaning_of s)) (sym left) (record {
      sent = sent;
      taken = sent;
      pages = all_pages e c.pages possible mine keys are ∙ ap (λ (x : Client). x.state.memory) is.client_is;
      kept = ap (λ (x : Client). x.state.kept) is.client_is;
      max = ap (λ (lay : Layout). lay.max) is.layout_is;
      fence = ap (λ (x : Client). register_after x.first (length (fences x.commands))) is.client_is
          ∙ sym (script_fence s);
      next_cmd = place;
      stop = place;
      config = refl;
      next_stores = all_stored e.view possible none
          ∙ (λ i. stores_of (is.terms_are i).way ((is.client_is i).commands));
    }) where
      sent : e.view.sent ≡ spelling_all (meaning_of s).client.commands
      sent = all_sent e.view possible none ∙ ap (λ (x : Client). spelling_all x.commands) is.client_is

      sent_count : ℕ
      sent_count = length e.view.sent

      from_start : sent_count - 0 ≡ sent_count
      from_start = omega arith

      place : word_address e.view.layout (length e.view.sent)
          ≡ address RING_START (dwords_between RING_START is.session.ring) (length e.view.sent)
      place = ap (λ (lay : Layout). word_address lay sent_count) is.layout_is
          ∙ ap (λ n. address RING_START (dwords_between RING_START is.session.ring) n) from_start
