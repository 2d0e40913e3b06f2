-- The store of a request: all that is sent is taken, and the chain comes last among the acts.
use Rattle.std.proofs.Common.{◌≡◌, ◌≢◌, ◌⊎◌, inl, inr, ℕ, ◌+◌, ◌%◌, ◌<◌, ◌≤◌, ◌^◌, List, [], ◌∷◌, ◌++◌, length, slice_set, All, Bool, true, false, ◌==◌, refl, sym, ap, subst, ◌∙◌, arith, append-nil, length-append, get_or-set_other, get_or-set_same}
use Rattle.std.proofs.lemmas.Bool.Decides.{nat_tests}
use Rattle.std.proofs.lemmas.List.{nil_from_length}
use Rattle.std.proofs.lemmas.List.Elements.{All-head, All-nil, All-tail}
use Rattle.std.specs.FinSet as set
use Rattle.std.specs.FinSet.{FinSet}
use Rattle.svga_cmd.specs.Pages.{key_cmp}
use Rattle.svga_cmd.specs.declared.command.Command.{Command}
use Rattle.svga_cmd.specs.declared.limits.Limits.{Limits}
use Rattle.svga_cmd.specs.declared.page.PageKey.{PageKey}
use Rattle.svga_cmd.specs.declared.session.Session.{Session}
use Rattle.svga_cmd.specs.declared.session.Way.{Way}
use Rattle.svga_model.proofs.RunLaws.{tail_same}
use Rattle.svga_model.proofs.ValidStateLaws.{step_limits}
use Rattle.svga_model.specs.Acts.{Act, Chain}
use Rattle.svga_model.specs.Faults.{IsAdmissible}
use Rattle.svga_model.specs.Memories.{page_bytes}
use Rattle.svga_model.specs.Runs.{run}
use Rattle.svga_model.specs.States.{State, opening_state}
use Rattle.svga_model.specs.Touches.{IsPut, Touches}
use Rattle.svga_ring.proofs.Steps.Apart.{one_out, sound_apart}
use Rattle.svga_ring.proofs.Acts.Append.{commands_still, there, touches_before}
use Rattle.svga_ring.proofs.Steps.Beside.{located_beside, reserving_act, stops_beside, words_act, words_asked, words_beside}
use Rattle.svga_ring.proofs.Acts.KnownDone.{known_done_still}
use Rattle.svga_ring.proofs.Acts.InHand.{IsTouchedInHand, chain_out, is_answered, none_out, opening_of, settled_of}
use Rattle.svga_ring.proofs.Words.Told.{all_done, in_hand}
use Rattle.svga_ring.proofs.Acts.Runs.{run_keeps}
use Rattle.svga_ring.proofs.Acts.Settled.{AreChainsDone, settled_all, settled_chain}
use Rattle.svga_ring.proofs.Words.NextCommand.{commands-append}
use Rattle.svga_ring.proofs.Words.Turns.{IsWithinTurn, same_count}
use Rattle.svga_ring.proofs.Acts.ChainWalks.{chain_within}
use Rattle.svga_ring.specs.Committed.{commands}
use Rattle.svga_ring.specs.Conditions.{Can}
use Rattle.svga_ring.specs.Core.{Core, StoreRequest, after, with_driver}
use Rattle.svga_ring.specs.Layouts.{word_address}
use Rattle.svga_ring.specs.Requests.{IsChainOut, IsRequest, Request, is_chain_out, is_ring_request, next_request, request_value}
use Rattle.svga_ring.specs.SharedTable.{reply_word, request_word, reserved_word}
use Rattle.svga_ring.specs.Sound.{IsSound, IsSoundOfWords}
use Rattle.svga_ring.specs.SoundPages.{AreLocated, AreClear, IsLastChain, PutsPage, TouchesAt, by_chain, by_command, reached}
use Rattle.svga_ring.specs.SoundRequests.{AreRequests}
use Rattle.svga_ring.specs.SoundStops.{IsStopping}
use Rattle.svga_ring.specs.SoundWords.{AreInOrder}
use Rattle.svga_ring.specs.Views.{Terms, terms_of}

-- the last of acts that are all Puts is one
last_put : (acts : List Act) (x : Act) → All IsPut (acts ++ x ∷ []) → IsPut x
last_put [] x puts = All-head IsPut x [] puts
last_put (act ∷ acts) x puts = last_put acts x (All-tail IsPut act (acts ++ x ∷ []) puts)

-- so behind an act that is none, and comes last, there is no Put
last_alone : (acts front rest : List Act) (x y : Act) → (IsPut x → ⊥) → All IsPut rest
    → acts ++ x ∷ [] ≡ front ++ y ∷ rest → (front ≡ acts) × (rest ≡ [])
last_alone [] [] rest x y no_put puts e = (refl, sym (tail_same x y [] rest e))
last_alone [] (f ∷ fs) rest x y no_put puts e = absurd
    (omega (arith, ap length e, length-append fs (y ∷ rest)))
last_alone (a ∷ acts) [] rest x y no_put puts e =
    absurd (no_put (last_put acts x (subst (λ l. All IsPut l) (sym (tail_same a y (acts ++ x ∷ []) rest e))
    puts)))
last_alone (a ∷ acts) (f ∷ fs) rest x y no_put puts e =
    let on = last_alone acts fs rest x y no_put puts (tail_same a f (acts ++ x ∷ []) (fs ++ y ∷ rest) e) in
    let head : f ≡ a = cc e in (λ i. head i ∷ on.0 i, on.1)

-- Where no fewer words are taken than sent, all are, and none is read.
pub record AreAllTaken (sent taken read : List ℕ) : Type 0 where
  pub all : sent ≡ taken
  pub none : read ≡ []

pub all_taken : {way : Way} {cs : List Command} {sent taken read : List ℕ} {done next : ℕ}
    → AreInOrder way cs sent taken read done next → length sent ≤ length taken → AreAllTaken sent taken read
all_taken {taken = taken} {read = read} order few =
    let count = ap length order.read_follows_sent in
    let parts = length-append (taken ++ read) order.ahead in
    let front = length-append taken read in
    let none : read ≡ [] = nil_from_length read (omega (arith, few, count, parts, front)) in
    let ahead : order.ahead ≡ [] = nil_from_length order.ahead (omega (arith, few, count, parts, front)) in
    record {
      all = order.read_follows_sent ∙ (λ i. (taken ++ none i) ++ ahead i) ∙ append-nil (taken ++ [])
          ∙ append-nil taken;
      none = none;
    }

-- Where the last STOP loaded is NEXT_CMD, all that is sent is taken.
pub asked_taken : (k : Session) (c : Core) (id first : ℕ) → IsSoundOfWords k c → Can (StoreRequest id first) c
    → AreAllTaken c.driver.sent c.device.taken c.device.read
asked_taken k c id first o can =
    let d = c.driver in
    let e = c.device in
    let lay = e.layout in
    let last : word_address d.layout d.stop ≡ word_address d.layout (length d.sent) =
    sym (o.loads.stop_is (λ q. (let apart = can.0 in cc (apart, q)))) ∙ can.1.all_taken in
    let same : word_address lay d.stop ≡ word_address lay (length d.sent) =
    subst (λ l. word_address l d.stop ≡ word_address l (length d.sent)) o.session.one_layout last in
    let low : d.stop ≤ length d.sent = omega
    (arith, o.ring.known_stop, o.order.read_known, o.order.known_sent) in
    let of_stop : IsWithinTurn lay d.stop d.stop = record
    { low = omega arith; high = omega (arith, low, o.ring.room) } in
    let of_sent : IsWithinTurn lay d.stop (length d.sent) = record
    { low = low; high = omega (arith, o.ring.room) } in
    let count = same_count lay d.stop d.stop (length d.sent) o.ring.base_known of_stop of_sent same in
    all_taken o.order (omega (arith, count, o.ring.known_stop))

-- A chain more at the end, where all commands are done
module _ (s : State) (acts : List Act) (done : ℕ) (r : Request) (all : length (commands acts) ≤ done) where
  abbrev asked : List Act
  asked = acts ++ Chain r.id r.descriptor ∷ []

  -- isn't settled while it is out,
  reached_still : reached s done false acts ≡ reached s done true asked
  reached_still = ap (run s) (settled_all acts done all
      ∙ sym (settled_chain acts [] r.id r.descriptor done (All-nil IsPut) all ∙ append-nil acts))

  -- is the last one, with nothing behind,
  chain_alone : (chain : IsLastChain r asked) → (chain.front ≡ acts) × (chain.rest ≡ [])
  chain_alone chain =
      let x : Act = Chain r.id r.descriptor in
      last_alone acts chain.front chain.rest x x (λ put. put) chain.puts_behind chain.acts_are

  -- stands behind no command that isn't done,
  chains_done_asked : AreChainsDone done asked
  chains_done_asked front rest other from e =
      let whole = ap length (ap commands e) in
      let here = ap length (commands_still acts (Chain r.id r.descriptor) refl) in
      let parts = ap length (commands-append front (Chain other from ∷ rest)) in
      let sum = length-append (commands front) (commands rest) in
      omega (arith, all, whole, here, parts, sum)

  -- and touches no page with the driver.
  clear_ask : {passed seen : ℕ} {lent : FinSet key_cmp} {old : Request} {answered : ℕ}
      → ((key : PageKey) → Touches (run s acts) (Chain r.id r.descriptor) key → set.contains lent key ≡ true)
      → AreClear s acts done passed seen lent old answered → AreClear s asked done passed seen lent r answered
  clear_ask {passed} {seen} {lent} {old} {answered} pages_lent o = record {
    with_driver_free = λ n key le touched.
        o.with_driver_free n key (omega (
          arith,
          le,
          known_done_still acts (Chain r.id r.descriptor) passed seen refl,
        ))
        (touches_before s acts (Chain r.id r.descriptor ∷ []) n key (low n key touched) touched);
    request_free = λ key out touched.
        pages_lent key
        (subst (λ l. Touches (run s l) (Chain r.id r.descriptor) key) (chain_alone touched.0).0 touched.1);
    later_puts = λ n key le touched puts. (let less = low n key touched in omega (arith, le, less, all));
    request_later_puts = λ key out chain touched puts.
        (subst (λ l. PutsPage l key) (chain_alone chain).1 puts).1;
  }
    where
      low : (n : ℕ) (key : PageKey) → TouchesAt s asked n key → n < length (commands acts)
      low n key touched =
          let less = there s asked n key touched in
          omega (arith, less, ap length (commands_still acts (Chain r.id r.descriptor) refl))

-- the next request has another number
next_number : (n : ℕ) → n < 2 ^ 20 → (n + 1) % 2 ^ 20 ≡ n → ⊥
next_number n low e = omega (arith, low, e)

next_low : (n : ℕ) → (n + 1) % 2 ^ 20 < 2 ^ 20
next_low n = omega arith

-- a chain's first page is no ring's end
no_ring_request : (r : Request) → r.descriptor < 2 ^ 31 → is_ring_request r ≡ false
no_ring_request r low = grind (arith, nat_tests)

first_page : (guest first : ℕ) → guest ≤ 16384 → ((first == 0) ≡ false → first < guest) → first < 16384
first_page guest first few within = go (first == 0) refl within where
  go : (none : Bool) → (first == 0) ≡ none → (none ≡ false → first < guest) → first < 16384
  go true is within = grind (arith, nat_tests)
  go false is within = let low = within refl in omega (arith, low, few)

-- what an admissible chain asks for, in a session
asked_within : (k : Session) (acts : List Act) (id first : ℕ)
    → IsAdmissible (run (opening_of k) acts) (Chain id first) → (id < 2 ^ 12) × (first < 2 ^ 31)
asked_within k acts id first admissible =
    let s : State = run (opening_of k) acts in
    let is = chain_within s id first admissible in
    let same : s.kept.limits ≡ k.limits =
    run_keeps (λ (t : State). t.kept.limits ≡ k.limits) (λ t act e. step_limits t act ∙ e) (opening_of k)
    acts refl in
    let guest : s.kept.limits.pages ≤ 16384 =
    subst (λ (l : Limits). l.pages ≤ 16384) (sym same) k.within.device.pages.most in
    let page = first_page s.kept.limits.pages first guest is.first_low in
    let id_low = is.id_low in (omega (arith, id_low), omega (arith, page))

-- what the request's terms say in the session's own
pub asked_in : (k : Session) (terms : Terms) (acts : List Act) (id first : ℕ) (lent : FinSet key_cmp)
    → terms ≡ terms_of k
    → IsAdmissible (run (opening_state terms.limits terms.first) acts) (Chain id first)
    → ((key : PageKey) → Touches (run (opening_state terms.limits terms.first) acts) (Chain id first) key
    → set.contains lent key ≡ true)
    → IsAdmissible (run (opening_of k) acts) (Chain id first)
    × ((key : PageKey) → Touches (run (opening_of k) acts) (Chain id first) key
    → set.contains lent key ≡ true)
asked_in k terms acts id first lent same admissible pages_lent = (
  subst (λ (t : Terms). IsAdmissible (run (opening_state t.limits t.first) acts) (Chain id first)) same
      admissible,
  subst (λ (t : Terms). (key : PageKey) → Touches (run (opening_state t.limits t.first) acts)
      (Chain id first) key
      → set.contains lent key ≡ true) same pages_lent,
)

-- the words of requests, with another request
requests_ask : {words : List ℕ} {acts : List Act} {old wanted : Request} {answered last_reply reserved : ℕ}
    (r : Request) → request_word < length words → old.number ≡ answered → old.number ≡ last_reply
    → r.number ≢ old.number → IsRequest r → is_ring_request r ≡ false
    → AreRequests words acts old wanted answered last_reply reserved
    → AreRequests (slice_set words request_word (request_value r)) (acts ++ Chain r.id r.descriptor ∷ []) r
    wanted
    answered last_reply reserved
requests_ask {words = words} {acts = acts} {wanted = wanted} {answered = answered} r inside done settled_for
    differ fits no_ring o =
    let x : ℕ = request_value r in record {
      request_is = get_or-set_same words request_word x 0 inside;
      reply_is = get_or-set_other words request_word reply_word x 0 (omega arith) ∙ o.reply_is;
      out_is_open = λ out same. differ (same ∙ sym settled_for);
      out_is_last_chain = λ out. record {
        front = acts;
        rest = [];
        acts_are = refl;
        puts_behind = All-nil
            IsPut;
      };
      loaded_is = elim o.loaded_is as (λ _. (wanted ≡ r) ⊎ (wanted.number ≡ answered)) [
        | inl is ↦ inr (ap (λ (q : Request). q.number) is ∙ done)
        | inr is ↦ inr is
      ];
      reserved_is = get_or-set_other words request_word reserved_word x 0 (omega arith) ∙ o.reserved_is;
      fits = fits;
      answered_fits = o.answered_fits;
      no_ring = no_ring;
    }

-- the driver runs, so nothing is said of stopping but that
stops_ask : {words sent pending : List ℕ} {cs : List Command} {stopped saw_stopped drained : Bool}
    {next request last_reply : ℕ}
    (some_cs : List Command) (other : ℕ) → stopped ≡ false
    → IsStopping words cs sent pending stopped saw_stopped drained next request last_reply
    → IsStopping words some_cs sent pending stopped saw_stopped drained next other last_reply
stops_ask some_cs other runs o = record {
  config_is = o.config_is;
  stopped_empty = o.stopped_empty;
  stopped_whole = λ q. absurd (cc (runs, q));
  stopped_settled = λ q. absurd (cc (runs, q));
  loaded_stop = o.loaded_stop;
  next_since_stop = o.next_since_stop;
}

module _ (k : Session) (c : Core) (id first : ℕ) (o : IsSound k c) (can : Can (StoreRequest id first) c) where
  abbrev r : Request
  r = next_request c.driver.request id first

  all : length (commands c.driver.acts) ≤ c.device.done
  all = let done = all_done o.of_words (asked_taken k c id first o.of_words can).all in omega (arith, done)

  answered : c.driver.request.number ≡ c.device.answered
  answered = is_answered o can.1.none_open

  terms : IsAdmissible (run (opening_of k) c.driver.acts) (Chain id first)
      × ((key : PageKey) → Touches (run (opening_of k) c.driver.acts) (Chain id first) key
      → set.contains c.driver.lent key ≡ true)
  terms = asked_in k c.driver.terms c.driver.acts id first c.driver.lent o.of_words.session.of_driver
      can.1.admissible
      can.1.pages_lent

  differs : r.number ≢ c.driver.request.number
  differs = next_number c.driver.request.number o.requests.fits.number_fits

  is_out : IsChainOut r c.device.answered
  is_out = chain_out r c.device.answered (λ same. differs (same ∙ sym answered))
      (no_ring_request r (asked_within k c.driver.acts id first terms.0).1)

  idle : (key : PageKey) → IsTouchedInHand k c key → ⊥
  idle key (by_command command spells touched) =
      omega (arith, (in_hand command o.of_words spells).there, all)
  idle key (by_chain none out loaded touched) =
      let off = none_out c.driver.request c.device.answered answered in cc (off, out)

  same : settled_of k c
      ≡ reached (opening_of k) c.device.done (is_chain_out r c.device.answered)
      (c.driver.acts ++ Chain id first ∷ [])
  same =
      ap (λ out. reached (opening_of k) c.device.done out c.driver.acts)
      (none_out c.driver.request c.device.answered answered)
      ∙ reached_still (opening_of k) c.driver.acts c.device.done r all
      ∙ ap (λ out. reached (opening_of k) c.device.done out (c.driver.acts ++ Chain id first ∷ []))
      (sym is_out)

  pub keeps_store_request : IsSound k (after (StoreRequest id first) c)
  keeps_store_request =
      let d = c.driver in
      let e = c.device in
      let x : ℕ = request_value r in
      let acts : List Act = d.acts ++ Chain id first ∷ [] in
      let within = asked_within k d.acts id first terms.0 in
      let fits : IsRequest r = record {
        number_fits = next_low d.request.number;
        id_fits = within.0;
        descriptor_fits = omega (arith, within.1);
      } in
      let more : IsSoundOfWords k (with_driver c (record d { acts = acts; request = r })) =
      words_asked (words_act k c (Chain id first) refl tt terms.0 o.of_words) in
      sound_apart can.0 (words_beside request_word x (omega arith) more) (subst
      (λ t. AreLocated k.limits (slice_set c.words request_word x) c.homes t d.lent d.out e.noted e.out) same
      (located_beside request_word x (omega arith) o.pages))
      (clear_ask (opening_of k) d.acts e.done r all terms.1 o.clear) (record {
        kept_is_run = o.runs.kept_is_run ∙ ap (λ (t : State). t.kept) same;
        noted_is_run = λ key bytes back is.
            o.runs.noted_is_run key bytes back is ∙ ap (λ (t : State). page_bytes t.memory key) same;
        noted_touched = λ key is. absurd (idle key (o.runs.noted_touched key is));
        chains_done = chains_done_asked (opening_of k) d.acts e.done r all;
      }) (requests_ask r (omega (arith, o.of_words.fixed.length_is)) answered can.1.none_open differs fits
      (no_ring_request r (omega (arith, within.1))) o.requests)
      (stops_ask (commands acts) r.number can.1.runs (stops_beside request_word x (omega arith) o.stops))
      (reserving_act d.acts (Chain id first) refl o.reserving) (one_out o can.0)
