-- The store of the reply: the chain that is out is served, and what is settled is its step further.
use Rattle.std.proofs.Common.{◌≡◌, ◌≢◌, inl, ℕ, ◌<◌, ◌^◌, List, [], ◌∷◌, ◌++◌, length, slice_set, All, true, false, None, refl, sym, ap, subst, ◌∙◌, arith, get_or-set_other, get_or-set_same}
use Rattle.std.proofs.lemmas.List.Elements.{All-head, All-tail}
use Rattle.std.specs.FinMap as map
use Rattle.svga_cmd.specs.Pages.{HasPage, IsKey, page_at}
use Rattle.svga_cmd.specs.declared.page.PageKey.{PageKey}
use Rattle.svga_cmd.specs.declared.session.Session.{Session}
use Rattle.svga_model.proofs.TouchLaws.{same_fault}
use Rattle.svga_model.proofs.ValidStateLaws.{step_limits}
use Rattle.svga_model.specs.Acts.{Act, Put}
use Rattle.svga_model.specs.Faults.{IsAdmissible, fault_of}
use Rattle.svga_model.specs.Memories.{page_bytes}
use Rattle.svga_model.specs.Runs.{done, run}
use Rattle.svga_model.specs.States.{State}
use Rattle.svga_model.specs.Steps.{step}
use Rattle.svga_model.specs.Touches.{IsPut, Touches, touches}
use Rattle.svga_ring.proofs.Steps.Apart.{one_out, sound_apart}
use Rattle.svga_ring.proofs.Requests.Asks.{all_taken}
use Rattle.svga_ring.proofs.Steps.Beside.{located_beside, stops_beside, words_asked, words_beside}
use Rattle.svga_ring.proofs.Acts.Float.{floats}
use Rattle.svga_ring.proofs.Acts.InHand.{IsTouchedInHand, chain_out, opening_of, none_out, settled_of}
use Rattle.svga_ring.proofs.Steps.LoadsAndCells.{none_unread}
use Rattle.svga_ring.proofs.Words.Told.{in_hand}
use Rattle.svga_ring.proofs.Pages.Noted.{runs_unnoted}
use Rattle.svga_ring.proofs.Requests.Words.{wanted_is}
use Rattle.svga_ring.proofs.Acts.Runs.{page_there, run_keeps}
use Rattle.svga_ring.proofs.Acts.Served.{IsDoneByKnown, IsKnownBefore, given_noted, home_bytes, is_cut, known_before, located_served}
use Rattle.svga_ring.proofs.Acts.Settled.{AreChainsDone, all_before_chain, puts_page_among, settled_all, settled_chain}
use Rattle.svga_ring.proofs.Acts.ChainWalks.{chain_keys}
use Rattle.svga_ring.specs.Committed.{commands, puts_of, settled}
use Rattle.svga_ring.specs.Conditions.{Can}
use Rattle.svga_ring.specs.Core.{Core, StoreReply, after, chain_of}
use Rattle.svga_ring.specs.Noting.{bytes_at_home, given_back, known_state}
use Rattle.svga_ring.specs.Requests.{IsChainOut, Request, is_chain_out, is_ring_request}
use Rattle.svga_ring.specs.SharedTable.{reply_word, request_word, reserved_word}
use Rattle.svga_ring.specs.Sound.{IsSound}
use Rattle.svga_ring.specs.SoundPages.{IsLastChain, PutsPage, by_chain, by_command, reached}
use Rattle.svga_ring.specs.SoundRequests.{AreRequests}

-- Puts alone are their own Puts
puts_all : (acts : List Act) → All IsPut acts → puts_of acts ≡ acts
puts_all [] puts = refl
puts_all (Put key bytes ∷ acts) puts =
    ap (λ l. Put key bytes ∷ l) (puts_all acts (All-tail IsPut (Put key bytes) acts puts))
puts_all (act ∷ acts) puts = absurd (All-head IsPut act acts puts)

-- once the chain is answered, what is settled is its step further; it touches there what it touches in its
-- turn, and has no fault
pub record IsSettledChain (s : State) (acts : List Act) (n : ℕ) (r : Request) (last : IsLastChain r acts) :
    Type 0 where
  pub further : reached s n false acts ≡ step (reached s n true acts) (chain_of r)
  pub same_touches : (key : PageKey)
      → touches (reached s n true acts) (chain_of r) key ≡ touches (run s last.front) (chain_of r) key
  pub admits : IsAdmissible (reached s n true acts) (chain_of r)

pub settles_chain : (s : State) (acts : List Act) (n : ℕ) (r : Request) (last : IsLastChain r acts)
    → done s acts ≡ length acts → AreChainsDone n acts
    → ((key : PageKey) → Touches (run s last.front) (chain_of r) key → PutsPage last.rest key → ⊥)
    → IsSettledChain s acts n r last
settles_chain s acts n r last all chains apart =
    let front = last.front in
    let rest = last.rest in
    let x : Act = chain_of r in
    let floating = floats s acts front rest x last.acts_are all (λ put. put)
    (λ key touched puts. apart key touched (puts_page_among rest key puts)) in
    let low = chains front rest r.id r.descriptor last.acts_are in
    let here : reached s n true acts ≡ run s (front ++ puts_of rest) =
    ap (run s) (ap (λ l. settled n true l) last.acts_are
    ∙ settled_chain front rest r.id r.descriptor n last.puts_behind low) in
    let then : reached s n false acts ≡ run s (front ++ x ∷ puts_of rest) =
    ap (run s) (settled_all acts n (all_before_chain r acts n last chains) ∙ last.acts_are
    ∙ ap (λ l. front ++ x ∷ l) (sym (puts_all rest last.puts_behind))) in
    record {
      further = then ∙ floating.last ∙ ap (λ t. step t x) (sym here);
      same_touches = λ key. ap (λ t. touches t x key) here ∙ floating.same_touches key;
      admits = ap (λ t. fault_of t x) here ∙ floating.admits;
    }

-- the state before the chain is answered, and behind it
abbrev here : Session → Core → State
here k c = reached (opening_of k) c.device.done true c.driver.acts

abbrev then : Session → Core → State
then k c = reached (opening_of k) c.device.done false c.driver.acts

-- The chain that is out
module _ (k : Session) (c : Core) (o : IsSound k c) (out : IsChainOut c.driver.request c.device.answered)
  where
    pub settles : (last : IsLastChain c.driver.request c.driver.acts)
        → IsSettledChain (opening_of k) c.driver.acts c.device.done c.driver.request last
    settles last = settles_chain (opening_of k) c.driver.acts c.device.done c.driver.request last
        o.of_words.acts.in_turn o.runs.chains_done (λ key. o.clear.request_later_puts key out last)

    pub settled_is : settled_of k c ≡ here k c
    settled_is = ap (λ b. reached (opening_of k) c.device.done b c.driver.acts) out

    -- has no fault in what is settled,
    pub asked_admits : IsAdmissible (here k c) (chain_of c.driver.request)
    asked_admits = (settles (o.requests.out_is_last_chain out)).admits

    -- touches pages of the device that are there,
    page_here : (key : PageKey) → Touches (here k c) (chain_of c.driver.request) key
        → HasPage (here k c).memory key
    page_here key touched =
        let r = c.driver.request in
        let acts : List Act = settled c.device.done true c.driver.acts in
        let is : IsKey (here k c).kept.limits key = chain_keys (here k c) r.id r.descriptor key asked_admits
        touched in
        let same : (here k c).kept.limits ≡ k.limits =
        run_keeps (λ (t : State). t.kept.limits ≡ k.limits) (λ t act e. step_limits t act ∙ e) (opening_of k)
        acts refl in
        page_there k.limits k.first acts key (subst (λ l. IsKey l key) same is)

    -- and touches each page that is noted.
    noted_here : (key : PageKey) → map.contains_key c.device.noted key ≡ true
        → Touches (here k c) (chain_of c.driver.request) key
    noted_here key is = go (o.runs.noted_touched key is) where
      go : IsTouchedInHand k c key → Touches (here k c) (chain_of c.driver.request) key
      go (by_command command spells touched) =
          let last = o.requests.out_is_last_chain out in
          let all = all_before_chain c.driver.request c.driver.acts c.device.done last o.runs.chains_done in
          let next = (in_hand command o.of_words spells).there in
          absurd (omega (arith, all, next))
      go (by_chain none out_too loaded touched) = (settles touched.0).same_touches key ∙ touched.1

    pub known_here : ((key : PageKey) → Touches (known_state c.device) (chain_of c.driver.request) key
        → map.contains_key c.device.noted key ≡ true)
        → IsKnownBefore c.device.kept c.device.noted (here k c) (chain_of c.driver.request)
    known_here all_noted = record {
      same = o.runs.kept_is_run ∙ ap (λ (t : State). t.kept) settled_is;
      there = page_here;
      firsts = λ key bytes back is. o.runs.noted_is_run key bytes back is
          ∙ ap (λ (t : State). page_bytes t.memory key) settled_is;
      all_noted = all_noted;
    }

    -- So it has no fault as far as the device knows the state, once all that it touches there is noted.
    pub known_admits : ((key : PageKey) → Touches (known_state c.device) (chain_of c.driver.request) key
        → map.contains_key c.device.noted key ≡ true)
        → IsAdmissible (known_state c.device) (chain_of c.driver.request)
    known_admits all_noted =
        let e = c.device in
        let x : Act = chain_of c.driver.request in
        let known_so = known_here all_noted in
        same_fault (known_state e) (here k c) x known_so.same
        (known_before e.kept e.noted (here k c) x known_so)
        ∙ asked_admits

-- While a chain is out, all that is sent is taken, no word is read, and all commands are done.
pub chain_alone : (k : Session) (c : Core) → IsSound k c → IsChainOut c.driver.request c.device.answered
    → (c.driver.sent ≡ c.device.taken) × (c.device.read ≡ [])
    × (c.device.done ≡ length (commands c.driver.acts))
chain_alone k c o out =
    let order = o.of_words.order in
    let last = o.requests.out_is_last_chain out in
    let all = all_before_chain c.driver.request c.driver.acts c.device.done last o.runs.chains_done in
    let is = all_taken order (none_unread c.driver.acts order all) in
    (is.all, is.none, omega (arith, all, order.done_low))

-- Each request that is out is a chain.
pub request_out : (k : Session) (c : Core) → IsSound k c → c.driver.request.number ≢ c.device.answered
    → IsChainOut c.driver.request c.device.answered
request_out k c o waits = chain_out c.driver.request c.device.answered waits o.requests.no_ring

-- the words of requests, once the last one is answered
requests_reply : {words : List ℕ} {acts : List Act} {request wanted : Request}
    {answered last_reply reserved : ℕ}
    → reply_word < length words → wanted ≡ request
    → AreRequests words acts request wanted answered last_reply reserved
    → AreRequests (slice_set words reply_word wanted.number) acts request wanted wanted.number last_reply
    reserved
requests_reply {words = words} {request = request} {wanted = wanted} inside same o =
    let x : ℕ = wanted.number in
    let number : request.number ≡ x = ap (λ (r : Request). r.number) (sym same) in record {
      request_is = get_or-set_other words reply_word request_word x 0 (omega arith) ∙ o.request_is;
      reply_is = get_or-set_same words reply_word x 0 inside;
      out_is_open = λ out. absurd (out number);
      out_is_last_chain = λ out. absurd (let off = none_out request x number in cc (off, out));
      loaded_is = inl same;
      reserved_is = get_or-set_other words reply_word reserved_word x 0 (omega arith) ∙ o.reserved_is;
      fits = o.fits;
      answered_fits = subst (λ (r : Request). r.number < 2 ^ 20) (sym same) o.fits.number_fits;
      no_ring = o.no_ring;
    }

module _ (k : Session) (c : Core) (o : IsSound k c) (can : Can StoreReply c) where
  -- what was loaded is the request that is out
  same : c.device.wanted ≡ c.driver.request
  same = wanted_is o.requests can.1.waits

  is_out : IsChainOut c.driver.request c.device.answered
  is_out = chain_out c.driver.request c.device.answered
      (subst (λ (r : Request). r.number ≢ c.device.answered) same can.1.waits)
      (ap is_ring_request (sym same) ∙ can.1.no_ring)

  done_by_known : IsDoneByKnown c.device.kept c.device.noted (here k c) (chain_of c.driver.request)
  done_by_known =
      let e = c.device in
      let given = subst (λ (r : Request). (key : PageKey) → Touches (known_state e) (chain_of r) key
      → given_back e.noted key ≡ page_at (known_state e).memory key) same can.1.given in
      let all_given = subst (λ (r : Request). (key : PageKey) → Touches (known_state e) (chain_of r) key
      → given_back e.noted key ≢ None) same can.1.all_given in
      record {
        before = known_here k c o is_out (λ key touched.
            given_noted (map.get e.noted key) (all_given key touched));
        no_put = λ put. put;
        given = given;
        all_given = all_given;
        noted_touched = noted_here k c o is_out;
      }

  last : IsLastChain c.driver.request c.driver.acts
  last = o.requests.out_is_last_chain is_out

  -- what is settled is its step further
  pub settled_reply : then k c ≡ step (here k c) (chain_of c.driver.request)
  settled_reply = (settles k c o is_out last).further

  -- and the device keeps what that leaves
  pub kept_reply : (after StoreReply c).device.kept ≡ (then k c).kept
  kept_reply = ap (λ (r : Request). (step (known_state c.device) (chain_of r)).kept) same
      ∙ (is_cut c.device.kept c.device.noted (here k c) (chain_of c.driver.request) done_by_known).kept
      ∙ ap (λ (t : State). t.kept) (sym settled_reply)

  pub keeps_store_reply : IsSound k (after StoreReply c)
  keeps_store_reply =
      let d = c.driver in
      let e = c.device in
      let x : ℕ = e.wanted.number in
      let number : d.request.number ≡ x = ap (λ (r : Request). r.number) (sym same) in
      let off : is_chain_out d.request x ≡ false = none_out d.request x number in
      let s : State = settled_of k c in
      let t : State = reached (opening_of k) e.done (is_chain_out d.request x) d.acts in
      let is_then : then k c ≡ t = ap (λ b. reached (opening_of k) e.done b d.acts) (sym off) in
      let bytes : (key : PageKey) → bytes_at_home e.noted key (page_bytes s.memory key)
      ≡ page_bytes t.memory key =
      λ key.
      ap (λ (r : State). bytes_at_home e.noted key (page_bytes r.memory key)) (settled_is k c o is_out)
      ∙ home_bytes e.kept e.noted (here k c) (chain_of d.request) done_by_known key
      ∙ ap (λ (r : State). page_bytes r.memory key) (sym settled_reply ∙ is_then) in
      sound_apart can.0 (words_beside reply_word x (omega arith) (words_asked o.of_words))
      (located_served can.1.none_held bytes (located_beside reply_word x (omega arith) o.pages)) (record {
        with_driver_free = o.clear.with_driver_free;
        request_free = λ key out touched. absurd (cc (off, out));
        later_puts = o.clear.later_puts;
        request_later_puts = λ key out chain touched puts. absurd (cc (off, out));
      }) (runs_unnoted (kept_reply ∙ ap (λ (r : State). r.kept) is_then) o.runs.chains_done)
      (requests_reply (omega (arith, o.of_words.fixed.length_is)) same o.requests)
      (stops_beside reply_word x (omega arith) o.stops) o.reserving (one_out o can.0)
