-- The stores of NEXT_CMD keep all that is sound: with a command more among the acts, or more words of the
-- last one.
use Rattle.std.proofs.Common.{◌≡◌, ◌≢◌, inl, inr, ◌⊎◌, ℕ, zero, suc, ◌≤◌, List, [], ◌∷◌, ◌++◌, length, Bool, true, refl, sym, ap, subst, arith, length-append, slice_set}
use Rattle.std.specs.FinSet as set
use Rattle.std.specs.FinSet.{FinSet}
use Rattle.svga_cmd.specs.Pages.{key_cmp}
use Rattle.svga_cmd.specs.Spelling.{Spells, spelling}
use Rattle.svga_cmd.specs.declared.command.Command.{Command}
use Rattle.svga_cmd.specs.declared.page.PageKey.{PageKey}
use Rattle.svga_cmd.specs.declared.session.Session.{Session}
use Rattle.svga_cmd.specs.declared.session.Way.{Way}
use Rattle.svga_cmd.specs.declared.session.Way.TheVariants.{Reserve, Dword}
use Rattle.svga_model.proofs.GrammarSpelled.{spelled_some}
use Rattle.svga_model.specs.Acts.{Act, Do}
use Rattle.svga_model.specs.Memories.{page_bytes}
use Rattle.svga_model.specs.Runs.{run}
use Rattle.svga_model.specs.States.{Kept, State, opening_state}
use Rattle.svga_model.specs.Touches.{Touches}
use Rattle.svga_ring.proofs.Steps.Apart.{one_out, sound_apart}
use Rattle.svga_ring.proofs.Acts.Append.{no_put, puts_behind_more, requests_more, runs_more, touches_last}
use Rattle.svga_ring.proofs.Steps.Beside.{located_beside, requests_beside, stops_beside}
use Rattle.svga_ring.proofs.Acts.KnownDone.{known_done_command}
use Rattle.svga_ring.proofs.Words.FenceOrder.{passed_in}
use Rattle.svga_ring.proofs.Acts.InHand.{is_answered, none_out}
use Rattle.svga_ring.proofs.Acts.Settled.{settled_command}
use Rattle.svga_ring.proofs.Words.Moves.{words_commit, words_send_more}
use Rattle.svga_ring.proofs.Words.NextCommand.{commands-append}
use Rattle.svga_ring.proofs.Words.Order.{none_more}
use Rattle.svga_ring.specs.Committed.{behind, commands}
use Rattle.svga_model.specs.Fences.{fences}
use Rattle.svga_ring.specs.Conditions.{ArePending, Can}
use Rattle.svga_ring.specs.Core.{Commit, Core, SendMore, after, put_count}
use Rattle.svga_ring.specs.Layouts.{word_address}
use Rattle.svga_ring.specs.Noting.{NotedPages}
use Rattle.svga_ring.specs.Requests.{IsChainOut, Request, is_chain_out}
use Rattle.svga_ring.specs.SharedTable.{next_word}
use Rattle.svga_ring.specs.Sound.{IsSound}
use Rattle.svga_ring.specs.SoundPages.{AreLocated, AreClear, IsRunSoFar, PutsPage, TouchesAt, known_done, reached}
use Rattle.svga_ring.specs.SoundStops.{IsStopping}
use Rattle.svga_ring.specs.Views.{Terms, terms_of}

-- past the last command no act stands behind, and so no Put
none_behind : (acts : List Act) (n : ℕ) → length (commands acts) ≤ n → behind n acts ≡ []
none_behind [] n past = refl
none_behind (Do c ∷ acts) zero past = absurd (omega (arith, past))
none_behind (Do c ∷ acts) (suc n) past = none_behind acts n (omega (arith, past))
none_behind (act ∷ acts) n past = none_behind acts n past

no_puts_behind : (acts : List Act) (n : ℕ) (key : PageKey) → length (commands acts) ≤ n
    → PutsPage (behind n acts) key → ⊥
no_puts_behind acts n key past puts = (subst (λ l. PutsPage l key) (none_behind acts n past) puts).1

-- a command's pending words aren't none
some_pending : (way : Way) (pending : List ℕ) (c : Command) → Spells c (spelling c) → ArePending way pending c
    → pending ≢ []
some_pending Reserve pending c spells are none =
    omega (arith, ap length are, ap length none, spelled_some c (spelling c) spells)
some_pending Dword pending c spells are none = are.0 none

-- the pending words are sent, and the driver hasn't stopped
stops_sent : {words sent pending : List ℕ} {cs : List Command} {stopped saw_stopped drained : Bool}
    {next request last_reply : ℕ}
    (some_cs : List Command) (more : List ℕ) → pending ≢ []
    → IsStopping words cs sent pending stopped saw_stopped drained next request last_reply
    → IsStopping words some_cs more [] stopped saw_stopped drained next request last_reply
stops_sent some_cs more some o = record {
  config_is = o.config_is;
  stopped_empty = λ q. refl;
  stopped_whole = λ q. absurd (some (o.stopped_empty q));
  stopped_settled = o.stopped_settled;
  loaded_stop = o.loaded_stop;
  next_since_stop = λ q. absurd (some (o.stopped_empty (o.loaded_stop (o.next_since_stop q).0)));
}

pub keeps_send_more : (k : Session) (c : Core) → IsSound k c → Can SendMore c → IsSound k (after SendMore c)
keeps_send_more k c o can =
    let d = c.driver in
    let x : ℕ = word_address d.layout (put_count d) in
    sound_apart can.0 (words_send_more k c o.of_words can) (located_beside next_word x (omega arith) o.pages)
    o.clear o.runs (requests_beside next_word x (omega arith) (omega arith) (omega arith) o.requests)
    (stops_sent (commands d.acts) (d.sent ++ d.pending) can.1.0.0
    (stops_beside next_word x (omega arith) o.stops)) (record {
      while_pending = λ way some_left. absurd (some_left refl);
      none_by_dword = o.reserving.none_by_dword;
      stores_by_command = λ way. absurd (none_more o.of_words.order way can.1.0);
      stores_by_dword = λ way. omega
          (arith, o.reserving.stores_by_dword way, can.1.1, length-append d.sent d.pending);
    }) (one_out o can.0)

-- A command more, where no chain is out,
module _ (s : State) (acts : List Act) (c : Command) (done : ℕ) (low : done ≤ length (commands acts)) where
  -- is not settled,
  reached_still : (out : Bool) → reached s done out acts ≡ reached s done out (acts ++ Do c ∷ [])
  reached_still out = ap (run s) (sym (settled_command acts done out c low))

  -- touches no page with the driver, and stands behind all Puts.
  clear_commit : {passed seen : ℕ} {lent : FinSet key_cmp} {request : Request} {answered : ℕ}
      → seen ≤ length (fences (commands acts))
      → ((key : PageKey) → Touches (run s acts) (Do c) key → set.contains lent key ≡ true)
      → (IsChainOut request answered → ⊥)
      → AreClear s acts done passed seen lent request answered
      → AreClear s (acts ++ Do c ∷ []) done passed seen lent request answered
  clear_commit {passed} {seen} {lent} {request} {answered} seen_low pages_lent none o = record {
    with_driver_free = free;
    request_free = λ key out touched. absurd (none out);
    later_puts = λ n key past touched puts. apart n key past (touches_last s acts c n key touched)
        (puts_behind_more acts (Do c) n key puts);
    request_later_puts = λ key out. absurd (none out);
  }
    where
      still : known_done (acts ++ Do c ∷ []) passed seen ≡ known_done acts passed seen
      still = known_done_command acts c passed seen seen_low

      free : (n : ℕ) (key : PageKey) → known_done (acts ++ Do c ∷ []) passed seen ≤ n
          → TouchesAt s (acts ++ Do c ∷ []) n key → set.contains lent key ≡ true
      free n key past touched = elim (touches_last s acts c n key touched) as
          (λ _. set.contains lent key ≡ true) [
            | inl earlier ↦ o.with_driver_free n key (omega (arith, still, past)) earlier
            | inr last ↦ pages_lent key last.1
          ]

      apart : (n : ℕ) (key : PageKey) → done ≤ n
          → TouchesAt s acts n key ⊎ ((n ≡ length (commands acts)) × Touches (run s acts) (Do c) key)
          → PutsPage (behind n acts) key ⊎ PutsPage (Do c ∷ []) key → ⊥
      apart n key past (inl earlier) (inl puts) = o.later_puts n key past earlier puts
      apart n key past (inr last) (inl puts) = no_puts_behind acts n key (omega (arith, last.0)) puts
      apart n key past touched (inr one) = no_put one

  runs_commit : {read : List ℕ} {kept : Kept} {noted : NotedPages} {request wanted : Request} {answered : ℕ}
      → (IsChainOut request answered → ⊥)
      → IsRunSoFar s acts done read kept noted request wanted answered
      → IsRunSoFar s (acts ++ Do c ∷ []) done read kept noted request wanted answered
  runs_commit {request = request} {answered = answered} none =
      let same = reached_still (is_chain_out request answered) in
      runs_more (Do c) (λ id first e. cc e) (ap (λ (t : State). t.kept) same)
      (λ key note is. ap (λ (t : State). page_bytes t.memory key) same)
      (λ key out touched. absurd (none out))

-- the command touches lent pages alone, in the session's own terms
abbrev AreLent : Terms → List Act → Command → FinSet key_cmp → Type 0
AreLent terms acts c lent = (key : PageKey)
    → Touches (run (opening_state terms.limits terms.first) acts) (Do c) key → set.contains lent key ≡ true

lent_then : (k : Session) (terms : Terms) (acts : List Act) (c : Command) (lent : FinSet key_cmp)
    → terms ≡ terms_of k
    → AreLent terms acts c lent → AreLent (terms_of k) acts c lent
lent_then k terms acts c lent same = subst (λ (t : Terms). AreLent t acts c lent) same

pub keeps_commit : (k : Session) (c : Core) (command : Command) → IsSound k c → Can (Commit command) c
    → IsSound k (after (Commit command) c)
keeps_commit k c command o can =
    let d = c.driver in
    let e = c.device in
    let words = o.of_words in
    let s : State = opening_state k.limits k.first in
    let acts : List Act = d.acts ++ Do command ∷ [] in
    let x : ℕ = word_address d.layout (put_count d) in
    let low = words.order.done_low in
    let seen = passed_in words in
    let lent = lent_then k d.terms d.acts command d.lent words.session.of_driver can.1.pages_lent in
    let answered = none_out d.request e.answered (is_answered o can.1.none_open) in
    let none : IsChainOut d.request e.answered → ⊥ = λ out. cc (answered, out) in
    let some = some_pending d.terms.way d.pending command can.1.spelled can.1.pending in
    sound_apart can.0 (words_commit k c command words can)
    (subst (λ t. AreLocated k.limits (slice_set c.words next_word x) c.homes t d.lent d.out e.noted e.out)
    (reached_still s d.acts command e.done low (is_chain_out d.request e.answered))
    (located_beside next_word x (omega arith) o.pages))
    (clear_commit s d.acts command e.done low (omega (arith, seen.least, seen.most)) lent none o.clear)
    (runs_commit s d.acts command e.done low none o.runs)
    (requests_more acts (λ out last. absurd (none out))
    (requests_beside next_word x (omega arith) (omega arith) (omega arith) o.requests))
    (stops_sent (commands acts) (d.sent ++ d.pending) some (stops_beside next_word x (omega arith) o.stops))
    (record {
      while_pending = λ way some_left. absurd (some_left refl);
      none_by_dword = o.reserving.none_by_dword;
      stores_by_command = λ way. omega (
        arith,
        o.reserving.stores_by_command way,
        ap length (commands-append d.acts (Do command ∷ [])),
        length-append (commands d.acts) (command ∷ []),
      );
      stores_by_dword = λ way. omega
          (arith, o.reserving.stores_by_dword way, can.1.by_dword way, length-append d.sent d.pending);
    }) (one_out o can.0)
