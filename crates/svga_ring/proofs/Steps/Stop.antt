-- The store of STOP: the command in hand is served, so each page at home is as it leaves it, and none is
-- noted more.
use Rattle.std.proofs.Common.{◌≡◌, ℕ, ◌+◌, List, ◌∷◌, ◌++◌, All, Bool, true, false, sym, ap, subst, ◌∙◌, arith}
use Rattle.std.specs.FinMap as map
use Rattle.std.specs.FinSet.{FinSet}
use Rattle.svga_cmd.specs.Pages.{HasPage, IsKey, key_cmp}
use Rattle.svga_cmd.specs.Spelling.{Spells}
use Rattle.svga_cmd.specs.declared.command.Command.{Command}
use Rattle.svga_cmd.specs.declared.page.PageKey.{PageKey}
use Rattle.svga_cmd.specs.declared.session.Session.{Session}
use Rattle.svga_model.proofs.TouchLaws.{same_fault}
use Rattle.svga_model.specs.Acts.{Act, Do, IsAct}
use Rattle.svga_model.specs.Faults.{IsAdmissible}
use Rattle.svga_model.specs.Memories.{page_bytes}
use Rattle.svga_model.specs.States.{State}
use Rattle.svga_model.specs.Steps.{step}
use Rattle.svga_model.specs.Touches.{Touches}
use Rattle.svga_ring.proofs.Steps.Apart.{one_out, sound_apart}
use Rattle.svga_ring.proofs.Steps.Beside.{located_beside, requests_beside, stops_beside}
use Rattle.svga_ring.proofs.Acts.InHand.{IsSettledNext, is_next, no_chain, opening_of, settled_of, settles, touches_next}
use Rattle.svga_ring.proofs.Pages.Noted.{runs_unnoted}
use Rattle.svga_ring.proofs.Acts.Runs.{page_there}
use Rattle.svga_ring.proofs.Acts.Served.{IsDoneByKnown, IsKnownBefore, given_noted, home_bytes, is_cut, known_before, located_served}
use Rattle.svga_ring.proofs.Acts.Settled.{act_at}
use Rattle.svga_ring.proofs.Acts.DeviceKeys.{touched_key}
use Rattle.svga_ring.proofs.Words.Moves.{words_store_stop}
use Rattle.svga_ring.specs.Committed.{before, behind, settled}
use Rattle.svga_ring.specs.Conditions.{Can}
use Rattle.svga_ring.specs.Core.{Core, StoreStop, after, read_count}
use Rattle.svga_ring.specs.Layouts.{word_address}
use Rattle.svga_ring.specs.Noting.{bytes_at_home, known_state}
use Rattle.svga_ring.specs.Requests.{Request, is_chain_out}
use Rattle.svga_ring.specs.SharedTable.{stop_word}
use Rattle.svga_ring.specs.Sound.{IsSound}
use Rattle.svga_ring.specs.SoundPages.{AreClear, reached}

-- acts are clear as before, where one fewer has still to be done
clear_stop : (s : State) (acts : List Act) (n passed seen : ℕ) (lent : FinSet key_cmp) (request : Request)
    (answered : ℕ)
    → AreClear s acts n passed seen lent request answered
    → AreClear s acts (n + 1) passed seen lent request answered
clear_stop s acts n passed seen lent request answered o = record {
  with_driver_free = o.with_driver_free;
  request_free = o.request_free;
  later_puts = λ m key le. o.later_puts m key (omega (arith, le));
  request_later_puts = o.request_later_puts;
}

-- the state before the command in hand, and behind it
abbrev here : Session → Core → State
here k c = reached (opening_of k) c.device.done false c.driver.acts

abbrev then : Session → Core → State
then k c = reached (opening_of k) (c.device.done + 1) false c.driver.acts

module _ (k : Session) (c : Core) (command : Command) (o : IsSound k c)
    (spells : Spells command c.device.read) where
  -- each page that the command in hand touches is there
  page_here : (key : PageKey) → Touches (here k c) (Do command) key → HasPage (here k c).memory key
  page_here key touched =
      let acts : List Act = c.driver.acts in
      let n : ℕ = c.device.done in
      let all : All (IsAct k.limits) (before n acts ++ Do command ∷ behind n acts) =
      subst (λ l. All (IsAct k.limits) l) (act_at acts n command (is_next k c command o spells))
      o.of_words.acts.each in
      let is : IsKey k.limits key =
      touched_key k.limits k.first (before n acts) (Do command ∷ behind n acts) command key k.within.device
      all
      (sym ((settles k c command o spells).same_touches key) ∙ touched) in
      page_there k.limits k.first (settled n false acts) key is

  known_here : ((key : PageKey) → Touches (known_state c.device) (Do command) key
      → map.contains_key c.device.noted key ≡ true)
      → IsKnownBefore c.device.kept c.device.noted (here k c) (Do command)
  known_here all_noted =
      let acts : List Act = c.driver.acts in
      let e = c.device in
      let none = no_chain k c command o spells in
      record {
        same = o.runs.kept_is_run ∙ ap (λ out. (reached (opening_of k) e.done out acts).kept) none;
        there = page_here;
        firsts = λ key bytes back is. o.runs.noted_is_run key bytes back is
            ∙ ap (λ out. page_bytes (reached (opening_of k) e.done out acts).memory key) none;
        all_noted = all_noted;
      }

  -- It has no fault in what is settled,
  pub read_admits : IsAdmissible (here k c) (Do command)
  read_admits = (settles k c command o spells).admits

  -- and so none as far as the device knows the state, once all that it touches there is noted.
  pub known_admits : ((key : PageKey) → Touches (known_state c.device) (Do command) key
      → map.contains_key c.device.noted key ≡ true) → IsAdmissible (known_state c.device) (Do command)
  known_admits all_noted =
      let e = c.device in
      let known_so = known_here all_noted in
      same_fault (known_state e) (here k c) (Do command) known_so.same
      (known_before e.kept e.noted (here k c) (Do command) known_so) ∙ read_admits

module _ (k : Session) (c : Core) (command : Command) (o : IsSound k c) (can : Can (StoreStop command) c)
  where
    none : is_chain_out c.driver.request c.device.answered ≡ false
    none = no_chain k c command o can.1.read_whole

    next : IsSettledNext (opening_of k) c.driver.acts c.device.done command
    next = settles k c command o can.1.read_whole

    done_by_known : IsDoneByKnown c.device.kept c.device.noted (here k c) (Do command)
    done_by_known =
        let e = c.device in
        record {
          before = known_here k c command o can.1.read_whole
              (λ key touched. given_noted (map.get e.noted key) (can.1.all_given key touched));
          no_put = λ put. put;
          given = can.1.given;
          all_given = can.1.all_given;
          noted_touched = λ key is. next.same_touches key
              ∙ touches_next k c command o can.1.read_whole key (o.runs.noted_touched key is);
        }

    -- what is settled is its step further
    pub settled_step : then k c ≡ step (here k c) (Do command)
    settled_step = next.further

    -- and the device keeps what that leaves
    pub kept_step : (after (StoreStop command) c).device.kept ≡ (then k c).kept
    kept_step = (is_cut c.device.kept c.device.noted (here k c) (Do command) done_by_known).kept
        ∙ ap (λ (t : State). t.kept) (sym settled_step)

    pub keeps_stop : IsSound k (after (StoreStop command) c)
    keeps_stop =
        let d = c.driver in
        let e = c.device in
        let out : Bool = is_chain_out d.request e.answered in
        let x : ℕ = word_address e.layout (read_count e) in
        let s : State = settled_of k c in
        let t : State = reached (opening_of k) (e.done + 1) out d.acts in
        let is_here : s ≡ here k c = ap (λ b. reached (opening_of k) e.done b d.acts) none in
        let is_then : then k c ≡ t = ap (λ b. reached (opening_of k) (e.done + 1) b d.acts) (sym none) in
        let bytes : (key : PageKey) → bytes_at_home e.noted key (page_bytes s.memory key)
        ≡ page_bytes t.memory key =
        λ key.
        ap (λ r. bytes_at_home e.noted key (page_bytes r.memory key)) is_here
        ∙ home_bytes e.kept e.noted (here k c) (Do command) done_by_known key
        ∙ ap (λ r. page_bytes r.memory key) (sym settled_step ∙ is_then) in
        sound_apart can.0 (words_store_stop k c command o.of_words can)
        (located_served can.1.none_held bytes (located_beside stop_word x (omega arith) o.pages))
        (clear_stop (opening_of k) d.acts e.done d.passed d.seen d.lent d.request e.answered o.clear)
        (runs_unnoted (kept_step ∙ ap (λ (r : State). r.kept) is_then) (λ front rest id first is. (
        let less = o.runs.chains_done front rest id first is in
        omega (arith, less)
        ))) (requests_beside stop_word x (omega arith) (omega arith) (omega arith) o.requests)
        (stops_beside stop_word x (omega arith) o.stops) o.reserving (one_out o can.0)
