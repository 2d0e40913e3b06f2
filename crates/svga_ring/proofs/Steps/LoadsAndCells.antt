-- The steps that load a word, and those that store a cell or FENCE, keep all that is sound.
use Rattle.std.proofs.Common.{◌≡◌, ℕ, ◌≤◌, List, [], ◌∷◌, ◌++◌, length, slice_index, Bool, false, refl, sym, ap, subst, ◌∙◌, arith, rules, length-append}
use Rattle.std.proofs.lemmas.List.{take_all}
use Rattle.svga_cmd.specs.Spelling.{Spells}
use Rattle.svga_cmd.specs.declared.command.Command.{Command}
use Rattle.svga_cmd.specs.declared.page.PageKey.{PageKey}
use Rattle.svga_cmd.specs.declared.session.Session.{Session}
use Rattle.svga_cmd.specs.declared.session.Way.{Way}
use Rattle.svga_model.specs.Acts.{Act}
use Rattle.svga_model.specs.Sentences.{spelling_all}
use Rattle.svga_model.specs.States.{Kept, State}
use Rattle.svga_ring.proofs.Steps.Apart.{one_out, sound_apart}
use Rattle.svga_ring.proofs.Steps.Beside.{located_beside, requests_beside, stops_beside}
use Rattle.svga_ring.proofs.Acts.KnownDone.{clear_known}
use Rattle.svga_ring.proofs.Words.FenceOrder.{words_store_fence}
use Rattle.svga_ring.proofs.Acts.Settled.{all_before_chain}
use Rattle.svga_ring.proofs.Words.Turns.{is_cell}
use Rattle.svga_ring.proofs.Words.Moves.{words_load_cell, words_store_cell}
use Rattle.svga_ring.specs.Committed.{commands}
use Rattle.svga_ring.specs.Conditions.{Can}
use Rattle.svga_ring.specs.Core.{Core, LoadCell, LoadFence, LoadNext, LoadStop, StoreCell, StoreFence, after, put_count, read_count}
use Rattle.svga_ring.specs.Layouts.{IsLayout, word_cell}
use Rattle.svga_ring.specs.Noting.{NotedPages}
use Rattle.svga_ring.specs.Requests.{Request}
use Rattle.svga_ring.specs.SharedTable.{fence_word}
use Rattle.svga_ring.specs.Sound.{IsSound, IsSoundOfWords}
use Rattle.svga_ring.specs.SoundPages.{IsRunSoFar, TouchesInHand, by_chain, by_command}
use Rattle.svga_ring.specs.SoundStops.{IsStopping}
use Rattle.svga_ring.specs.SoundWords.{AreInOrder}

pub words_load_stop : (k : Session) (c : Core) → IsSoundOfWords k c → IsSoundOfWords k (after LoadStop c)
words_load_stop k c o = search rules

pub keeps_load_stop : (k : Session) (c : Core) → IsSound k c → Can LoadStop c → IsSound k (after LoadStop c)
keeps_load_stop k c o can = sound_apart can.0 (words_load_stop k c o.of_words) o.pages
    (clear_known c.device.done c.driver.seen o.of_words.known.passed_low (omega arith) o.clear) o.runs
    o.requests o.stops o.reserving (one_out o can.0)

pub words_load_fence : (k : Session) (c : Core) → IsSoundOfWords k c → IsSoundOfWords k (after LoadFence c)
words_load_fence k c o = search rules

pub keeps_load_fence : (k : Session) (c : Core) → IsSound k c → Can LoadFence c
    → IsSound k (after LoadFence c)
keeps_load_fence k c o can = sound_apart can.0 (words_load_fence k c o.of_words) o.pages
    (clear_known c.driver.passed _ (omega arith) o.of_words.fences.seen_passed o.clear) o.runs o.requests
    o.stops o.reserving (one_out o can.0)

pub words_load_next : (k : Session) (c : Core) → IsSoundOfWords k c → IsSoundOfWords k (after LoadNext c)
words_load_next k c o = search rules

pub keeps_load_next : (k : Session) (c : Core) → IsSound k c → Can LoadNext c → IsSound k (after LoadNext c)
keeps_load_next k c o can = sound_apart can.0 (words_load_next k c o.of_words) o.pages o.clear o.runs
    o.requests (record {
      config_is = o.stops.config_is;
      stopped_empty = o.stops.stopped_empty;
      stopped_whole = o.stops.stopped_whole;
      stopped_settled = o.stops.stopped_settled;
      loaded_stop = o.stops.loaded_stop;
      next_since_stop = λ saw. (saw, refl);
    }) o.reserving (one_out o can.0)

-- While a chain is out all commands are done, so all words that are sent are taken.
pub none_unread : {way : Way} {sent taken read : List ℕ} {done next : ℕ} (acts : List Act)
    → AreInOrder way (commands acts) sent taken read done next → length (commands acts) ≤ done
    → length sent ≤ length taken
none_unread {sent = sent} {done = done} acts o all =
    let cs = commands acts in
    let taken_all = ap length (o.taken_whole ∙ ap (λ l. spelling_all l) (take_all done cs all)) in
    omega (arith, taken_all, ap length o.acts_spelled, length-append sent o.rest)

-- A word more that is read: no command was in hand, and no chain is while words are sent.
runs_read : {s : State} {acts : List Act} {done : ℕ} {read : List ℕ} {kept : Kept} {noted : NotedPages}
    {request wanted : Request} {answered : ℕ} (more : List ℕ)
    → ((command : Command) → Spells command read → ⊥)
    → (length (commands acts) ≤ done → ⊥)
    → IsRunSoFar s acts done read kept noted request wanted answered
    → IsRunSoFar s acts done more kept noted request wanted answered
runs_read {s} {acts} {done} {read} {kept} {noted} {request} {wanted} {answered} more none_read some_left o =
    record {
      kept_is_run = o.kept_is_run;
      noted_is_run = o.noted_is_run;
      noted_touched = λ key is. absurd (none_in_hand key (o.noted_touched key is));
      chains_done = o.chains_done;
    }
  where
    none_in_hand : (key : PageKey) → TouchesInHand s acts done read request wanted answered key → ⊥
    none_in_hand key (by_command c spells touched) = none_read c spells
    none_in_hand key (by_chain empty out loaded touched) =
        some_left (all_before_chain request acts done touched.0 o.chains_done)

pub keeps_load_cell : (k : Session) (c : Core) → IsSound k c → Can LoadCell c → IsSound k (after LoadCell c)
keeps_load_cell k c o can =
    let order = o.of_words.order in
    let e = c.device in
    let left : length (commands c.driver.acts) ≤ e.done → ⊥ = λ all.
    (let none = none_unread c.driver.acts order all in omega (arith, none, can.1.0, order.known_sent)) in
    sound_apart can.0 (words_load_cell k c o.of_words can) o.pages o.clear
    (runs_read (e.read ++ slice_index c.words (word_cell e.layout (read_count e)) ∷ []) can.1.1 left
    o.runs) o.requests o.stops o.reserving (one_out o can.0)

-- More words may be pending, since the driver hasn't stopped.
stops_more : {words sent pending : List ℕ} {cs : List Command} {stopped saw_stopped drained : Bool}
    {next request last_reply : ℕ}
    (more : List ℕ) → stopped ≡ false
    → IsStopping words cs sent pending stopped saw_stopped drained next request last_reply
    → IsStopping words cs sent more stopped saw_stopped drained next request last_reply
stops_more more runs o = record {
  config_is = o.config_is;
  stopped_empty = λ q. absurd (cc (runs, q));
  stopped_whole = o.stopped_whole;
  stopped_settled = o.stopped_settled;
  loaded_stop = o.loaded_stop;
  next_since_stop = o.next_since_stop;
}

pub keeps_store_cell : (k : Session) (c : Core) (word : ℕ) → IsSound k c → Can (StoreCell word) c
    → IsSound k (after (StoreCell word) c)
keeps_store_cell k c word o can =
    let session = o.of_words.session in
    let d = c.driver in
    let i : ℕ = word_cell d.layout (put_count d) in
    let cell = is_cell d.layout (put_count d) (subst IsLayout (sym session.one_layout) session.layout) in
    let stops = stops_beside i word (omega (arith, cell.in_fifo)) o.stops in
    sound_apart can.0 (words_store_cell k c word o.of_words can)
    (located_beside i word (omega (arith, cell.in_fifo)) o.pages) o.clear o.runs
    (requests_beside i word (omega (arith, cell.in_fifo)) (omega (arith, cell.in_fifo))
    (omega (arith, cell.least)) o.requests) (stops_more (d.pending ++ word ∷ []) can.1.0.runs stops)
    (record {
      while_pending = λ way some. can.1.0.reserved way;
      none_by_dword = o.reserving.none_by_dword;
      stores_by_command = o.reserving.stores_by_command;
      stores_by_dword = o.reserving.stores_by_dword;
    }) (one_out o can.0)

pub keeps_store_fence : (k : Session) (c : Core) (value : ℕ) → IsSound k c → Can (StoreFence value) c
    → IsSound k (after (StoreFence value) c)
keeps_store_fence k c value o can = sound_apart can.0 (words_store_fence k c value o.of_words can)
    (located_beside fence_word value (omega arith) o.pages) o.clear o.runs
    (requests_beside fence_word value (omega arith) (omega arith) (omega arith) o.requests)
    (stops_beside fence_word value (omega arith) o.stops) o.reserving (one_out o can.0)
