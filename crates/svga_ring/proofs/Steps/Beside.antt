-- A store to one word leaves what is said of the others.
use Rattle.std.proofs.Common.{◌≡◌, ◌≢◌, inr, ℕ, ◌<◌, ◌≤◌, List, [], ◌∷◌, ◌++◌, slice_index, slice_set, Bool, Option, sym, subst, ◌∙◌, arith, get_or-set_other}
use Rattle.std.specs.FinSet.{FinSet}
use Rattle.svga_cmd.specs.Pages.{key_cmp}
use Rattle.svga_cmd.specs.declared.command.Command.{Command}
use Rattle.svga_cmd.specs.declared.limits.Limits.{Limits}
use Rattle.svga_cmd.specs.declared.page.PageKey.{PageKey}
use Rattle.svga_cmd.specs.declared.session.Session.{Session}
use Rattle.svga_cmd.specs.declared.session.Way.{Way}
use Rattle.svga_model.specs.Acts.{Act, IsAct}
use Rattle.svga_model.specs.Faults.{IsAdmissible}
use Rattle.svga_model.specs.Runs.{run}
use Rattle.svga_model.specs.States.{Kept, State, opening_state}
use Rattle.svga_ring.proofs.Acts.Append.{acts_more, commands_still}
use Rattle.svga_ring.proofs.Words.Cells.{fixed_set, open_behind, ring_beside}
use Rattle.svga_ring.proofs.Words.FenceOrder.{fences_beside}
use Rattle.svga_ring.specs.Committed.{commands}
use Rattle.svga_ring.specs.Core.{Core, with_driver}
use Rattle.svga_ring.specs.Noting.{NotedPages}
use Rattle.svga_ring.specs.Locations.{Home}
use Rattle.svga_ring.specs.Requests.{Request}
use Rattle.svga_ring.specs.SharedTable.{config_word, fence_word, fifo_dwords, first_page_word, page_word, reply_word, request_word, reserved_word}
use Rattle.svga_ring.specs.Sound.{IsSoundOfWords}
use Rattle.svga_ring.specs.SoundFences.{AreFencesInOrder}
use Rattle.svga_ring.specs.SoundPages.{AreLocated}
use Rattle.svga_ring.specs.SoundRequests.{AreRequests, IsReserving}
use Rattle.svga_ring.specs.SoundStops.{IsStopping}
use Rattle.svga_ring.specs.SoundWords.{AreInOrder, IsKnownWhole}
use Rattle.svga_ring.specs.Views.{Loads}

-- What is sound of words speaks of no word behind the FIFO, and neither of pages nor of stopping.
pub words_beside : {k : Session} {c : Core} {homes : List Home} {lent driver_out : FinSet key_cmp}
    {stopped : Bool}
    {noted : NotedPages} {device_out : Option PageKey} (i x : ℕ) → fifo_dwords ≤ i → IsSoundOfWords k c
    → IsSoundOfWords k (record c {
      words = slice_set c.words i x;
      homes = homes;
      driver = record c.driver { lent = lent; out = driver_out; stopped = stopped };
      device = record c.device { noted = noted; out = device_out };
    })
words_beside {c = c} i x behind o =
    let lay = c.device.layout in record {
      session = o.session;
      order = o.order;
      ring = ring_beside i x o.session.layout (omega (arith, behind), inr behind) o.ring;
      fixed = fixed_set _ _ lay _ i x (open_behind lay i behind) o.fixed;
      known = o.known;
      loads = o.loads;
      fences = fences_beside _ _ _ _ _ _ _ _ _
          (get_or-set_other c.words i fence_word x 0 (omega (arith, behind))) o.fences;
      acts = o.acts;
    }

-- nor does it speak of requests, of their loads, or of what is kept;
pub words_asked : {k : Session} {c : Core} {request wanted : Request} {reserved answered : ℕ}
    {reply_loads request_loads : Loads} {kept : Kept} → IsSoundOfWords k c
    → IsSoundOfWords k (record c {
      driver = record c.driver { request = request; reserved = reserved; reply_loads = reply_loads };
      device = record c.device {
        kept = kept;
        wanted = wanted;
        answered = answered;
        request_loads = request_loads;
      };
    })
words_asked o = record {
  session = o.session;
  order = o.order;
  ring = o.ring;
  fixed = o.fixed;
  known = o.known;
  loads = o.loads;
  fences = o.fences;
  acts = o.acts;
}

-- and an act more that is no command is no word.
pub words_act : (k : Session) (c : Core) (x : Act) → commands (x ∷ []) ≡ [] → IsAct k.limits x
    → IsAdmissible (run (opening_state k.limits k.first) c.driver.acts) x → IsSoundOfWords k c
    → IsSoundOfWords k (with_driver c (record c.driver { acts = c.driver.acts ++ x ∷ [] }))
words_act k c x none is admissible o =
    let d = c.driver in
    let e = c.device in
    let same = sym (commands_still d.acts x none) in record {
      session = o.session;
      order = subst (λ cs. AreInOrder d.terms.way cs d.sent e.taken e.read e.done e.next) same o.order;
      ring = o.ring;
      fixed = o.fixed;
      known = subst (λ cs. IsKnownWhole cs e.done d.stop d.passed) same o.known;
      loads = o.loads;
      fences = subst
          (λ cs. AreFencesInOrder k.first cs e.done e.read e.stored
          (slice_index c.words fence_word) d.seen d.fence_loads.last) same o.fences;
      acts = acts_more k.limits k.first d.acts x is admissible o.acts;
    }

-- What is said of pages speaks of their words alone,
pub located_beside : {l : Limits} {words : List ℕ} {homes : List Home} {s : State}
    {lent driver_out : FinSet key_cmp}
    {noted : NotedPages} {device_out : Option PageKey} (i x : ℕ) → i < first_page_word
    → AreLocated l words homes s lent driver_out noted device_out
    → AreLocated l (slice_set words i x) homes s lent driver_out noted device_out
located_beside {l = l} {words = words} i x low o = record {
  slots = o.slots;
  location = o.location;
  each = λ key is.
      let at = o.each key is in record {
        word_is = get_or-set_other words i (page_word l key) x 0 (omega (arith, low)) ∙ at.word_is;
        home_is = at.home_is;
        lent_is = at.lent_is;
        held_is = at.held_is;
        driver_out_is = at.driver_out_is;
        device_out_is = at.device_out_is;
      };
}

-- what is said of requests of three words,
pub requests_beside : {words : List ℕ} {acts : List Act} {request wanted : Request}
    {answered last_reply reserved : ℕ}
    (i x : ℕ) → i ≢ request_word → i ≢ reply_word → i ≢ reserved_word
    → AreRequests words acts request wanted answered last_reply reserved
    → AreRequests (slice_set words i x) acts request wanted answered last_reply reserved
requests_beside {words = words} i x no_request no_reply no_reserved o = record {
  request_is = get_or-set_other words i request_word x 0 (λ e. no_request (sym e)) ∙ o.request_is;
  reply_is = get_or-set_other words i reply_word x 0 (λ e. no_reply (sym e)) ∙ o.reply_is;
  out_is_open = o.out_is_open;
  out_is_last_chain = o.out_is_last_chain;
  loaded_is = o.loaded_is;
  reserved_is = get_or-set_other words i reserved_word x 0 (λ e. no_reserved (sym e)) ∙ o.reserved_is;
  fits = o.fits;
  answered_fits = o.answered_fits;
  no_ring = o.no_ring;
}

-- and what is said of stopping of CONFIG_DONE.
pub stops_beside : {words sent pending : List ℕ} {cs : List Command} {stopped saw_stopped drained : Bool}
    {next request last_reply : ℕ}
    (i x : ℕ) → i ≢ config_word
    → IsStopping words cs sent pending stopped saw_stopped drained next request last_reply
    → IsStopping (slice_set words i x) cs sent pending stopped saw_stopped drained next request last_reply
stops_beside {words = words} i x other o = record {
  config_is = get_or-set_other words i config_word x 0 (λ e. other (sym e)) ∙ o.config_is;
  stopped_empty = o.stopped_empty;
  stopped_whole = o.stopped_whole;
  stopped_settled = o.stopped_settled;
  loaded_stop = o.loaded_stop;
  next_since_stop = o.next_since_stop;
}

-- An act more that is no command leaves what is said of stopping, and of the stores of NEXT_CMD.
module _ (acts : List Act) (x : Act) (none : commands (x ∷ []) ≡ []) where
  pub stops_act : {words sent pending : List ℕ} {stopped saw_stopped drained : Bool}
      {next request last_reply : ℕ}
      → IsStopping words (commands acts) sent pending stopped saw_stopped drained next request last_reply
      → IsStopping words (commands (acts ++ x ∷ [])) sent pending stopped saw_stopped drained next request
      last_reply
  stops_act {words} {sent} {pending} {stopped} {saw_stopped} {drained} {next} {request} {last_reply} =
      subst (λ cs. IsStopping words cs sent pending stopped saw_stopped drained next request last_reply)
      (sym (commands_still acts x none))

  pub reserving_act : {way : Way} {sent pending : List ℕ} {reserved next_stores : ℕ}
      → IsReserving way (commands acts) sent pending reserved next_stores
      → IsReserving way (commands (acts ++ x ∷ [])) sent pending reserved next_stores
  reserving_act {way} {sent} {pending} {reserved} {next_stores} =
      subst (λ cs. IsReserving way cs sent pending reserved next_stores) (sym (commands_still acts x none))
