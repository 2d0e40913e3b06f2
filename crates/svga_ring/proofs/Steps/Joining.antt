-- Splitting, stopping and joining, and what the joined seat knows.
use Rattle.std.proofs.Common.{◌≡◌, ℕ, ◌<◌, ◌≤◌, List, [], ◌++◌, length, slice_index, slice_set, Bool, true, false, if◌then◌else◌, Some, None, unwrap_or, refl, sym, ap, ◌∙◌, arith, append-nil, length-append, get_or-set_same}
use Rattle.std.proofs.lemmas.List.{nil_from_length}
use Rattle.std.specs.FinMap as map
use lib.ListN.{get_elem?}
use mathlib.Core.Option as maybe
use Rattle.svga_cmd.specs.Pages.{IsKey}
use Rattle.svga_cmd.specs.declared.command.Command.{Command}
use Rattle.svga_cmd.specs.declared.page.PageKey.{PageKey}
use Rattle.svga_cmd.specs.declared.session.Session.{Session}
use Rattle.svga_cmd.specs.declared.session.Way.{Way}
use Rattle.svga_model.proofs.GrammarSpelled.{spelled_some}
use Rattle.svga_model.specs.Fences.{fences, register_after}
use Rattle.svga_model.specs.Memories.{page_bytes}
use Rattle.svga_model.specs.Runs.{run}
use Rattle.svga_model.specs.States.{State, opening_state}
use Rattle.svga_model.specs.Touches.{is_page}
use Rattle.svga_ring.proofs.Steps.Apart.{one_out, sound_apart}
use Rattle.svga_ring.proofs.Acts.Append.{there}
use Rattle.svga_ring.proofs.Steps.Beside.{located_beside, requests_beside, stops_beside, words_beside}
use Rattle.svga_ring.proofs.Acts.KnownDone.{clear_known, clear_take, known_done_least}
use Rattle.svga_ring.proofs.Words.FenceOrder.{last_fence}
use Rattle.svga_ring.proofs.Acts.InHand.{IsTouchedInHand, is_answered, none_out, opening_of, settled_of}
use Rattle.svga_ring.proofs.Words.Order.{sent_whole}
use Rattle.svga_ring.proofs.Words.Told.{all_done, stop_tells}
use Rattle.svga_ring.proofs.Pages.Noted.{back_unnoted, held_unnoted, none_noted}
use Rattle.svga_ring.proofs.Pages.Moves.{key_of, left_is, limits_of, moved}
use Rattle.svga_ring.proofs.Pages.Locations.{found_at_home, not_out, pages_take, word_at_home}
use Rattle.svga_ring.proofs.Acts.Settled.{settled_all}
use Rattle.svga_model.specs.Sentences.{spelling_all}
use Rattle.svga_ring.specs.Committed.{commands}
use Rattle.svga_ring.specs.Conditions.{Can}
use Rattle.svga_ring.specs.Core.{Core, Join, Split, StoreConfig, TakeJoined, after}
use Rattle.svga_ring.specs.Layouts.{Layout, word_address}
use Rattle.svga_ring.specs.Noting.{given_back, holds}
use Rattle.svga_ring.specs.SharedTable.{config_word, fence_word, max_word, next_word, page_word, slot_number, stop_word}
use Rattle.svga_ring.specs.Sound.{IsSound, IsSoundOfWords}
use Rattle.svga_ring.specs.SoundPages.{TouchesAt, by_chain, by_command, known_done, reached}
use Rattle.svga_ring.specs.SoundStops.{IsStopping}
use Rattle.svga_ring.specs.SoundWords.{AreInOrder, AreInRing}
use Rattle.svga_ring.specs.TableSteps.{page_left}
use Rattle.svga_ring.specs.Views.{Joined}

-- The seats are split: nothing else changes.
pub words_split : (k : Session) (c : Core) → IsSoundOfWords k c → Can Split c
    → IsSoundOfWords k (after Split c)
words_split k c o opening = record {
  session = o.session;
  order = o.order;
  ring = o.ring;
  fixed = o.fixed;
  known = o.known;
  loads = record {
    stop_is = λ apart. o.loads.stop_is (λ e. absurd (cc (opening, e)));
    next_is = o.loads.next_is;
  };
  fences = o.fences;
  acts = o.acts;
}

pub keeps_split : (k : Session) (c : Core) → IsSound k c → Can Split c → IsSound k (after Split c)
keeps_split k c o opening = sound_apart refl (words_split k c o.of_words opening) o.pages o.clear o.runs
    o.requests
    o.stops o.reserving (o.one_slot (λ e. absurd (cc (opening, e))))

-- with no word pending and no request open the driver stops
stops_config : {words sent pending : List ℕ} {cs : List Command} {stopped saw_stopped drained : Bool}
    {next request last_reply : ℕ}
    → config_word < length words → pending ≡ [] → spelling_all cs ≡ sent → request ≡ last_reply
    → IsStopping words cs sent pending stopped saw_stopped drained next request last_reply
    → IsStopping (slice_set words config_word 0) cs sent pending true saw_stopped drained next request
    last_reply
stops_config {words = words} inside none whole settled o = record {
  config_is = get_or-set_same words config_word 0 0 inside;
  stopped_empty = λ e. none;
  stopped_whole = λ e. whole;
  stopped_settled = λ e. settled;
  loaded_stop = λ e. refl;
  next_since_stop = o.next_since_stop;
}

pub keeps_store_config : (k : Session) (c : Core) → IsSound k c → Can StoreConfig c
    → IsSound k (after StoreConfig c)
keeps_store_config k c o can = sound_apart can.0 (words_beside config_word 0 (omega arith) o.of_words)
    (located_beside config_word 0 (omega arith) o.pages) o.clear o.runs
    (requests_beside config_word 0 (omega arith) (omega arith) (omega arith) o.requests)
    (stops_config (omega (arith, o.of_words.fixed.length_is)) can.1.none_pending
    (sent_whole o.of_words.order can.1.all_sent)
    can.1.none_open o.stops) o.reserving
    (one_out o can.0)

-- all acts are settled where all words are taken and no request is out
reached_all : (k : Session) (c : Core) → IsSound k c → c.driver.sent ≡ c.device.taken
    → c.driver.request.number ≡ c.device.answered → settled_of k c ≡ run (opening_of k) c.driver.acts
reached_all k c o all same =
    let done = all_done o.of_words all in
    ap (λ out. reached (opening_of k) c.device.done out c.driver.acts)
    (none_out c.driver.request c.device.answered same)
    ∙ ap (run (opening_of k)) (settled_all c.driver.acts c.device.done (omega (arith, done)))

-- so the device keeps what running all acts leaves
pub all_taken_kept : (k : Session) (c : Core) → IsSound k c → c.driver.sent ≡ c.device.taken
    → c.driver.request.number ≡ c.device.answered
    → c.device.kept ≡ (run (opening_state k.limits k.first) c.driver.acts).kept
all_taken_kept k c o all same = o.runs.kept_is_run ∙ ap (λ (s : State). s.kept) (reached_all k c o all same)

-- and so does each page at home that isn't given back for an act
pub all_taken_page : (k : Session) (c : Core) (key : PageKey) → IsSound k c → c.driver.sent ≡ c.device.taken
    → c.driver.request.number ≡ c.device.answered
    → IsKey k.limits key → slice_index c.words (page_word k.limits key) ≡ 1
    → given_back c.device.noted key ≡ None
    → get_elem? c.homes (slot_number k.limits key)
    ≡ maybe.some (maybe.some (Some (page_bytes (run (opening_state k.limits k.first) c.driver.acts).memory
    key)))
all_taken_page k c key o all same is word none =
    let at = word_at_home (o.pages.location key) (o.pages.each key is) word in
    let old : List ℕ = page_bytes (settled_of k c).memory key in
    at.home_is ∙ ap (λ back. maybe.some (maybe.some (Some (unwrap_or back old)))) none
    ∙ ap (λ (t : State). maybe.some (maybe.some (Some (page_bytes t.memory key))))
    (reached_all k c o all same)

-- Nothing is noted where no act is in hand.
none_in_hand : (k : Session) (c : Core) (key : PageKey) → c.device.read ≡ []
    → c.driver.request.number ≡ c.device.answered → IsTouchedInHand k c key → ⊥
none_in_hand k c key none same (by_command command spells touched) =
    omega (arith, spelled_some command c.device.read spells, ap length none)
none_in_hand k c key none same (by_chain empty out loaded touched) =
    let off = none_out c.driver.request c.device.answered same in cc (off, out)

-- what the device has noted where it has nothing in hand
module _ (k : Session) (c : Core) (o : IsSound k c) (none : c.device.read ≡ [])
    (same : c.driver.request.number ≡ c.device.answered) where
  idle : (key : PageKey) → map.get c.device.noted key ≡ None
  idle key = none_noted c.device.noted key
      (λ is. none_in_hand k c key none same (o.runs.noted_touched key is))

  pub idle_held : (key : PageKey) → holds c.device.noted key ≡ false
  idle_held key = held_unnoted c.device.noted key (idle key)

  idle_back : (key : PageKey) → given_back c.device.noted key ≡ None
  idle_back key = back_unnoted c.device.noted key (idle key)

-- what the joined seat knows of the words,
abbrev KnowsWords : Session → Core → Type 0
KnowsWords k c = (slice_index c.words max_word ≡ c.driver.layout.max)
    × (slice_index c.words next_word ≡ word_address c.driver.layout (length c.driver.sent))
    × (slice_index c.words stop_word ≡ word_address c.driver.layout (length c.driver.sent))
    × (slice_index c.words fence_word ≡ register_after k.first (length (fences (commands c.driver.acts))))
    × (slice_index c.words config_word ≡ 0)

pub joined_words : (k : Session) (c : Core) → IsSound k c → c.seats ≡ Joined → KnowsWords k c
joined_words k c o seats =
    let d = c.driver in
    let e = c.device in
    let words = o.of_words in
    let is = o.joined seats in
    let one : e.layout ≡ d.layout = sym words.session.one_layout in (
      words.ring.max_is ∙ ap (λ (lay : Layout). lay.max) one,
      words.ring.next_is ∙ ap (λ lay. word_address lay (length d.sent)) one,
      words.ring.stop_is ∙ (λ i. word_address (one i) (length (sym is.all_taken i))),
      last_fence words (all_done words is.all_taken),
      o.stops.config_is ∙ ap (λ b. if b then 0 else 1) is.stopped,
    )

-- of what the device kept,
pub joined_kept : (k : Session) (c : Core) → IsSound k c → c.seats ≡ Joined
    → c.device.kept ≡ (run (opening_state k.limits k.first) c.driver.acts).kept
joined_kept k c o seats =
    let is = o.joined seats in all_taken_kept k c o is.all_taken
    (is_answered o (o.stops.stopped_settled is.stopped))

-- and of each page that it may take.
pub joined_page : (k : Session) (c : Core) (key : PageKey) → IsSound k c → Can (TakeJoined key) c
    → get_elem? c.homes (slot_number k.limits key)
    ≡ maybe.some (maybe.some (Some (page_bytes (run (opening_state k.limits k.first) c.driver.acts).memory
    key)))
joined_page k c key o can =
    let is = o.joined can.0 in
    let same = is_answered o (o.stops.stopped_settled is.stopped) in
    let here : IsKey k.limits key = key_of key o can.1.0 in
    let at = found_at_home (o.pages.location key) (o.pages.each key here) can.1.1 (is.none_held key) in
    all_taken_page k c key o is.all_taken same here at.word_is (idle_back k c o is.none_read same key)

-- and as the seat knows it
pub joined_page_known : (k : Session) (c : Core) (key : PageKey) → IsSound k c → Can (TakeJoined key) c
    → get_elem? c.homes (slot_number c.driver.terms.limits key)
    ≡ maybe.some (maybe.some (Some (page_left c.driver key)))
joined_page_known k c key o can =
    ap (λ l. get_elem? c.homes (slot_number l key)) (limits_of o) ∙ joined_page k c key o can
    ∙ ap (λ b. maybe.some (maybe.some (Some b))) (sym (left_is k c key o))

-- No command that isn't taken touches a page of a table that is joined: there is none.
none_untaken : (k : Session) (c : Core) (n : ℕ) (key : PageKey) → IsSound k c → c.seats ≡ Joined
    → known_done c.driver.acts c.driver.passed c.driver.seen ≤ n
    → TouchesAt (opening_of k) c.driver.acts n key → ⊥
none_untaken k c n key o seats past touched =
    let is = o.joined seats in
    let low = there (opening_of k) c.driver.acts n key touched in
    let least = known_done_least c.driver.acts c.driver.passed c.driver.seen in
    omega (arith, past, low, least, is.passed_is, all_done o.of_words is.all_taken)

pub keeps_take_joined : (k : Session) (c : Core) (key : PageKey) → IsSound k c → Can (TakeJoined key) c
    → IsSound k (after (TakeJoined key) c)
keeps_take_joined k c key o can =
    let d = c.driver in
    let e = c.device in
    let is = o.joined can.0 in
    let i : ℕ = page_word d.terms.limits key in
    let off = none_out d.request e.answered (is_answered o (o.stops.stopped_settled is.stopped)) in
    record {
      of_words = words_beside i 3 (omega arith) o.of_words;
      pages = moved k c d.terms.limits key 3 maybe.none (limits_of o)
          (pages_take key (key_of key o can.1.0) o.of_words.fixed.length_is can.1.1 (is.none_held key)
          o.pages);
      clear = clear_take key (λ n. none_untaken k c n key o can.0) off o.clear;
      runs = o.runs;
      requests = requests_beside i 3 (omega arith) (omega arith) (omega arith) o.requests;
      stops = stops_beside i 3 (omega arith) o.stops;
      reserving = o.reserving;
      opening = λ q. absurd (let joined = can.0 in cc (joined, q));
      one_slot = λ apart. absurd (apart can.0);
      joined = λ q. record {
        all_taken = is.all_taken;
        stop_is = is.stop_is;
        passed_is = is.passed_is;
        none_read = is.none_read;
        none_pending = is.none_pending;
        stopped = is.stopped;
        none_held = is.none_held;
        none_out = is.none_out;
      };
    }

-- Where the count of words taken has the address of that of words sent, all that are sent are taken, and none
-- is read.
record AreTaken (sent taken read : List ℕ) : Type 0 where
  all : sent ≡ taken
  none : read ≡ []

all_words_taken : {way : Way} {lay : Layout} {cs : List Command} {sent pending taken read words : List ℕ}
    {done next stop : ℕ}
    → AreInOrder way cs sent taken read done next → AreInRing lay words sent pending taken stop
    → next ≡ length sent → word_address lay next ≡ word_address lay (length taken) → AreTaken sent taken read
all_words_taken {taken = taken} {read = read} {next = next} {stop = stop} order ring known e =
    let low : stop ≤ next = omega (arith, ring.known_stop, order.read_known) in
    let same = stop_tells order ring next low order.known_sent (e ∙ sym ring.stop_is) in
    let count = ap length order.read_follows_sent in
    let parts = length-append (taken ++ read) order.ahead in
    let front = length-append taken read in
    let none : read ≡ [] = nil_from_length read (omega (arith, known, same, count, parts, front)) in
    let ahead : order.ahead ≡ [] = nil_from_length order.ahead
    (omega (arith, known, same, count, parts, front)) in
    record {
      all = order.read_follows_sent ∙ (λ i. (taken ++ none i) ++ ahead i) ∙ append-nil (taken ++ [])
          ∙ append-nil taken;
      none = none;
    }

-- The driver's view is told all that is taken,
pub words_join : (k : Session) (c : Core) → IsSoundOfWords k c → IsSoundOfWords k (after Join c)
words_join k c o =
    let ring = o.ring in
    record {
      session = o.session;
      order = o.order;
      ring = record {
        next_is = ring.next_is;
        stop_is = ring.stop_is;
        max_is = ring.max_is;
        base_known = omega (arith, ring.base_known, ring.known_stop);
        known_stop = omega arith;
        room = omega (arith, ring.room, ring.known_stop);
        cells = ring.cells;
        dwords = ring.dwords;
        short = ring.short;
      };
      fixed = o.fixed;
      known = record { passed_low = omega arith; stop_is = ap length o.order.taken_whole };
      loads = record { stop_is = λ apart. absurd (apart refl); next_is = o.loads.next_is };
      fences = o.fences;
      acts = o.acts;
    }

-- and the seats are joined: no word is under way, and each page that isn't with the driver is at home.
module _ (k : Session) (c : Core) (o : IsSound k c) (can : Can Join c) where
  drained : (c.device.saw_stopped ≡ true) × (c.device.next ≡ length c.driver.sent)
  drained = o.stops.next_since_stop can.1.1

  has_stopped : c.driver.stopped ≡ true
  has_stopped = o.stops.loaded_stop drained.0

  are_taken : AreTaken c.driver.sent c.device.taken c.device.read
  are_taken =
      all_words_taken o.of_words.order o.of_words.ring drained.1 (sym o.of_words.loads.next_is ∙ can.1.2)

  not_held : (key : PageKey) → holds c.device.noted key ≡ false
  not_held = idle_held k c o are_taken.none (is_answered o (o.stops.stopped_settled has_stopped))

  no_slot : (key : PageKey) → IsKey c.driver.terms.limits key → is_page key c.device.out ≡ false
  no_slot key is = not_out (o.pages.location key) (o.pages.each key (key_of key o is)) (not_held key)

  pub keeps_join : IsSound k (after Join c)
  keeps_join = record {
    of_words = words_join k c o.of_words;
    pages = o.pages;
    clear = clear_known c.device.done c.driver.seen o.of_words.known.passed_low (omega arith) o.clear;
    runs = o.runs;
    requests = o.requests;
    stops = o.stops;
    reserving = o.reserving;
    opening = λ q. absurd (cc q);
    one_slot = λ apart. absurd (apart refl);
    joined = λ q. record {
      all_taken = are_taken.all;
      stop_is = refl;
      passed_is = refl;
      none_read = are_taken.none;
      none_pending = o.stops.stopped_empty has_stopped;
      stopped = has_stopped;
      none_held = not_held;
      none_out = no_slot;
    };
  }
