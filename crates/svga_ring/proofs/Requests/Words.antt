-- The steps on requests that change no act: RESERVED is stored, the reply and the request are loaded.
use Rattle.std.proofs.Common.{◌≡◌, ◌≢◌, inl, inr, ℕ, ◌+◌, ◌*◌, ◌<◌, ◌^◌, List, length, slice_index, slice_set, refl, sym, ◌∙◌, arith, get_or-set_other, get_or-set_same}
use Rattle.svga_cmd.specs.declared.page.PageKey.{PageKey}
use Rattle.svga_cmd.specs.declared.session.Session.{Session}
use Rattle.svga_model.specs.Acts.{Act}
use Rattle.svga_model.specs.States.{State}
use Rattle.svga_ring.proofs.Steps.Apart.{one_out, sound_apart}
use Rattle.svga_ring.proofs.Steps.Beside.{located_beside, stops_beside, words_asked}
use Rattle.svga_ring.proofs.Words.Cells.{IsOpen, fixed_set, ring_beside}
use Rattle.svga_ring.proofs.Words.FenceOrder.{fences_beside}
use Rattle.svga_ring.proofs.Acts.InHand.{is_answered}
use Rattle.svga_ring.specs.Conditions.{Can}
use Rattle.svga_ring.specs.Core.{Core, LoadReply, LoadRequest, StoreReserved, after}
use Rattle.svga_ring.specs.Layouts.{Layout}
use Rattle.svga_ring.specs.Requests.{IsRequest, Request, request_of, request_value}
use Rattle.svga_ring.specs.SharedTable.{fence_word, reply_word, request_word, reserved_word}
use Rattle.svga_ring.specs.Sound.{IsSound, IsSoundOfWords}
use Rattle.svga_ring.specs.SoundPages.{TouchesInHand, by_chain, by_command}
use Rattle.svga_ring.specs.SoundRequests.{AreRequests}

-- RESERVED is no word of which AreFixed speaks
open_reserved : (lay : Layout) → IsOpen lay reserved_word
open_reserved lay = record {
  not_min = omega arith;
  not_capabilities = omega arith;
  not_fixed = λ f. f.not_reserved refl;
}

pub words_store_reserved : (k : Session) (c : Core) (value : ℕ) → IsSoundOfWords k c
    → IsSoundOfWords k (after (StoreReserved value) c)
words_store_reserved k c value o =
    let lay = c.device.layout in record {
      session = o.session;
      order = o.order;
      ring = ring_beside reserved_word value o.session.layout (omega arith, inl (omega arith)) o.ring;
      fixed = fixed_set _ _ lay _ reserved_word value (open_reserved lay) o.fixed;
      known = o.known;
      loads = o.loads;
      fences = fences_beside _ _ _ _ _ _ _ _ _
          (get_or-set_other c.words reserved_word fence_word value 0 (omega arith)) o.fences;
      acts = o.acts;
    }

requests_reserved : {words : List ℕ} {acts : List Act} {request wanted : Request}
    {answered last_reply reserved : ℕ}
    (value : ℕ) → reserved_word < length words
    → AreRequests words acts request wanted answered last_reply reserved
    → AreRequests (slice_set words reserved_word value) acts request wanted answered last_reply value
requests_reserved {words = words} value inside o = record {
  request_is = get_or-set_other words reserved_word request_word value 0 (omega arith) ∙ o.request_is;
  reply_is = get_or-set_other words reserved_word reply_word value 0 (omega arith) ∙ o.reply_is;
  out_is_open = o.out_is_open;
  out_is_last_chain = o.out_is_last_chain;
  loaded_is = o.loaded_is;
  reserved_is = get_or-set_same words reserved_word value 0 inside;
  fits = o.fits;
  answered_fits = o.answered_fits;
  no_ring = o.no_ring;
}

pub keeps_store_reserved : (k : Session) (c : Core) (value : ℕ) → IsSound k c → Can (StoreReserved value) c
    → IsSound k (after (StoreReserved value) c)
keeps_store_reserved k c value o can = sound_apart can.0 (words_store_reserved k c value o.of_words)
    (located_beside reserved_word value (omega arith) o.pages) o.clear o.runs
    (requests_reserved value (omega (arith, o.of_words.fixed.length_is)) o.requests)
    (stops_beside reserved_word value (omega arith) o.stops)
    (record {
      while_pending = λ way some. absurd (some can.1.1);
      none_by_dword = λ way. (let reserves = can.1.0 in absurd (cc (way, reserves)));
      stores_by_command = o.reserving.stores_by_command;
      stores_by_dword = o.reserving.stores_by_dword;
    }) (one_out o can.0)

-- Once the reply is loaded, a request is open to the driver just where it is out.
pub keeps_load_reply : (k : Session) (c : Core) → IsSound k c → Can LoadReply c
    → IsSound k (after LoadReply c)
keeps_load_reply k c o can =
    let requests = o.requests in
    let stops = o.stops in
    sound_apart can.0 (words_asked o.of_words) o.pages o.clear o.runs (record {
      request_is = requests.request_is;
      reply_is = requests.reply_is;
      out_is_open = λ out same. out (same ∙ requests.reply_is);
      out_is_last_chain = requests.out_is_last_chain;
      loaded_is = requests.loaded_is;
      reserved_is = requests.reserved_is;
      fits = requests.fits;
      answered_fits = requests.answered_fits;
      no_ring = requests.no_ring;
    }) (record {
      config_is = stops.config_is;
      stopped_empty = stops.stopped_empty;
      stopped_whole = stops.stopped_whole;
      stopped_settled = λ q. is_answered o (stops.stopped_settled q) ∙ sym requests.reply_is;
      loaded_stop = stops.loaded_stop;
      next_since_stop = stops.next_since_stop;
    }) o.reserving (one_out o can.0)

-- The act in hand touches what it touched, once the request is loaded again.
hand_loaded : {s : State} {acts : List Act} {done : ℕ} {read : List ℕ} {request wanted : Request}
    {answered : ℕ}
    {key : PageKey} → TouchesInHand s acts done read request wanted answered key
    → TouchesInHand s acts done read request request answered key
hand_loaded (by_command c spells touched) = by_command c spells touched
hand_loaded (by_chain none out loaded touched) = by_chain none out refl touched

pub keeps_load_request : (k : Session) (c : Core) → IsSound k c → Can LoadRequest c
    → IsSound k (after LoadRequest c)
keeps_load_request k c o can =
    let requests = o.requests in
    let runs = o.runs in
    sound_apart can.0 (words_asked o.of_words) o.pages o.clear (record {
      kept_is_run = runs.kept_is_run;
      noted_is_run = runs.noted_is_run;
      noted_touched = λ key is. hand_loaded (runs.noted_touched key is);
      chains_done = runs.chains_done;
    }) (record {
      request_is = requests.request_is;
      reply_is = requests.reply_is;
      out_is_open = requests.out_is_open;
      out_is_last_chain = requests.out_is_last_chain;
      loaded_is = inl refl;
      reserved_is = requests.reserved_is;
      fits = requests.fits;
      answered_fits = requests.answered_fits;
      no_ring = requests.no_ring;
    }) o.stops o.reserving (one_out o can.0)

-- A word tells one request.
same_parts : (n i d m j e : ℕ) → i < 2 ^ 12 → d < 2 ^ 32 → j < 2 ^ 12 → e < 2 ^ 32
    → n * 2 ^ 44 + i * 2 ^ 32 + d ≡ m * 2 ^ 44 + j * 2 ^ 32 + e → (n ≡ m) × (i ≡ j) × (d ≡ e)
same_parts n i d m j e i_low d_low j_low e_low same =
    let first : n ≡ m = omega arith in
    let second : i ≡ j = omega arith in
    (first, second, omega arith)

pub same_request : (a b : Request) → IsRequest a → IsRequest b → request_value a ≡ request_value b → a ≡ b
same_request a b of_a of_b e =
    let parts = same_parts a.number a.id a.descriptor b.number b.id b.descriptor of_a.id_fits
    of_a.descriptor_fits
    of_b.id_fits of_b.descriptor_fits e in
    λ t. record { number = parts.0 t; id = parts.1 t; descriptor = parts.2 t }

-- Each word of 64 bits stands for one, and each request is such a word.
pub word_of : (word : ℕ) → word < 2 ^ 64 → IsRequest (request_of word)
    × (request_value (request_of word) ≡ word)
word_of word low = (
  record { number_fits = omega arith; id_fits = omega arith; descriptor_fits = omega arith },
  omega arith,
)

pub value_fits : (r : Request) → IsRequest r → request_value r < 2 ^ 64
value_fits r is = omega (arith, is.number_fits, is.id_fits, is.descriptor_fits)

-- A load of the request tells it, and one of the reply which request was answered last.
pub request_tells : (k : Session) (c : Core) (r : Request) → IsSound k c → IsRequest r
    → request_value r ≡ slice_index c.words request_word → r ≡ c.driver.request
request_tells k c r o fits e = same_request r c.driver.request fits o.requests.fits
    (e ∙ o.requests.request_is)

-- One that was loaded, and wasn't answered, is the driver's.
pub wanted_is : {words : List ℕ} {acts : List Act} {request wanted : Request}
    {answered last_reply reserved : ℕ}
    → AreRequests words acts request wanted answered last_reply reserved → wanted.number ≢ answered
    → wanted ≡ request
wanted_is {request = request} {wanted = wanted} o waits = elim o.loaded_is as (λ _. wanted ≡ request) [
  | inl is ↦ is
  | inr done ↦ absurd (waits done)
]
