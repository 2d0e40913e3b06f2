-- A session opens sound: no act is made, and each page is with the driver.
use Rattle.std.proofs.Common.{◌≡◌, ℕ, zero, suc, ◌-◌, ◌<◌, inl, List, [], ◌∷◌, ◌++◌, length, slice_index, replicate, false, None, refl, ap, arith, length-append}
use Rattle.std.proofs.lemmas.List.{length-replicate}
use Rattle.std.proofs.lemmas.Option.{none-some}
use Rattle.std.specs.FinMap as map
use Rattle.std.specs.FinMap.{get-empty}
use Rattle.std.specs.FinSet as set
use Rattle.std.specs.FinSet.{FinSet, contains-empty}
use lib.ListN.{get_elem?}
use mathlib.Core.Option as maybe
use Rattle.svga_cmd.specs.Pages.{key_cmp}
use Rattle.svga_cmd.specs.declared.session.Session.{Session}
use Rattle.svga_model.specs.Acts.{Act, Chain}
use Rattle.svga_model.specs.States.{State, opening_state}
use Rattle.svga_ring.proofs.Pages.Noted.{held_unnoted, runs_unnoted}
use Rattle.svga_ring.proofs.Sessions.TableWords.{opening_zero, registers, table_behind, table_mark}
use Rattle.svga_ring.proofs.Sessions.OpensInWords.{opens}
use Rattle.svga_ring.proofs.Pages.Locations.{slot_there}
use Rattle.svga_ring.specs.Core.{opening_core, opening_words}
use Rattle.svga_ring.specs.Locations.{with_driver}
use Rattle.svga_ring.specs.Requests.{no_request}
use Rattle.svga_ring.specs.SharedTable.{config_word, fifo_dwords, page_count, page_word, slot_number, table_length}
use Rattle.svga_ring.specs.Sound.{IsSound}
use Rattle.svga_ring.specs.SoundPages.{AreLocated, AreClear}
use Rattle.svga_ring.specs.SoundRequests.{AreRequests}
use Rattle.svga_ring.specs.SoundStops.{IsStopping}

-- no driver has stopped
opening_config : (k : Session) → slice_index (opening_words k) config_word ≡ 1
opening_config k = table_mark (registers k) (config_word - 7) (table_length k.limits - config_word - 1)
    config_word refl

-- no request, no reply, and no page that isn't with the driver
opening_behind : (k : Session) (i : ℕ) → fifo_dwords < i → i < table_length k.limits
    → slice_index (opening_words k) i ≡ 0
opening_behind k i low high =
    table_behind (registers k) (config_word - 7) (table_length k.limits - config_word - 1) i (omega arith)
    (omega arith)

-- each slot is at home
same_slots : {X : Type 0} (n i : ℕ) (x : X) → i < n → get_elem? (replicate n x) i ≡ maybe.some x
same_slots zero i x low = absurd (omega (arith, low))
same_slots (suc n) zero x low = refl
same_slots (suc n) (suc i) x low = same_slots n i x (omega (arith, low))

opened_pages : (k : Session) (s : State)
    → AreLocated k.limits (opening_words k) (replicate (page_count k.limits) (maybe.some None)) s set.empty
    set.empty
    map.empty None
opened_pages k s = record {
  slots = length-replicate (page_count k.limits) (maybe.some None);
  location = λ key. with_driver;
  each = λ key is.
      let low = slot_there k.limits key is in
      record {
        word_is = opening_behind k (page_word k.limits key) (omega arith) (omega (arith, low));
        home_is = same_slots (page_count k.limits) (slot_number k.limits key) (maybe.some None) low;
        lent_is = contains-empty key_cmp key;
        held_is = held_unnoted map.empty key (get-empty key_cmp key);
        driver_out_is = contains-empty key_cmp key;
        device_out_is = refl;
      };
}

-- nothing touches a page
opened_clear : (s : State) (lent : FinSet key_cmp) → AreClear s [] 0 0 0 lent no_request 0
opened_clear s lent = record {
  with_driver_free = λ n key le touched. absurd (none-some touched.0 touched.1);
  request_free = λ key out touched. absurd (cc out);
  later_puts = λ n key le touched puts. absurd (none-some touched.0 touched.1);
  request_later_puts = λ key out chain touched puts. absurd (cc out);
}

-- no chain stands where nothing does
none_first : (front rest : List Act) (act : Act) → [] ≡ front ++ act ∷ rest → ⊥
none_first front rest act e = omega (arith, ap length e, length-append front (act ∷ rest))

opened_requests : (k : Session) → AreRequests (opening_words k) [] no_request no_request 0 0 0
opened_requests k = record {
  request_is = opening_behind k 65537 (omega arith) (omega arith);
  reply_is = opening_behind k 65538 (omega arith) (omega arith);
  out_is_open = λ out. out;
  out_is_last_chain = λ out. absurd (cc out);
  loaded_is = inl refl;
  reserved_is = opening_zero k 14 (omega arith) (omega arith);
  fits = record { number_fits = omega arith; id_fits = omega arith; descriptor_fits = omega arith };
  answered_fits = omega arith;
  no_ring = refl;
}

opened_stops : (k : Session) → IsStopping (opening_words k) [] [] [] false false false 0 0 0
opened_stops k = record {
  config_is = opening_config k;
  stopped_empty = λ e. refl;
  stopped_whole = λ e. refl;
  stopped_settled = λ e. refl;
  loaded_stop = λ e. e;
  next_since_stop = λ e. absurd (cc e);
}

pub opened : (k : Session) → IsSound k (opening_core k)
opened k =
    let s = opening_state k.limits k.first in
    record {
      of_words = opens k;
      pages = opened_pages k s;
      clear = opened_clear s set.empty;
      runs = runs_unnoted refl (λ front rest id first is. absurd (none_first front rest (Chain id first) is));
      requests = opened_requests k;
      stops = opened_stops k;
      reserving = record {
        while_pending = λ way some. absurd (some refl);
        none_by_dword = λ way. refl;
        stores_by_command = λ way. refl;
        stores_by_dword = λ way. refl;
      };
      opening = λ e. refl;
      one_slot = λ apart a b of_a of_b. absurd (let none = contains-empty key_cmp a in cc (none, of_a));
      joined = λ e. absurd (cc e);
    }
