-- With what a table opens, and what its seats and ends then keep.
use Rattle.std.proofs.Common.{◌≡◌, ℕ, ◌+◌, ◌-◌, List, [], ◌∷◌, ◌++◌, replicate, append_assoc, refl, sym, ap, subst, ◌∙◌, arith, Some, None, is_some, not, false, length, slice_index_or}
use Rattle.std.proofs.lemmas.List.{get_or-replicate, length-replicate}
use Rattle.std.specs.FinMap as map
use Rattle.std.specs.FinSet as set
use Rattle.atomic_table.specs.Table.{Me}
use Rattle.svga_cmd.specs.Pages.{key_cmp, page_at}
use Rattle.svga_cmd.specs.declared.constants.TheConstants.{PAGE_SIZE}
use Rattle.svga_cmd.specs.declared.session.Session.{Session}
use Rattle.svga_cmd.specs.declared.session.Way.{Way}
use Rattle.svga_cmd.specs.declared.session.Way.TheVariants.{Dword, Reserve}
use Rattle.svga_ring.proofs.Pages.Locations.{slot_there}
use Rattle.svga_ring.proofs.Pages.Noted.{held_unnoted}
use Rattle.svga_ring.proofs.Steps.Each.{keeps_event, opening_sound}
use Rattle.svga_ring.proofs.Words.Turns.{some_dwords}
use Rattle.svga_ring.specs.Core.{Split, after, opening_core, opening_words}
use Rattle.svga_ring.specs.Conditions.{unsent}
use Rattle.svga_ring.specs.Layouts.{ring_dwords, ring_start}
use Rattle.svga_ring.specs.Locations.{Slot}
use Rattle.svga_ring.specs.Noting.{holds}
use Rattle.svga_ring.specs.SharedTable.{config_word, page_count, slot_number, table_length}
use Rattle.svga_ring.specs.Sound.{IsSound}
use Rattle.svga_ring.specs.SoundWords.{capabilities}
use Rattle.svga_ring.specs.TableRule.{View, as_device, as_driver, opening_view}
use Rattle.svga_ring.specs.Views.{DeviceView, DriverView, opening_device, opening_driver, opening_layout}
use Rattle.svga_link.proofs.Offsets.{layout_of}
use Rattle.svga_link.proofs.PageRows.{none_there}
use Rattle.svga_link.specs.Ends.{IsDeviceEnd, IsDriverEnd, pages_in}
use Rattle.svga_link.specs.Reserving.{reserved_by}
use Rattle.svga_link.specs.Seats.{IsDevicePossible, IsDeviceSeat, IsDriverPossible, IsDriverSeat}

-- the words that aren't 0 but CONFIG_DONE
abbrev pub first_words : Session → List ℕ
first_words k = ring_start ∷ k.ring ∷ ring_start ∷ ring_start ∷ capabilities k.way ∷ 0 ∷ (k.first - 1) ∷ []

pub words_opened : (k : Session) (m n : ℕ) → m ≡ config_word - 7 → n ≡ page_count k.limits + 2
    → ((first_words k ++ replicate m 0) ++ 1 ∷ []) ++ replicate n 0 ≡ opening_words k
words_opened k m n fifo rest =
    append_assoc (first_words k ++ replicate m 0) (1 ∷ []) (replicate n 0)
    ∙ (λ i. (first_words k ++ replicate (fifo i) 0) ++ 1 ∷ replicate (count i) 0)
  where
    count : n ≡ table_length k.limits - config_word - 1
    count = omega (arith, rest)

-- the core once the seats are split is sound
split_sound : (k : Session) → IsSound k (after Split (opening_core k))
split_sound k = keeps_event k Split (opening_core k) (opening_sound k) refl

pub driver_possible : (k : Session) → IsDriverPossible (opening_driver k)
driver_possible k = record { key = k; core = after Split (opening_core k); sound = split_sound k; apart = refl; view_is = refl }

pub device_possible : (k : Session) → IsDevicePossible (opening_device k)
device_possible k = record { key = k; core = after Split (opening_core k); sound = split_sound k; apart = refl; view_is = refl }

pub driver_opens : (k : Session) (me : Me Slot View) → me ≡ (as_driver (opening_view k), []) → IsDriverSeat k me ring_start 0
driver_opens k me is = subst (λ m. IsDriverSeat k m ring_start 0) (sym is) (record {
  role = refl;
  terms = refl;
  layout = refl;
  next_is = omega arith;
  request_is = refl;
  possible = driver_possible k;
})

pub device_opens : (k : Session) (me : Me Slot View) → me ≡ (as_device (opening_view k), []) → IsDeviceSeat k me ring_start ring_start
device_opens k me is = subst (λ m. IsDeviceSeat k m ring_start ring_start) (sym is) (record {
  role = refl;
  terms = refl;
  layout = refl;
  next_is = omega arith;
  at_is = omega arith;
  possible = device_possible k;
})

reserved_none : (w : Way) → 0 ≡ reserved_by w 0
reserved_none Reserve = refl
reserved_none Dword = refl

-- with what the ends open
pub driver_end_opens : (k : Session) (d : DriverView) (carried : List (ℕ × Slot)) (buffer : List ℕ) (row : List Slot)
    → d ≡ opening_driver k → carried ≡ [] → length buffer ≡ ring_dwords d.layout
    → row ≡ replicate (page_count d.terms.limits) (Some (replicate PAGE_SIZE 0))
    → IsDriverEnd d carried 0 false buffer 0 row
driver_end_opens k d carried buffer row is none long full =
    let lay : d.layout ≡ opening_layout k = ap (λ x. x.layout) is in
    let some = some_dwords (opening_layout k) (layout_of k) in
    let dwords : ring_dwords d.layout ≡ ring_dwords (opening_layout k) = ap ring_dwords lay in
    let sent : length d.sent ≡ 0 = ap (λ x. length x.sent) is in
    let pending : length d.pending ≡ 0 = ap (λ x. length x.pending) is in
    let stop : d.stop ≡ 0 = ap (λ x. x.stop) is in
    let limits : d.terms.limits ≡ k.limits = ap (λ x. x.terms.limits) is in record {
      all_sent = ap unsent is;
      whole = refl;
      reserved_is = ap (λ x. x.reserved) is ∙ reserved_none d.terms.way;
      runs = λ some. absurd (some refl);
      room = omega (arith, sent, stop, dwords, some.0);
      short = omega (arith, sent);
      small = omega (arith, dwords, some.0);
      in_place_is = λ some. absurd (some refl);
      apart = λ _. ap (λ x. x.pending) is;
      together = λ some. absurd (some refl);
      put = omega (arith, pending);
      buffer_is = long;
      none_carried = none;
      none_out = λ key. ap (λ x. set.contains x.out key) is ∙ set.contains-empty key_cmp key;
      row_is = ap length full ∙ length-replicate (page_count d.terms.limits) (Some (replicate PAGE_SIZE 0));
      mine = λ key is_key.
          ap (λ r. is_some (slice_index_or r (slot_number d.terms.limits key) None)) full
          ∙ ap is_some (get_or-replicate (page_count d.terms.limits) (slot_number d.terms.limits key) (Some (replicate PAGE_SIZE 0)) None (slot_there d.terms.limits key is_key))
          ∙ sym (ap not (ap (λ x. set.contains x.lent key) is ∙ set.contains-empty key_cmp key));
    }

pub device_end_opens : (k : Session) (e : DeviceView) (carried : List (ℕ × Slot)) (row : List Slot)
    → e ≡ opening_device k → carried ≡ [] → row ≡ replicate (page_count e.terms.limits) None → IsDeviceEnd e carried row
device_end_opens k e carried row is none empty = record {
  none_carried = none;
  none_out = ap (λ x. x.out) is;
  row_is = ap length empty ∙ length-replicate (page_count e.terms.limits) None;
  mine = λ key.
      ap (λ x. holds x.noted key) is ∙ held_unnoted map.empty key (map.get-empty key_cmp key)
      ∙ sym (ap (λ r. is_some (page_at (pages_in e.terms.limits r) key)) empty
      ∙ ap is_some (none_there e.terms.limits (page_count e.terms.limits) key));
}
