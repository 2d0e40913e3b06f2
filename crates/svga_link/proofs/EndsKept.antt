-- What the ends keep over their calls.
use Rattle.std.proofs.Common.{◌≡◌, ◌≢◌, ℕ, ◌+◌, ◌*◌, ◌<◌, ◌≤◌, List, [], ◌∷◌, ◌++◌, slice_set as set_item, Bool, false, length, length-append, length-set, append_assoc, take, sym, ap, subst, ◌∙◌, arith}
use Rattle.std.proofs.lemmas.List.{length-take-le, take_more_set}
use Rattle.std.specs.FinMap as map
use Rattle.svga_cmd.specs.Pages.{key_cmp}
use Rattle.svga_cmd.specs.declared.command.Command.{Command}
use Rattle.svga_ring.proofs.Pages.Noted.{held_unnoted}
use Rattle.svga_ring.specs.Conditions.{IsServed}
use Rattle.svga_ring.specs.Locations.{Slot}
use Rattle.svga_ring.specs.Views.{DeviceView, DriverView}
use Rattle.svga_link.specs.Ends.{DriverSeen, IsDeviceEnd, IsDriverEnd, words_put}
use Rattle.svga_link.specs.Reserving.{goes_in_place}
use Rattle.svga_link.specs.Told.{StopTold, served}

-- the command that was read is taken: no page is held, before or after
pub device_end_served : (e left : DeviceView) (carried carried' : List (ℕ × Slot)) (row : List Slot) (c : Command)
    → IsDeviceEnd e carried row → IsServed e c → left ≡ served e c → carried' ≡ carried → IsDeviceEnd left carried' row
device_end_served e left carried carried' row c is may here same =
    subst (λ x. IsDeviceEnd x carried' row) (sym here) (record {
      none_carried = same ∙ is.none_carried;
      none_out = is.none_out;
      row_is = is.row_is;
      mine = λ key. held_unnoted map.empty key (map.get-empty key_cmp key) ∙ sym (may.none_held key) ∙ is.mine key;
    })

-- the end with other words in its reservation, and with one more
abbrev pub with_words : DriverSeen → List ℕ → DriverSeen
with_words d words = record d { words = words }

abbrev pub with_word : ℕ → DriverSeen → DriverSeen
with_word word d = record d { words = d.words ++ word ∷ [] }

-- how many words were put
pub words_long : (pending buffer : List ℕ) (filled : ℕ) → filled ≤ length buffer
    → length (words_put pending buffer filled) ≡ length pending + filled
words_long pending buffer filled fits =
    omega (arith, length-append pending (take filled buffer), length-take-le filled buffer fits)

-- The buffer has room for all words of a reservation.
pub buffer_room : (view : DriverView) (carried : List (ℕ × Slot)) (reserved : ℕ) (in_place : Bool) (buffer : List ℕ) (filled : ℕ)
    (row : List Slot) → IsDriverEnd view carried reserved in_place buffer filled row → filled < length buffer
buffer_room view carried reserved in_place buffer filled row is = omega (arith, is.put, is.small, is.buffer_is)

-- a word more stands in it
pub buffered : (view : DriverView) (carried : List (ℕ × Slot)) (reserved : ℕ) (in_place : Bool) (buffer : List ℕ) (filled word : ℕ)
    (row : List Slot) → IsDriverEnd view carried reserved in_place buffer filled row
    → 4 * length (words_put view.pending buffer filled) < reserved → goes_in_place view reserved ≡ false
    → IsDriverEnd view carried reserved in_place (set_item buffer filled word) (filled + 1) row
buffered view carried reserved in_place buffer filled word row is room apart =
    let fits = buffer_room view carried reserved in_place buffer filled row is in
    let long = words_long view.pending buffer filled (omega (arith, fits)) in
    let some : reserved ≢ 0 = λ none. omega (arith, room, none) in record {
      all_sent = is.all_sent;
      whole = is.whole;
      reserved_is = is.reserved_is;
      runs = is.runs;
      room = is.room;
      short = is.short;
      small = is.small;
      in_place_is = is.in_place_is;
      apart = is.apart;
      together = λ _. is.in_place_is some ∙ apart;
      put = omega (arith, room, long, is.whole);
      buffer_is = length-set buffer filled word ∙ is.buffer_is;
      none_carried = is.none_carried;
      none_out = is.none_out;
      row_is = is.row_is;
      mine = is.mine;
    }

pub buffered_words : (pending buffer : List ℕ) (filled word : ℕ) → filled < length buffer
    → words_put pending (set_item buffer filled word) (filled + 1) ≡ words_put pending buffer filled ++ word ∷ []
buffered_words pending buffer filled word fits =
    ap (λ l. pending ++ l) (take_more_set buffer filled word fits) ∙ sym (append_assoc pending (take filled buffer) (word ∷ []))

-- STOP was loaded
pub driver_end_told : (d left : DriverView) (carried carried' : List (ℕ × Slot)) (reserved : ℕ) (in_place : Bool) (buffer : List ℕ)
    (filled found : ℕ) (row : List Slot) → IsDriverEnd d carried reserved in_place buffer filled row → StopTold d left found
    → carried' ≡ carried → IsDriverEnd left carried' reserved in_place buffer filled row
driver_end_told d left carried carried' reserved in_place buffer filled found row is told same =
    subst (λ x. IsDriverEnd x carried' reserved in_place buffer filled row) (sym told.view) (record {
      all_sent = is.all_sent;
      whole = is.whole;
      reserved_is = is.reserved_is;
      runs = is.runs;
      room = omega (arith, is.room, told.least);
      short = is.short;
      small = is.small;
      in_place_is = is.in_place_is;
      apart = is.apart;
      together = is.together;
      put = is.put;
      buffer_is = is.buffer_is;
      none_carried = same ∙ is.none_carried;
      none_out = is.none_out;
      row_is = is.row_is;
      mine = is.mine;
    })
