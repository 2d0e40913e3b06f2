-- How a reservation begins.
use Rattle.std.proofs.Common.{◌≡◌, ◌≢◌, ℕ, ◌+◌, ◌-◌, ◌*◌, ◌/◌, ◌<◌, ◌≤◌, ◌^◌, ◌==◌, nat_le, Bool, true, false, if◌then◌else◌, List, [], ◌∷◌, ◌++◌, length, take, refl, sym, ap, subst, ◌∙◌, arith}
use Rattle.std.proofs.lemmas.Bool.Decides.{nat_tests}
use Rattle.std.specs.Prelude.{Err, Ok, Result, min}
use Rattle.atomic_table.specs.Seated.{TableId}
use Rattle.svga_cmd.specs.Pages.{Memory}
use Rattle.svga_ring.proofs.Words.Pieces.{free_is}
use Rattle.svga_ring.specs.Core.{put_count}
use Rattle.svga_ring.specs.Layouts.{ring_dwords, word_address}
use Rattle.svga_ring.specs.Locations.{Slot}
use Rattle.svga_ring.specs.RingPieces.{geometry_of, next_offset, stop_offset}
use Rattle.svga_ring.specs.Rings.{free_bytes, size_of}
use Rattle.svga_ring.specs.Views.{DriverView, loaded}
use Rattle.svga_ring.specs.declared.plans.Geometry.{Geometry}
use Rattle.svga_link.specs.Ends.{DriverSeen, IsDriverEnd, words_put}
use Rattle.svga_link.specs.ReserveAnswers.{CanBegin, HasNoRoom, IsBegun, ReserveAnswers, SeatAnswers}
use Rattle.svga_link.specs.Reserving.{IsAligned, free_now, goes_in_place, in_place_by, next_command, putting, reserving}
use Rattle.svga_link.specs.Seats.{IsDriverPossible}
use Rattle.svga_link.specs.Told.{StopTold, with_pending}
use Rattle.svga_link.specs.declared.reserving.Reserved.{Reserved}
use Rattle.svga_link.specs.declared.reserving.ReserveFault.{ReserveFault}
use Rattle.svga_link.specs.declared.reserving.ReserveFault.TheVariants.{NoRoom, Reserving, TooLarge, Unaligned}

-- with no word pending the driver writes next at NEXT_CMD
pub next_is_command : (d : DriverView) → d.pending ≡ [] → next_offset d ≡ next_command d
next_is_command d none = ap (λ n. word_address d.layout n) (omega (arith, ap length none))

pub begun : (d loaded left : DriverView) (bytes stop at first : ℕ) (g : Geometry) → StopTold d loaded stop
    → d.pending ≡ [] → g ≡ geometry_of loaded.layout → at ≡ next_offset loaded
    → bytes < free_bytes g at stop → left ≡ reserving loaded bytes → first ≡ min bytes (g.max - at)
    → IsBegun d bytes (record { bytes = bytes; at = at; first = first }) left
begun d loaded left bytes stop at first g told none ring here room left_is first_is =
    let command : at ≡ next_command loaded =
    here ∙ next_is_command loaded (ap (λ x. x.pending) told.view ∙ none) in
    let stop_is : stop ≡ word_address loaded.layout loaded.stop =
    told.address ∙ sym (ap (λ x. word_address x.layout x.stop) told.view) in
    let free : free_bytes g at stop ≡ free_now loaded = (λ i. free_bytes (ring i) (command i) (stop_is i)) in
    let max : g.max ≡ d.layout.max = ap (λ x. x.max) ring ∙ ap (λ x. x.layout.max) told.view in record {
      loaded = loaded;
      stop = stop;
      told = told;
      enough = subst (λ n. bytes < n) free room;
      left_is = left_is;
      bytes_are = refl;
      at_is = command ∙ ap next_command told.view;
      first_is = first_is ∙ ap (λ m. min bytes (m - at)) max;
    }

pub no_room : (d left : DriverView) (bytes stop at free : ℕ) (g : Geometry) → StopTold d left stop
    → d.pending ≡ [] → g ≡ geometry_of left.layout → at ≡ next_offset left → free ≡ free_bytes g at stop
    → free_bytes g at stop ≤ bytes → HasNoRoom d bytes stop free left
no_room d left bytes stop at free g told none ring here free_is few =
    let command : at ≡ next_command left = here ∙ next_is_command left (ap (λ x. x.pending) told.view ∙ none) in
    let stop_is : stop ≡ word_address left.layout left.stop =
    told.address ∙ sym (ap (λ x. word_address x.layout x.stop) told.view) in record {
      told = told;
      free_is = free_is ∙ (λ i. free_bytes (ring i) (command i) (stop_is i));
      too_few = omega (arith, few, free_is);
    }

-- so many words have room behind those that are sent
room_for : (d : DriverView) (bytes : ℕ) → IsDriverPossible d → d.pending ≡ [] → bytes < free_now d
    → length d.sent + bytes / 4 < d.stop + ring_dwords d.layout
room_for d bytes possible none less =
    let c = possible.core in
    let o = possible.sound.of_words in
    let same = possible.view_is in
    let free : free_bytes (geometry_of d.layout) (next_offset d) (stop_offset d)
    ≡ 4 * (ring_dwords d.layout - (put_count d - d.stop)) =
    subst (λ x. free_bytes (geometry_of x.layout) (next_offset x) (stop_offset x) ≡ 4 * (ring_dwords x.layout - (put_count x - x.stop))) same
    (free_is possible.key c o) in
    let now : free_now d ≡ free_bytes (geometry_of d.layout) (next_offset d) (stop_offset d) =
    ap (λ n. free_bytes (geometry_of d.layout) n (stop_offset d)) (sym (next_is_command d none)) in
    let behind : d.stop ≤ length d.sent =
    subst (λ x. x.stop ≤ length x.sent) same (omega (arith, o.ring.known_stop, o.order.read_known, o.order.known_sent)) in
    omega (arith, less, now, free, behind, ap length none)

-- a reservation doesn't wrap exactly where all of it stands before the ring's end
fits_before : (at bytes max first : ℕ) → bytes ≢ 0 → first ≡ min bytes (max - at)
    → (first == bytes) ≡ nat_le (at + bytes) max
fits_before at bytes max first some is = grind (arith, nat_tests, is, some)

pub none_of : (l : List ℕ) → length l ≡ 0 → l ≡ []
none_of [] e = refl
none_of (x ∷ xs) e = absurd (omega (arith, e))

-- the end, once a reservation is begun
pub driver_end_begun : (d left : DriverView) (carried carried' : List (ℕ × Slot)) (reserved : ℕ) (was in_place : Bool) (buffer : List ℕ)
    (filled bytes : ℕ) (row : List Slot) (r : Reserved) → IsDriverEnd d carried reserved was buffer filled row
    → reserved ≡ 0 → IsAligned bytes → bytes < size_of (geometry_of d.layout) → d.stopped ≡ false
    → length d.sent + bytes / 4 < 2 ^ 62 → IsBegun d bytes r left → IsDriverPossible left → carried' ≡ carried
    → in_place ≡ in_place_by left.terms.way (r.first == bytes)
    → IsDriverEnd left carried' bytes in_place buffer filled row
driver_end_begun d left carried carried' reserved was in_place buffer filled bytes row r is none aligned small runs short begun possible same place_is =
    let told : DriverView = record d { stop = begun.told.stop; passed = begun.told.passed; stop_loads = loaded d.stop_loads begun.stop } in
    let left_is : left ≡ reserving told bytes = begun.left_is ∙ ap (λ x. reserving x bytes) begun.told.view in
    let none_pending : d.pending ≡ [] = none_of d.pending (omega (arith, is.put, none)) in
    let pending : left.pending ≡ [] = ap (λ x. x.pending) left_is ∙ none_pending in
    let free : bytes < free_now left = subst (λ n. bytes < n) (sym (ap free_now begun.left_is)) begun.enough in
    let room = subst (λ x. length x.sent + bytes / 4 < x.stop + ring_dwords x.layout) left_is (room_for left bytes possible pending free) in
    let fits = fits_before r.at bytes d.layout.max r.first aligned.0 begun.first_is in
    let goes : in_place ≡ goes_in_place (reserving told bytes) bytes =
    place_is ∙ ap (λ x. in_place_by x.terms.way (r.first == bytes)) left_is ∙ ap (in_place_by d.terms.way) fits
    ∙ ap (λ at. in_place_by d.terms.way (nat_le (at + bytes) d.layout.max)) begun.at_is in
    subst (λ x. IsDriverEnd x carried' bytes in_place buffer filled row) (sym left_is) (record {
      all_sent = is.all_sent;
      whole = aligned.1;
      reserved_is = refl;
      runs = λ _. runs;
      room = room;
      short = omega (arith, short);
      small = omega (arith, small);
      in_place_is = λ _. goes;
      apart = λ _. none_pending;
      together = λ some. absurd (some (omega (arith, is.put, none)));
      put = omega (arith, is.put, none);
      buffer_is = is.buffer_is;
      none_carried = same ∙ is.none_carried;
      none_out = is.none_out;
      row_is = is.row_is;
      mine = is.mine;
    })

-- a refusal of the seat's is one of the end's
pub seat_refuses : (d left : DriverSeen) (bytes : ℕ) (fault : ReserveFault) → CanBegin d bytes
    → left ≡ record d { view = left.view } → SeatAnswers d.view bytes (Err fault) left.view
    → ReserveAnswers d bytes (Err fault) left
seat_refuses d left bytes TooLarge can left_is told = absurd told
seat_refuses d left bytes Unaligned can left_is told = absurd told
seat_refuses d left bytes Reserving can left_is told = absurd told
seat_refuses d left bytes (NoRoom stop free) can left_is told = (can, told, left_is)

-- what it tells
pub seat_told : (d left : DriverView) (bytes : ℕ) (fault : ReserveFault) → SeatAnswers d bytes (Err fault) left
    → (stop : ℕ) × StopTold d left stop
seat_told d left bytes TooLarge told = absurd told
seat_told d left bytes Unaligned told = absurd told
seat_told d left bytes Reserving told = absurd told
seat_told d left bytes (NoRoom stop free) told = (stop, told.told)

-- what a reservation that begins leaves of a view
pub record Stays (d left : DriverView) : Type 0 where
  pub pending : left.pending ≡ d.pending
  pub terms : left.terms ≡ d.terms

pub begun_stays : (d left : DriverView) (bytes : ℕ) (r : Reserved) → IsBegun d bytes r left → Stays d left
begun_stays d left bytes r begun = record {
  pending = ap (λ x. x.pending) begun.left_is ∙ ap (λ x. x.pending) begun.told.view;
  terms = ap (λ x. x.terms) begun.left_is ∙ ap (λ x. x.terms) begun.told.view;
}

-- with no reservation begun no word is put
pub no_words : (d left : DriverView) (carried : List (ℕ × Slot)) (reserved : ℕ) (in_place : Bool) (buffer : List ℕ) (filled : ℕ)
    (row : List Slot) → IsDriverEnd d carried reserved in_place buffer filled row → reserved ≡ 0 → left.pending ≡ d.pending
    → words_put left.pending buffer filled ≡ []
no_words d left carried reserved in_place buffer filled row is none stays =
    let pending : left.pending ≡ [] = stays ∙ none_of d.pending (omega (arith, is.put, none)) in
    let no_fill : filled ≡ 0 = omega (arith, is.put, none) in
    (λ i. pending i ++ take (no_fill i) buffer)

-- what contracts see then
pub begun_seen : (table : TableId) (left : DriverView) (bytes : ℕ) (words : List ℕ) (pages : Memory) (d : DriverSeen)
    → table ≡ d.table → words ≡ [] → pages ≡ d.pages
    → ◌≡◌ {A = DriverSeen} (record { table = table; view = left; reserved = bytes; words = words; pages = pages })
    (record { table = d.table; view = left; reserved = bytes; words = []; pages = d.pages })
begun_seen table left bytes words pages d tables none same =
    λ i. record { table = tables i; view = left; reserved = bytes; words = none i; pages = same i }

-- Whatever `reserve` answers, the driver runs on, and nothing is sent.
pub record RunsOn (d left : DriverView) : Type 0 where
  pub stopped : left.stopped ≡ d.stopped
  pub sent : left.sent ≡ d.sent

pub reserve_runs_on : (d left : DriverSeen) (bytes : ℕ) (answer : Result Reserved ReserveFault)
    → ReserveAnswers d bytes answer left → RunsOn d.view left.view
reserve_runs_on d left bytes (Err TooLarge) told =
    record { stopped = ap (λ x. x.view.stopped) told.1; sent = ap (λ x. x.view.sent) told.1 }
reserve_runs_on d left bytes (Err Unaligned) told =
    record { stopped = ap (λ x. x.view.stopped) told.2; sent = ap (λ x. x.view.sent) told.2 }
reserve_runs_on d left bytes (Err Reserving) told =
    record { stopped = ap (λ x. x.view.stopped) told.3; sent = ap (λ x. x.view.sent) told.3 }
reserve_runs_on d left bytes (Err (NoRoom stop free)) told =
    let view = told.1.told.view in record { stopped = ap (λ x. x.stopped) view; sent = ap (λ x. x.sent) view }
reserve_runs_on d left bytes (Ok r) told =
    let begun = told.1 in record {
      stopped = ap (λ x. x.stopped) begun.left_is ∙ ap (λ x. x.stopped) begun.told.view;
      sent = ap (λ x. x.sent) begun.left_is ∙ ap (λ x. x.sent) begun.told.view;
    }

-- nor by a word that is put
pub put_runs_on : (d : DriverView) (bytes word : ℕ) → RunsOn d (putting d bytes word)
put_runs_on d bytes word = go (goes_in_place d bytes) where
  go : (b : Bool) → RunsOn d (if b then with_pending d word else d)
  go true = record { stopped = refl; sent = refl }
  go false = record { stopped = refl; sent = refl }
