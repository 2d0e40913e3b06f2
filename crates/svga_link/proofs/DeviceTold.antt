-- What the steps of the device's seat make of its view, and of the offsets that it keeps.
use Rattle.std.proofs.Common.{◌≡◌, ℕ, ◌+◌, ◌<◌, ◌^◌, [], ◌∷◌, length, length-append, slice_index, refl, sym, ap, subst, ◌∙◌, arith}
use Rattle.atomic_table.specs.Seated.{TableId}
use Rattle.atomic_table.specs.Table.{Me}
use Rattle.svga_cmd.proofs.SpelledLaws.{same_command}
use Rattle.svga_cmd.specs.Spelling.{Spells}
use Rattle.svga_cmd.specs.declared.command.Command.{Command}
use Rattle.svga_cmd.specs.declared.session.Session.{Session}
use Rattle.svga_ring.specs.Core.{Core, LoadCell, LoadNext, StoreStop, read_count}
use Rattle.svga_model.specs.Addresses.{address}
use Rattle.svga_ring.specs.Layouts.{ring_dwords, ring_start, word_address, word_cell}
use Rattle.svga_ring.specs.Locations.{Slot}
use Rattle.svga_ring.specs.RingPieces.{geometry_of}
use Rattle.svga_ring.specs.Rings.{AreCounts}
use Rattle.svga_ring.specs.TableRule.{View}
use Rattle.svga_ring.specs.TableSteps.{DeviceLearns}
use Rattle.svga_ring.specs.Views.{DeviceView, loaded, opening_layout}
use Rattle.svga_link.proofs.DeviceSteps.{device_view}
use Rattle.svga_link.specs.Seats.{IsDeviceSeat, SeenDeviceSeat}
use Rattle.svga_link.specs.Told.{NextTold, served, with_read}

-- NEXT_CMD, loaded: the count that it tells
next_told_of : (k : Session) (me left : Me Slot View) (found : ℕ) → (t : DeviceLearns k me LoadNext found left)
    → NextTold t.core.device left.0.of_device found
next_told_of k me left found t =
    let c : Core = t.core in
    let o = t.made.sound.of_words in record {
      next = length c.driver.sent;
      view = ap (λ m. m.0.of_device) t.left_is
          ∙ ap (λ n. record c.device { next = length c.driver.sent; next_loads = loaded c.device.next_loads n; drained = c.device.saw_stopped }) (sym t.made.found_is);
      address = t.made.found_is ∙ o.ring.next_is;
      least = o.order.known_sent;
      most = omega (arith, o.ring.room, o.ring.known_stop, o.order.read_known);
    }

pub next_told : (k : Session) (me left : Me Slot View) (found : ℕ) → DeviceLearns k me LoadNext found left
    → NextTold me.0.of_device left.0.of_device found
next_told k me left found t = subst (λ e. NextTold e left.0.of_device found) t.view_is (next_told_of k me left found t)

-- the offsets behind it
pub next_is_found : (k : Session) (me left : Me Slot View) (found : ℕ) → DeviceLearns k me LoadNext found left
    → found ≡ word_address left.0.of_device.layout left.0.of_device.next
next_is_found k me left found t =
    let told = next_told k me left found t in
    told.address ∙ sym (ap (λ e. word_address e.layout e.next) told.view)

pub reads_on : (k : Session) (me left : Me Slot View) (found : ℕ) → DeviceLearns k me LoadNext found left
    → word_address me.0.of_device.layout (read_count me.0.of_device) ≡ word_address left.0.of_device.layout (read_count left.0.of_device)
reads_on k me left found t = sym (ap (λ e. word_address e.layout (read_count e)) (next_told k me left found t).view)

-- A cell, loaded: the next word of those that are sent, which has 32 bits.
pub read_view : (k : Session) (me left : Me Slot View) (found : ℕ) → DeviceLearns k me LoadCell found left
    → left.0.of_device ≡ with_read me.0.of_device found
read_view k me left found t =
    let c : Core = t.core in
    let cell = ap (λ e. word_cell e.layout (read_count e)) t.view_is in
    ap (λ m. m.0.of_device) t.left_is
    ∙ ap (λ n. with_read c.device n) (ap (slice_index c.words) cell ∙ sym t.made.found_is)
    ∙ ap (λ e. with_read e found) t.view_is

pub read_fits : (k : Session) (me left : Me Slot View) (found : ℕ) → DeviceLearns k me LoadCell found left
    → read_count me.0.of_device < me.0.of_device.next → found < 2 ^ 32
read_fits k me left found t known =
    let c : Core = t.core in
    let o = t.made.sound.of_words in
    let n = read_count c.device in
    let less : n < c.device.next = subst (λ e. read_count e < e.next) (sym t.view_is) known in
    let sent : n < length c.driver.sent + length c.driver.pending = omega (arith, less, o.order.known_sent) in
    let cell = ap (λ e. word_cell e.layout (read_count e)) t.view_is in
    let found_is = ap (slice_index c.words) cell ∙ sym t.made.found_is in
    subst (λ w. w < 2 ^ 32) (sym (o.ring.cells n (omega arith) sent) ∙ found_is) (o.ring.dwords n sent)

pub reads_behind : (e left : DeviceView) (word : ℕ) → left ≡ with_read e word
    → word_address e.layout (read_count e + 1) ≡ word_address left.layout (read_count left)
reads_behind e left word is =
    ap (λ n. word_address e.layout n) (omega (arith, length-append e.read (word ∷ [])))
    ∙ sym (ap (λ x. word_address x.layout (read_count x)) is)

pub next_stays : (e left : DeviceView) (word : ℕ) → left ≡ with_read e word
    → word_address e.layout e.next ≡ word_address left.layout left.next
next_stays e left word is = sym (ap (λ x. word_address x.layout x.next) is)

-- the command that was read is taken
pub served_is : (k : Session) (me left : Me Slot View) (found : ℕ) (own command : Command)
    → Spells own me.0.of_device.read → Spells command me.0.of_device.read → DeviceLearns k me (StoreStop own) found left
    → left.0.of_device ≡ served me.0.of_device command
served_is k me left found own command spells same t =
    device_view k me left (StoreStop own) found (λ e. served e own) t (λ core. refl)
    ∙ ap (served me.0.of_device) (same_command own command me.0.of_device.read spells same)

pub read_stays : (e left : DeviceView) (command : Command) → left ≡ served e command
    → word_address e.layout (read_count e) ≡ word_address left.layout (read_count left)
read_stays e left command is =
    ap (λ n. word_address e.layout n) (omega (arith, length-append e.taken e.read))
    ∙ sym (ap (λ x. word_address x.layout (read_count x)) is)

pub next_after_stop : (e left : DeviceView) (command : Command) → left ≡ served e command
    → word_address e.layout e.next ≡ word_address left.layout left.next
next_after_stop e left command is = sym (ap (λ x. word_address x.layout x.next) is)

-- the seat, once a command is taken
abbrev pub seat_served : Command → SeenDeviceSeat → SeenDeviceSeat
seat_served command s = record s { view = served s.view command }

pub taken_seat : (k : Session) (me left : Me Slot View) (found : ℕ) (own command : Command)
    → Spells own me.0.of_device.read → Spells command me.0.of_device.read → DeviceLearns k me (StoreStop own) found left
    → (table table' : TableId) → table' ≡ table
    → ◌≡◌ {A = SeenDeviceSeat} (record { table = table'; view = left.0.of_device; carried = left.1 })
    (record { table = table; view = served me.0.of_device command; carried = me.1 })
taken_seat k me left found own command spells same t table table' tables =
    let view = served_is k me left found own command spells same t in
    λ i. record { table = tables i; view = view i; carried = ap (λ m. m.1) t.left_is i }

-- what the seat keeps are counts of the ring: of the words that are known to be sent, and of those that
-- were read
pub known_counts : (session : Session) (me : Me Slot View) (next at : ℕ) → IsDeviceSeat session me next at
    → AreCounts (geometry_of (opening_layout session)) next at me.0.of_device.next (read_count me.0.of_device)
known_counts session me next at i =
    let e = me.0.of_device in
    let c = i.possible.core in
    let o = i.possible.sound.of_words in
    let here = i.possible.view_is in
    let whole = ap (λ l. word_address l e.next) i.layout in
    let read = ap (λ l. word_address l (read_count e)) i.layout in
    let lay : c.device.layout ≡ opening_layout session = ap (λ e. e.layout) here ∙ i.layout in record {
      next_is = i.next_is ∙ whole ∙ ap (λ n. address ring_start (ring_dwords (opening_layout session)) n) (omega arith);
      stop_is = i.at_is ∙ read ∙ ap (λ n. address ring_start (ring_dwords (opening_layout session)) n) (omega arith);
      behind = omega (arith, o.order.read_known, ap (λ e. read_count e) here, ap (λ e. e.next) here);
      room = omega (arith, o.order.known_sent, o.ring.room, o.ring.known_stop, ap (λ e. read_count e) here, ap (λ e. e.next) here, ap ring_dwords lay);
    }
