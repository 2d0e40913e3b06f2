-- What the steps of the driver's seat make of its view, and of the offset at which it writes next.
use Rattle.std.proofs.Common.{◌≡◌, ℕ, ◌+◌, List, [], ◌∷◌, ◌++◌, drop, length, length-append, refl, sym, ap, subst, ◌∙◌, arith}
use Rattle.atomic_table.specs.Seated.{TableId}
use Rattle.atomic_table.specs.Table.{Me}
use Rattle.svga_cmd.proofs.SpelledLaws.{same_command}
use Rattle.svga_cmd.specs.Spelling.{Spells, spelling}
use Rattle.svga_cmd.specs.declared.command.Command.{Command}
use Rattle.svga_cmd.specs.declared.session.Session.{Session}
use Rattle.svga_model.specs.Acts.{Do}
use Rattle.svga_model.specs.Sentences.{spelling_all}
use Rattle.svga_ring.proofs.Words.NextCommand.{commands-append}
use Rattle.svga_ring.proofs.Words.Order.{unsent_commit, unsent_more}
use Rattle.svga_ring.specs.Conditions.{Can, unsent}
use Rattle.svga_ring.specs.Core.{Commit, Core, LoadStop, SendMore, after, put_count}
use Rattle.svga_ring.specs.Layouts.{word_address}
use Rattle.svga_ring.specs.Locations.{Slot}
use Rattle.svga_ring.specs.RingPieces.{next_offset}
use Rattle.svga_ring.specs.Sound.{IsSoundOfWords}
use Rattle.svga_ring.specs.TableRule.{View}
use Rattle.svga_ring.specs.TableSteps.{DriverLearns}
use Rattle.svga_ring.specs.Views.{DriverView, loaded}
use Rattle.svga_link.proofs.DriverSteps.{driver_view}
use Rattle.svga_link.specs.Seats.{SeenDriverSeat}
use Rattle.svga_link.specs.Told.{StopTold, sending, sending_more, with_pending}

-- STOP, loaded: the count that it tells, from what is sound of the core
stop_told_of : (k : Session) (me left : Me Slot View) (found : ℕ) → (t : DriverLearns k me LoadStop found left)
    → StopTold t.core.driver left.0.of_driver found
stop_told_of k me left found t =
    let c : Core = t.core in
    let o = t.made.sound.of_words in
    let one = sym o.session.one_layout in record {
      stop = length c.device.taken;
      passed = c.device.done;
      view = ap (λ m. m.0.of_driver) t.left_is
          ∙ ap (λ n. record c.driver { stop = length c.device.taken; passed = c.device.done; stop_loads = loaded c.driver.stop_loads n }) (sym t.made.found_is);
      address = t.made.found_is ∙ o.ring.stop_is ∙ ap (λ lay. word_address lay (length c.device.taken)) one;
      least = o.ring.known_stop;
      most = omega (arith, o.order.read_known, o.order.known_sent);
      some = o.order.done_low;
      whole = ap length o.order.taken_whole;
    }

pub stop_told : (k : Session) (me left : Me Slot View) (found : ℕ) → DriverLearns k me LoadStop found left
    → StopTold me.0.of_driver left.0.of_driver found
stop_told k me left found t = subst (λ d. StopTold d left.0.of_driver found) t.view_is (stop_told_of k me left found t)

pub stop_next : (k : Session) (me left : Me Slot View) (found : ℕ) → DriverLearns k me LoadStop found left
    → next_offset me.0.of_driver ≡ next_offset left.0.of_driver
stop_next k me left found t = sym (ap next_offset (stop_told k me left found t).view)

-- behind a word that is put
pub next_after_put : (d left : DriverView) (word : ℕ) → left ≡ with_pending d word
    → word_address d.layout (put_count d + 1) ≡ next_offset left
next_after_put d left word is =
    ap (λ n. word_address d.layout n) (omega (arith, length-append d.pending (word ∷ []))) ∙ sym (ap next_offset is)

-- Behind words that are sent the next offset stays.
pub next_after_sending : (d left : DriverView) (command : Command) → left ≡ sending d command → next_offset d ≡ next_offset left
next_after_sending d left command is =
    ap (λ n. word_address d.layout n) (omega (arith, length-append d.sent d.pending)) ∙ sym (ap next_offset is)

pub next_after_more : (d left : DriverView) → left ≡ sending_more d → next_offset d ≡ next_offset left
next_after_more d left is =
    ap (λ n. word_address d.layout n) (omega (arith, length-append d.sent d.pending)) ∙ sym (ap next_offset is)

-- a command is committed: the one that these words spell
pub sent_is : (k : Session) (me left : Me Slot View) (found : ℕ) (own command : Command) (words : List ℕ)
    → Spells own words → Spells command words → DriverLearns k me (Commit own) found left
    → left.0.of_driver ≡ sending me.0.of_driver command
sent_is k me left found own command words spells same t =
    driver_view k me left (Commit own) found (λ d. sending d own) t (λ core. refl)
    ∙ ap (sending me.0.of_driver) (same_command own command words spells same)

unsent_after_commit : (k : Session) (c : Core) (command : Command) (more : List ℕ) → IsSoundOfWords k c
    → Can (Commit command) c → spelling command ≡ c.driver.pending ++ more
    → unsent (after (Commit command) c).driver ≡ more
unsent_after_commit k c command more o can are =
    let d = c.driver in
    ap (λ cs. drop (length (d.sent ++ d.pending)) (spelling_all cs)) (commands-append d.acts (Do command ∷ []))
    ∙ unsent_commit _ _ command d.sent d.pending more _ _ _ _ o.order can.1.all_sent are

unsent_after_more : (k : Session) (c : Core) (more : List ℕ) → IsSoundOfWords k c
    → unsent c.driver ≡ c.driver.pending ++ more → unsent (after SendMore c).driver ≡ more
unsent_after_more k c more o are =
    unsent_more _ _ c.driver.sent c.driver.pending more _ _ _ _ o.order are

-- and what isn't sent then of its words
pub unsent_first : (k : Session) (me left : Me Slot View) (found : ℕ) (own : Command) (words more : List ℕ)
    → Spells own words → DriverLearns k me (Commit own) found left → words ≡ me.0.of_driver.pending ++ more
    → unsent left.0.of_driver ≡ more
unsent_first k me left found own words more spells t are =
    ap (λ m. unsent m.0.of_driver) t.left_is
    ∙ unsent_after_commit k t.core own more t.made.sound.of_words t.made.can
    (sym spells.words ∙ are ∙ ap (λ d. d.pending ++ more) (sym t.view_is))

pub unsent_next : (k : Session) (me left : Me Slot View) (found : ℕ) (more : List ℕ)
    → DriverLearns k me SendMore found left → unsent me.0.of_driver ≡ me.0.of_driver.pending ++ more
    → unsent left.0.of_driver ≡ more
unsent_next k me left found more t are =
    ap (λ m. unsent m.0.of_driver) t.left_is
    ∙ unsent_after_more k t.core more t.made.sound.of_words
    (ap unsent t.view_is ∙ are ∙ ap (λ d. d.pending ++ more) (sym t.view_is))

-- the seat, once a command is committed
abbrev pub seat_sending : Command → SeenDriverSeat → SeenDriverSeat
seat_sending command s = record s { view = sending s.view command }

pub sent_seat : (k : Session) (me left : Me Slot View) (found : ℕ) (own command : Command) (words : List ℕ)
    → Spells own words → Spells command words → DriverLearns k me (Commit own) found left
    → (table table' : TableId) → table' ≡ table
    → ◌≡◌ {A = SeenDriverSeat} (record { table = table'; view = left.0.of_driver; carried = left.1 })
    (record { table = table; view = sending me.0.of_driver command; carried = me.1 })
sent_seat k me left found own command words spells same t table table' tables =
    let view = sent_is k me left found own command words spells same t in
    λ i. record { table = tables i; view = view i; carried = ap (λ m. m.1) t.left_is i }
