-- What stays of a driver's view over a reservation and its words.
use Rattle.std.proofs.Common.{◌≡◌, ℕ, List, Bool, true, false, if◌then◌else◌, Err, refl, sym, ap, subst, ◌∙◌}
use Rattle.svga_cmd.specs.declared.command.Command.{Command}
use Rattle.svga_link.specs.Ends.{DriverSeen}
use Rattle.svga_link.specs.ReserveAnswers.{IsBegun, ReserveAnswers}
use Rattle.svga_link.specs.Reserving.{MaySend, goes_in_place, putting}
use Rattle.svga_link.specs.Told.{StopTold, with_pending}
use Rattle.svga_link.specs.declared.reserving.Reserved.{Reserved}
use Rattle.svga_link.specs.declared.reserving.ReserveFault.{ReserveFault}
use Rattle.svga_link.specs.declared.reserving.ReserveFault.TheVariants.{NoRoom, Reserving, TooLarge, Unaligned}
use Rattle.svga_model.specs.Acts.{Act, Do}
use Rattle.svga_model.specs.Faults.{IsAdmissible}
use Rattle.svga_model.specs.Runs.{run}
use Rattle.svga_model.specs.States.{opening_state}
use Rattle.svga_ring.specs.Committed.{commands}
use Rattle.svga_ring.specs.Conditions.{IsNextFence, first_state}
use Rattle.svga_ring.specs.Views.{DriverView, Terms}
use Rattle.bench_ring.specs.Passing.{IsNext, IsReady, Stays}

-- all of it does where nothing happens,
pub stays_so : (d left : DriverView) → left ≡ d → Stays d left
stays_so d left same = record {
  terms = ap (λ (v : DriverView). v.terms) same;
  acts = ap (λ (v : DriverView). v.acts) same;
  sent = ap (λ (v : DriverView). v.sent) same;
  seen = ap (λ (v : DriverView). v.seen) same;
  request = ap (λ (v : DriverView). v.request) same;
  replies = ap (λ (v : DriverView). v.reply_loads) same;
  stopped = ap (λ (v : DriverView). v.stopped) same;
  lent = ap (λ (v : DriverView). v.lent) same;
}

pub stays_on : (a b c : DriverView) → Stays a b → Stays b c → Stays a c
stays_on a b c first second = record {
  terms = second.terms ∙ first.terms;
  acts = second.acts ∙ first.acts;
  sent = second.sent ∙ first.sent;
  seen = second.seen ∙ first.seen;
  request = second.request ∙ first.request;
  replies = second.replies ∙ first.replies;
  stopped = second.stopped ∙ first.stopped;
  lent = second.lent ∙ first.lent;
}

-- over a load of STOP,
pub stays_loaded : (d left : DriverView) (found : ℕ) → StopTold d left found → Stays d left
stays_loaded d left found told = record {
  terms = ap (λ (v : DriverView). v.terms) told.view;
  acts = ap (λ (v : DriverView). v.acts) told.view;
  sent = ap (λ (v : DriverView). v.sent) told.view;
  seen = ap (λ (v : DriverView). v.seen) told.view;
  request = ap (λ (v : DriverView). v.request) told.view;
  replies = ap (λ (v : DriverView). v.reply_loads) told.view;
  stopped = ap (λ (v : DriverView). v.stopped) told.view;
  lent = ap (λ (v : DriverView). v.lent) told.view;
}

-- where a reservation begins,
pub stays_begun : (d left : DriverView) (bytes : ℕ) (r : Reserved) → IsBegun d bytes r left → Stays d left
stays_begun d left bytes r begun = stays_on d begun.loaded left (stays_loaded d begun.loaded begun.stop begun.told) (record {
  terms = ap (λ (v : DriverView). v.terms) begun.left_is;
  acts = ap (λ (v : DriverView). v.acts) begun.left_is;
  sent = ap (λ (v : DriverView). v.sent) begun.left_is;
  seen = ap (λ (v : DriverView). v.seen) begun.left_is;
  request = ap (λ (v : DriverView). v.request) begun.left_is;
  replies = ap (λ (v : DriverView). v.reply_loads) begun.left_is;
  stopped = ap (λ (v : DriverView). v.stopped) begun.left_is;
  lent = ap (λ (v : DriverView). v.lent) begun.left_is;
})

-- where it is refused,
pub record Refused (d left : DriverSeen) : Type 0 where
  pub stays : Stays d.view left.view
  pub reserved : left.reserved ≡ d.reserved

refused_so : (d left : DriverSeen) → left ≡ d → Refused d left
refused_so d left same = record {
  stays = stays_so d.view left.view (ap (λ (s : DriverSeen). s.view) same);
  reserved = ap (λ (s : DriverSeen). s.reserved) same;
}

pub refused : (d left : DriverSeen) (bytes : ℕ) (fault : ReserveFault) → ReserveAnswers d bytes (Err fault) left → Refused d left
refused d left bytes TooLarge told = refused_so d left told.1
refused d left bytes Unaligned told = refused_so d left told.2
refused d left bytes Reserving told = refused_so d left told.3
refused d left bytes (NoRoom stop free) told = record {
  stays = stays_loaded d.view left.view stop told.1.told;
  reserved = ap (λ (s : DriverSeen). s.reserved) told.2;
}

-- and over a word that is put.
pub stays_put : (d : DriverView) (bytes word : ℕ) → Stays d (putting d bytes word)
stays_put d bytes word = go (goes_in_place d bytes) where
  go : (b : Bool) → Stays d (if b then with_pending d word else d)
  go true = record { terms = refl; acts = refl; sent = refl; seen = refl; request = refl; replies = refl; stopped = refl; lent = refl }
  go false = stays_so d d refl

-- so a driver that was ready stays so
pub ready_on : (d left : DriverSeen) → IsReady d → Stays d.view left.view → left.reserved ≡ d.reserved → IsReady left
ready_on d left ready stays same = record {
  runs = stays.stopped ∙ ready.runs;
  none_begun = same ∙ ready.none_begun;
  none_open = ap (λ r. r.number) stays.request ∙ ready.none_open ∙ sym (ap (λ l. l.last) stays.replies);
}

-- and may send what it might send
pub may_send : (d left : DriverView) (c : Command) (words : List ℕ) → IsNext d c words → d.request.number ≡ d.reply_loads.last
    → Stays d left → MaySend left words c
may_send d left c words next none stays = record {
  spelled = next.spelled;
  none_open = ap (λ r. r.number) stays.request ∙ none ∙ sym (ap (λ l. l.last) stays.replies);
  admissible = subst (λ (t : Terms). IsAdmissible (run (opening_state t.limits t.first) left.acts) (Do c)) (sym stays.terms)
      (subst (λ (acts : List Act). IsAdmissible (run (opening_state d.terms.limits d.terms.first) acts) (Do c)) (sym stays.acts) next.admissible);
  pages_lent = λ key touched. absurd (next.touches_none (run (first_state left) left.acts) key touched);
  fence = subst (λ (t : Terms). IsNextFence t.first (commands left.acts) left.seen c) (sym stays.terms)
      (subst (λ (acts : List Act). IsNextFence d.terms.first (commands acts) left.seen c) (sym stays.acts)
      (subst (λ seen. IsNextFence d.terms.first (commands d.acts) seen c) (sym stays.seen) next.fence));
}
