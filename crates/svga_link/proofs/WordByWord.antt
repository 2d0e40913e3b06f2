-- Words that are put and sent, one by one.
use Rattle.std.proofs.Common.{◌≡◌, ◌≢◌, ℕ, ◌+◌, ◌<◌, List, [], ◌∷◌, ◌++◌, append_assoc, length, length-append, take, drop, slice_index, refl, sym, ap, subst, ◌∙◌, arith}
use Rattle.std.proofs.lemmas.List.{drop_more, length-take-le, take_all, take_more}
use Rattle.svga_cmd.specs.Spelling.{Spells, spelling}
use Rattle.svga_cmd.specs.declared.command.Command.{Command}
use Rattle.svga_cmd.specs.declared.session.Way.TheVariants.{Dword, Reserve}
use Rattle.svga_model.specs.Acts.{Do}
use Rattle.svga_ring.specs.Conditions.{ArePending, IsFrontOf, MayCommit, MayStoreCell, unsent}
use Rattle.svga_ring.specs.Core.{put_count}
use Rattle.svga_ring.specs.Views.{DriverView}
use Rattle.svga_link.specs.Reserving.{HasRoom, MaySend}
use Rattle.svga_link.specs.Seats.{SeenDriverSeat}
use Rattle.svga_link.specs.Told.{committed, sending, store_count, sending_more, with_all_pending, with_pending}

-- a seat with another view
abbrev seat_with : SeenDriverSeat → DriverView → SeenDriverSeat
seat_with s d = record s { view = d }

abbrev seat_sending : Command → SeenDriverSeat → SeenDriverSeat
seat_sending c s = record s { view = sending s.view c }

abbrev seat_sending_more : SeenDriverSeat → SeenDriverSeat
seat_sending_more s = record s { view = sending_more s.view }

abbrev seat_with_pending : ℕ → SeenDriverSeat → SeenDriverSeat
seat_with_pending word s = record s { view = with_pending s.view word }

-- One more of the words is put, of those that have room.
pub may_put : (d : DriverView) (words : List ℕ) (i : ℕ) → HasRoom d (length words) → i < length words
    → MayStoreCell (with_all_pending d (take i words))
may_put d words i room less =
    let long = length-take-le i words (omega (arith, less)) in
    let count = length-append d.pending (take i words) in record {
      runs = room.runs;
      reserved = room.reserved;
      room = omega (arith, room.room, less, long, count);
      short = omega (arith, room.short, less, long, count);
    }

pub put_more : (d : DriverView) (words : List ℕ) (i : ℕ) → i < length words
    → with_pending (with_all_pending d (take i words)) (slice_index words i) ≡ with_all_pending d (take (i + 1) words)
put_more d words i less =
    let more = append_assoc d.pending (take i words) (slice_index words i ∷ []) ∙ ap (λ w. d.pending ++ w) (sym (take_more words i 0 less)) in
    λ k. record d { pending = more k }

-- The pending words are of a command by reservations that are all of it.
pub may_commit : (d : DriverView) (c : Command) → d.terms.way ≡ Reserve → unsent d ≡ [] → MaySend d d.pending c → MayCommit d c
may_commit d c way all_sent may = record {
  all_sent = all_sent;
  spelled = record { well_formed = may.spelled.well_formed; words = refl };
  pending = subst (λ w. ArePending w d.pending c) (sym way) may.spelled.words;
  none_open = may.none_open;
  admissible = may.admissible;
  pages_lent = may.pages_lent;
  fence = may.fence;
  by_dword = λ other. absurd (cc (way, other));
}

-- the command's first word alone is, by dword
pub may_commit_first : (d : DriverView) (words : List ℕ) (c : Command) → d.terms.way ≡ Dword → unsent d ≡ [] → d.pending ≡ []
    → 0 < length words → MaySend d words c → MayCommit (with_pending d (slice_index words 0)) c
may_commit_first d words c way all_sent none some may =
    let first : d.pending ++ slice_index words 0 ∷ [] ≡ slice_index words 0 ∷ [] = ap (λ p. p ++ slice_index words 0 ∷ []) none in
    let front : IsFrontOf (slice_index words 0 ∷ []) (spelling c) =
    ((λ e. absurd (cc e)), (drop 1 words, sym may.spelled.words ∙ drop_more words 0 0 some)) in record {
      all_sent = all_sent;
      spelled = record { well_formed = may.spelled.well_formed; words = refl };
      pending = subst (λ w. ArePending w (d.pending ++ slice_index words 0 ∷ []) c) (sym way) (subst (λ p. IsFrontOf p (spelling c)) (sym first) front);
      none_open = may.none_open;
      admissible = may.admissible;
      pages_lent = may.pages_lent;
      fence = may.fence;
      by_dword = λ _. ap length first;
    }

-- the view when so many words of the command are sent
abbrev pub sent_up_to : DriverView → Command → List ℕ → ℕ → DriverView
sent_up_to d c words i = record d {
  acts = d.acts ++ Do c ∷ [];
  sent = d.sent ++ take i words;
  pending = [];
  next_stores = d.next_stores + i;
}

pub record IsSentUpTo (seat : SeenDriverSeat) (words : List ℕ) (i : ℕ) (left : SeenDriverSeat) : Type 0 where
  pub seat_is : (c : Command) → Spells c words → left ≡ record seat { view = sent_up_to seat.view c words i }
  pub unsent_are : unsent left.view ≡ drop i words

-- the first of them is sent
pub sent_first_of : (seat : SeenDriverSeat) (words : List ℕ) (c : Command) → seat.view.pending ≡ [] → 0 < length words
    → sending (with_pending seat.view (slice_index words 0)) c ≡ sent_up_to seat.view c words 1
sent_first_of seat words c none some =
    let one = ap (λ p. seat.view.sent ++ (p ++ slice_index words 0 ∷ [])) none ∙ ap (λ w. seat.view.sent ++ w) (sym (take_more words 0 0 some)) in
    λ k. record seat.view {
      acts = seat.view.acts ++ Do c ∷ [];
      sent = one k;
      pending = [];
      next_stores = seat.view.next_stores + 1;
    }

-- and one more of them
pub sent_one_more : (d : DriverView) (words : List ℕ) (c : Command) (i : ℕ) → i < length words
    → sending_more (with_pending (sent_up_to d c words i) (slice_index words i)) ≡ sent_up_to d c words (i + 1)
sent_one_more d words c i less =
    let more = append_assoc d.sent (take i words) (slice_index words i ∷ []) ∙ ap (λ w. d.sent ++ w) (sym (take_more words i 0 less)) in
    let count : d.next_stores + i + 1 ≡ d.next_stores + (i + 1) = omega arith in
    λ k. record d { acts = d.acts ++ Do c ∷ []; sent = more k; pending = []; next_stores = count k }

pub may_put_more : (seat left : SeenDriverSeat) (words : List ℕ) (i : ℕ) (c : Command) → Spells c words
    → IsSentUpTo seat words i left → seat.view.terms.way ≡ Dword → seat.view.pending ≡ [] → HasRoom seat.view (length words)
    → i < length words → MayStoreCell left.view
may_put_more seat left words i c spells is way none room less =
    let long = length-take-le i words (omega (arith, less)) in
    let count = length-append seat.view.sent (take i words) in
    let before : put_count seat.view ≡ length seat.view.sent = omega (arith, ap length none) in
    let there : MayStoreCell (sent_up_to seat.view c words i) = record {
      runs = room.runs;
      reserved = λ other. absurd (cc (way, other));
      room = omega (arith, room.room, less, long, count, before);
      short = omega (arith, room.short, less, long, count, before);
    } in
    subst (λ s. MayStoreCell s.view) (sym (is.seat_is c spells)) there

-- the seat when its first word is put and sent
pub first_sent : (seat put left : SeenDriverSeat) (words : List ℕ) → seat.view.pending ≡ [] → 0 < length words
    → put ≡ record seat { view = with_pending seat.view (slice_index words 0) }
    → ((c : Command) → Spells c words → left ≡ record put { view = sending put.view c })
    → ((more : List ℕ) → words ≡ put.view.pending ++ more → unsent left.view ≡ more) → IsSentUpTo seat words 1 left
first_sent seat put left words none some put_is sent_is unsent_is = record {
  seat_is = λ c spells. sent_is c spells
      ∙ ap (seat_sending c) put_is ∙ ap (seat_with seat) (sent_first_of seat words c none some);
  unsent_are = unsent_is (drop 1 words) (drop_more words 0 0 some
      ∙ ap (λ p. (p ++ slice_index words 0 ∷ []) ++ drop 1 words) (sym none)
      ∙ sym (ap (λ s. s.view.pending ++ drop 1 words) put_is));
}

-- one more word is put
pub record IsPut (words : List ℕ) (i : ℕ) (put : SeenDriverSeat) : Type 0 where
  pub some : put.view.pending ≢ []
  pub unsent_are : unsent put.view ≡ put.view.pending ++ drop (i + 1) words
  pub one : length put.view.pending ≡ 1

pub more_put : (seat left put : SeenDriverSeat) (words : List ℕ) (i : ℕ) (c : Command) → Spells c words
    → IsSentUpTo seat words i left → i < length words
    → put ≡ record left { view = with_pending left.view (slice_index words i) } → IsPut words i put
more_put seat left put words i c spells is less put_is =
    let none : left.view.pending ≡ [] = ap (λ s. s.view.pending) (is.seat_is c spells) in
    let pending : put.view.pending ≡ slice_index words i ∷ [] =
    ap (λ s. s.view.pending) put_is ∙ ap (λ p. p ++ slice_index words i ∷ []) none in record {
      some = λ e. cc (pending, e);
      unsent_are = ap (λ s. unsent s.view) put_is ∙ is.unsent_are ∙ drop_more words i 0 less
          ∙ ap (λ p. p ++ drop (i + 1) words) (sym pending);
      one = ap length pending;
    }

-- and sent
pub more_sent : (seat left put sent : SeenDriverSeat) (words : List ℕ) (i : ℕ)
    → IsSentUpTo seat words i left → i < length words
    → put ≡ record left { view = with_pending left.view (slice_index words i) }
    → sent ≡ record put { view = sending_more put.view } → unsent sent.view ≡ drop (i + 1) words
    → IsSentUpTo seat words (i + 1) sent
more_sent seat left put sent words i is less put_is sent_is unsent_are = record {
  seat_is = λ c spells. sent_is ∙ ap seat_sending_more (put_is ∙ ap (seat_with_pending (slice_index words i)) (is.seat_is c spells))
      ∙ ap (seat_with seat) (sent_one_more seat.view words c i less);
  unsent_are = unsent_are;
}

-- By the last of them the command is sent as a whole.
all_sent_of : (d : DriverView) (words : List ℕ) (c : Command) → d.terms.way ≡ Dword → d.reserved ≡ 0
    → sent_up_to d c words (length words) ≡ committed d c words
all_sent_of d words c way none =
    let count : d.next_stores + length words ≡ d.next_stores + store_count d.terms.way (length words) =
    ap (λ w. d.next_stores + store_count w (length words)) (sym way) in
    λ k. record d {
      acts = d.acts ++ Do c ∷ [];
      sent = d.sent ++ take_all (length words) words (omega arith) k;
      pending = [];
      reserved = none k;
      next_stores = count k;
    }

pub whole_sent : (seat left : SeenDriverSeat) (words : List ℕ) (i : ℕ) → IsSentUpTo seat words i left → i ≡ length words
    → seat.view.terms.way ≡ Dword → seat.view.reserved ≡ 0 → (c : Command) → Spells c words
    → left ≡ record seat { view = committed seat.view c words }
whole_sent seat left words i is all way none c spells =
    is.seat_is c spells ∙ ap (λ n. seat_with seat (sent_up_to seat.view c words n)) all
    ∙ ap (seat_with seat) (all_sent_of seat.view words c way none)
