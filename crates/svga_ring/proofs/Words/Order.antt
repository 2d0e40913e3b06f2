-- The steps keep the words in order: those that are sent spell the commands, those that are taken the first
-- of them.
use Rattle.std.proofs.Common.{◌≡◌, ◌≢◌, inl, inr, ℕ, ◌+◌, ◌<◌, ◌≤◌, List, [], ◌∷◌, ◌++◌, length, take, drop, get_or, refl, sym, ap, ◌∙◌, arith, append_assoc, append-nil, length-append, add-one}
use Rattle.std.proofs.Math.Seq.{drop-append_seam, get_or-append_seam}
use Rattle.std.proofs.lemmas.List.{get_or_append_left, nil_from_length, take-append-le}
use Rattle.svga_cmd.specs.Spelling.{spelling}
use Rattle.svga_cmd.specs.declared.command.Command.{Command}
use Rattle.svga_cmd.specs.declared.session.Way.{Way}
use Rattle.svga_cmd.specs.declared.session.Way.TheVariants.{Reserve, Dword}
use Rattle.svga_model.proofs.GrammarFronts.{spelling_all-push}
use Rattle.svga_model.specs.Sentences.{spelling_all}
use Rattle.svga_ring.proofs.Words.NextCommand.{IsNext}
use Rattle.svga_ring.specs.Conditions.{ArePending, IsFrontOf}
use Rattle.svga_ring.specs.Layouts.{Layout, word_cell}
use Rattle.svga_ring.specs.SoundWords.{AreInOrder, AreInRing, IsKnownWhole, IsTail}

-- what is sent is the spelling of the commands but for a tail of the last one
pub record IsSpelled (way : Way) (cs : List Command) (sent : List ℕ) : Type 0 where
  pub rest : List ℕ
  pub acts_spelled : spelling_all cs ≡ sent ++ rest
  pub rest_is_tail : IsTail cs rest
  pub rest_by_dword : way ≡ Reserve → rest ≡ []

some_of : (ws : List ℕ) → ws ≢ [] → 0 < length ws
some_of [] ne = absurd (ne refl)
some_of (w ∷ ws) ne = omega arith

-- what isn't sent is the rest of the spelling
unsent_is : (cs : List Command) (sent rest : List ℕ) → spelling_all cs ≡ sent ++ rest
    → drop (length sent) (spelling_all cs) ≡ rest
unsent_is cs sent rest e = ap (λ l. drop (length sent) l) e ∙ drop-append_seam sent rest

-- where none is left all is sent
pub sent_whole : {way : Way} {cs : List Command} {sent taken read : List ℕ} {done next : ℕ}
    → AreInOrder way cs sent taken read done next → drop (length sent) (spelling_all cs) ≡ []
    → spelling_all cs ≡ sent
sent_whole {cs = cs} {sent = sent} o none =
    let no_rest : o.rest ≡ [] = sym (unsent_is cs sent o.rest o.acts_spelled) ∙ none in
    o.acts_spelled ∙ ap (λ l. sent ++ l) no_rest ∙ append-nil sent

pub none_unsent : (cs : List Command) (sent : List ℕ) → spelling_all cs ≡ sent
    → drop (length sent) (spelling_all cs) ≡ []
none_unsent cs sent e = unsent_is cs sent [] (e ∙ sym (append-nil sent))

by_dword : (pending rest ws : List ℕ) → pending ≢ [] → ws ≡ pending ++ rest → length rest < length ws
by_dword pending rest ws some e = omega (arith, some_of pending some, ap length e, length-append pending rest)

-- a command is committed: all its words are sent, or by dword some at the front
spelled_to : (way : Way) (cs : List Command) (c : Command) (sent pending : List ℕ) → spelling_all cs ≡ sent
    → ArePending way pending c → IsSpelled way (cs ++ c ∷ []) (sent ++ pending)
spelled_to Reserve cs c sent pending all are = record {
  rest = [];
  acts_spelled = spelling_all-push cs c ∙ (λ i. all i ++ sym are i) ∙ sym (append-nil (sent ++ pending));
  rest_is_tail = inl refl;
  rest_by_dword = λ e. refl;
}
spelled_to Dword cs c sent pending all are = record {
  rest = are.1.0;
  acts_spelled = spelling_all-push cs c ∙ (λ i. all i ++ are.1.1 i) ∙ sym (append_assoc sent pending are.1.0);
  rest_is_tail = inr (cs, c, refl, by_dword pending are.1.0 (spelling c) are.0 are.1.1);
  rest_by_dword = λ e. absurd (cc e);
}

pub order_commit : (way : Way) (cs : List Command) (c : Command) (sent pending taken read : List ℕ)
    (done next : ℕ)
    → drop (length sent) (spelling_all cs) ≡ [] → ArePending way pending c
    → AreInOrder way cs sent taken read done next
    → AreInOrder way (cs ++ c ∷ []) (sent ++ pending) taken read done next
order_commit way cs c sent pending taken read done next none are o =
    let all = sent_whole o none in
    let spelled = spelled_to way cs c sent pending all are in record {
      ahead = o.ahead ++ pending;
      read_follows_sent = ap (λ l. l ++ pending) o.read_follows_sent
          ∙ append_assoc (taken ++ read) o.ahead pending;
      done_low = omega (arith, o.done_low, length-append cs (c ∷ []));
      taken_whole = o.taken_whole ∙ ap (λ l. spelling_all l)
          (sym (take-append-le done cs (c ∷ []) o.done_low));
      read_known = o.read_known;
      known_sent = omega (arith, o.known_sent, length-append sent pending);
      rest = spelled.rest;
      acts_spelled = spelled.acts_spelled;
      rest_is_tail = spelled.rest_is_tail;
      rest_by_dword = spelled.rest_by_dword;
    }

shorter_tail : (cs : List Command) (rest more : List ℕ) → length more ≤ length rest → IsTail cs rest
    → IsTail cs more
shorter_tail cs rest more less (inl e) = inl (nil_from_length more (omega (arith, less, ap length e)))
shorter_tail cs rest more less (inr tail) = inr (tail.0, tail.1, tail.2, omega (arith, less, tail.3))

-- more words of the last command are sent
pub order_send : (way : Way) (cs : List Command) (sent pending taken read : List ℕ) (done next : ℕ)
    → IsFrontOf pending (drop (length sent) (spelling_all cs))
    → AreInOrder way cs sent taken read done next → AreInOrder way cs (sent ++ pending) taken read done next
order_send way cs sent pending taken read done next front o =
    let more : List ℕ = front.1.0 in
    let parts : o.rest ≡ pending ++ more = sym (unsent_is cs sent o.rest o.acts_spelled) ∙ front.1.1 in
    let shorter : length more ≤ length o.rest = omega (arith, ap length parts, length-append pending more) in
    record {
      ahead = o.ahead ++ pending;
      read_follows_sent = ap (λ l. l ++ pending) o.read_follows_sent
          ∙ append_assoc (taken ++ read) o.ahead pending;
      done_low = o.done_low;
      taken_whole = o.taken_whole;
      read_known = o.read_known;
      known_sent = omega (arith, o.known_sent, length-append sent pending);
      rest = more;
      acts_spelled = o.acts_spelled ∙ ap (λ l. sent ++ l) parts ∙ sym (append_assoc sent pending more);
      rest_is_tail = shorter_tail cs o.rest more shorter o.rest_is_tail;
      rest_by_dword = λ e. nil_from_length more (omega (arith, shorter, ap length (o.rest_by_dword e)));
    }

-- by reservations nothing is left of a command that is sent
pub none_more : {way : Way} {cs : List Command} {sent pending taken read : List ℕ} {done next : ℕ}
    → AreInOrder way cs sent taken read done next → way ≡ Reserve
    → IsFrontOf pending (drop (length sent) (spelling_all cs)) → ⊥
none_more {cs = cs} {sent = sent} {pending = pending} o reserves front =
    let more : List ℕ = front.1.0 in
    let parts : o.rest ≡ pending ++ more = sym (unsent_is cs sent o.rest o.acts_spelled) ∙ front.1.1 in
    omega (
      arith,
      ap length parts,
      ap length (o.rest_by_dword reserves),
      length-append pending more,
      some_of pending front.0,
    )

-- a front with the word behind it
abbrev IsLonger : List ℕ → List ℕ → Type 0
IsLonger xs sent = (more : List ℕ) × (sent ≡ (xs ++ get_or sent (length xs) 0 ∷ []) ++ more)

longer_front : (xs ahead sent : List ℕ) → sent ≡ xs ++ ahead → length xs < length sent → IsLonger xs sent
longer_front xs [] sent e less = absurd (omega (arith, less, ap length e, length-append xs []))
longer_front xs (y ∷ ys) sent e less =
    let word : get_or sent (length xs) 0 ≡ y = ap (λ l. get_or l (length xs) 0) e
    ∙ get_or-append_seam xs y ys 0 in
    (ys, e ∙ sym (append_assoc xs (y ∷ []) ys) ∙ ap (λ z. (xs ++ z ∷ []) ++ ys) (sym word))

-- one word more is read
pub order_read : (way : Way) (cs : List Command) (sent taken read : List ℕ) (done next word : ℕ)
    → length taken + length read < next → word ≡ get_or sent (length taken + length read) 0
    → AreInOrder way cs sent taken read done next → AreInOrder way cs sent taken (read ++ word ∷ []) done next
order_read way cs sent taken read done next word less is o =
    let count : length (taken ++ read) ≡ length taken + length read = length-append taken read in
    let within : length (taken ++ read) < length sent = omega (arith, less, o.known_sent, count) in
    let longer = longer_front (taken ++ read) o.ahead sent o.read_follows_sent within in
    let same : get_or sent (length (taken ++ read)) 0 ≡ word = ap (λ n. get_or sent n 0) count ∙ sym is in
    record {
      ahead = longer.0;
      read_follows_sent = longer.1 ∙ ap (λ w. ((taken ++ read) ++ w ∷ []) ++ longer.0) same
          ∙ ap (λ l. l ++ longer.0) (append_assoc taken read (word ∷ []));
      done_low = o.done_low;
      taken_whole = o.taken_whole;
      read_known = omega (arith, less, length-append read (word ∷ []));
      known_sent = o.known_sent;
      rest = o.rest;
      acts_spelled = o.acts_spelled;
      rest_is_tail = o.rest_is_tail;
      rest_by_dword = o.rest_by_dword;
    }

-- the word that stands in the cell of the next count is the next of those sent
pub loaded_word : (lay : Layout) (words sent pending taken : List ℕ) (stop n : ℕ) → length taken ≤ n
    → n < length sent
    → AreInRing lay words sent pending taken stop → get_or words (word_cell lay n) 0 ≡ get_or sent n 0
loaded_word lay words sent pending taken stop n low less o = o.cells n low (omega (arith, less))
    ∙ get_or_append_left sent pending 0 n less

-- what is read is taken
pub order_take : (way : Way) (cs : List Command) (c : Command) (sent taken read : List ℕ) (done next : ℕ)
    → IsNext cs done c read
    → AreInOrder way cs sent taken read done next → AreInOrder way cs sent (taken ++ read) [] (done + 1) next
order_take way cs c sent taken read done next is o = record {
  ahead = o.ahead;
  read_follows_sent = o.read_follows_sent ∙ ap (λ l. l ++ o.ahead) (sym (append-nil (taken ++ read)));
  done_low = omega (arith, is.there);
  taken_whole = ap (λ l. l ++ read) o.taken_whole ∙ sym is.spelled
      ∙ ap (λ n. spelling_all (take n cs)) (sym (add-one done));
  read_known = omega (arith, o.read_known, length-append taken read);
  known_sent = o.known_sent;
  rest = o.rest;
  acts_spelled = o.acts_spelled;
  rest_is_tail = o.rest_is_tail;
  rest_by_dword = o.rest_by_dword;
}

-- a command more leaves what is known
pub known_commit : (cs : List Command) (c : Command) (done stop passed : ℕ) → done ≤ length cs
    → IsKnownWhole cs done stop passed → IsKnownWhole (cs ++ c ∷ []) done stop passed
known_commit cs c done stop passed low o = record {
  passed_low = o.passed_low;
  stop_is = o.stop_is ∙ ap (λ l. length (spelling_all l))
      (sym (take-append-le passed cs (c ∷ []) (omega (arith, low, o.passed_low))));
}

-- and so does one more that is taken
pub known_take : (cs : List Command) (done stop passed : ℕ) → IsKnownWhole cs done stop passed
    → IsKnownWhole cs (done + 1) stop passed
known_take cs done stop passed o = record { passed_low = omega (arith, o.passed_low); stop_is = o.stop_is }

-- What isn't sent once pending words are: of a command that is committed, and of the last one.
pub unsent_commit : (way : Way) (cs : List Command) (c : Command) (sent pending more taken read : List ℕ)
    (done next : ℕ)
    → AreInOrder way cs sent taken read done next → drop (length sent) (spelling_all cs) ≡ []
    → spelling c ≡ pending ++ more
    → drop (length (sent ++ pending)) (spelling_all (cs ++ c ∷ [])) ≡ more
unsent_commit way cs c sent pending more taken read done next o none are =
    let all = sent_whole o none in
    unsent_is (cs ++ c ∷ []) (sent ++ pending) more
    (spelling_all-push cs c ∙ (λ i. all i ++ are i) ∙ sym (append_assoc sent pending more))

pub unsent_more : (way : Way) (cs : List Command) (sent pending more taken read : List ℕ) (done next : ℕ)
    → AreInOrder way cs sent taken read done next → drop (length sent) (spelling_all cs) ≡ pending ++ more
    → drop (length (sent ++ pending)) (spelling_all cs) ≡ more
unsent_more way cs sent pending more taken read done next o are =
    let rest : o.rest ≡ pending ++ more = sym (unsent_is cs sent o.rest o.acts_spelled) ∙ are in
    unsent_is cs (sent ++ pending) more
    (o.acts_spelled ∙ ap (λ l. sent ++ l) rest ∙ sym (append_assoc sent pending more))
