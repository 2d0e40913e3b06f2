-- Each word that is sent goes on a command.
use Rattle.std.proofs.Common.{◌≡◌, ℕ, zero, suc, true, ◌≤◌, List, [], ◌∷◌, ◌++◌, ◌⊎◌, inl, inr, All, length, length-append, append_assoc, take, drop, take-append-drop, refl, sym, ap, subst, ◌∙◌, arith}
use Rattle.std.proofs.lemmas.Bool.{cases_lt}
use Rattle.std.proofs.lemmas.Grind.{flat_map-append}
use Rattle.std.proofs.lemmas.List.Elements.{All-head, All-tail}
use Rattle.svga_cmd.specs.Spelling.{Spells, spelling}
use Rattle.svga_cmd.specs.WellFormed.{IsWellFormed}
use Rattle.svga_cmd.specs.declared.command.Command.{Command}
use Rattle.svga_cmd.specs.declared.command.Command.TheVariants.{Fence}
use Rattle.svga_cmd.specs.declared.cause.Cause.{Cause}
use Rattle.svga_cmd.specs.declared.session.Session.{Session}
use Rattle.svga_decode.specs.Answers.{IsFedAnswer}
use Rattle.svga_decode.specs.declared.answer.Fed.{Fed}
use Rattle.svga_decode.specs.declared.answer.Fed.TheVariants.{More, Refused, Whole}
use Rattle.svga_model.specs.Sentences.{IsCommandBegun, spelling_all}
use Rattle.svga_ring.proofs.Words.NextCommand.{well_formed}
use Rattle.svga_ring.specs.Committed.{commands}
use Rattle.svga_ring.specs.Core.{Core, read_count}
use Rattle.svga_ring.specs.Sound.{IsSound}

-- the words of a command so far have one right answer
abbrev pub BeforeLast : Type 0
BeforeLast = (command : Command) (ws rest : List ℕ) (next : ℕ) (fed : Fed) → Spells command (ws ++ next ∷ rest)
    → IsFedAnswer fed ws → fed ≡ More

abbrev pub AtLast : Type 0
AtLast = (command : Command) (ws : List ℕ) (fed : Fed) → Spells command ws → IsFedAnswer fed ws → fed ≡ Whole

-- no command begins another
pub none_begins : BeforeLast → (command other : Command) (ws rest : List ℕ) (next : ℕ) → Spells command (ws ++ next ∷ rest)
    → Spells other ws → ⊥
none_begins before command other ws rest next spells part =
    let same : Whole ≡ More = before command ws rest next Whole spells (other, part) in cc

-- so words that begin one are none
pub not_whole : BeforeLast → (ws : List ℕ) → IsCommandBegun ws → (command : Command) → Spells command ws → ⊥
not_whole before ws begun command spells = none_begins before begun.0 command ws begun.2 begun.1 begun.3 spells

pub nothing_begun : IsCommandBegun []
nothing_begun = (Fence 0, 30, 0 ∷ [], record { well_formed = tt; words = refl })

front_of : (xs ys zs ws : List ℕ) → xs ++ ys ≡ zs ++ ws → length xs ≤ length zs → (rest : List ℕ) × (zs ≡ xs ++ rest)
front_of [] ys zs ws e low = (zs, refl)
front_of (x ∷ xs) ys [] ws e low = absurd (omega (arith, low))
front_of (x ∷ xs) ys (z ∷ zs) ws e low =
    let rest : xs ++ ys ≡ zs ++ ws = cc in
    let t = front_of xs ys zs ws rest (omega (arith, low)) in
    let more : zs ≡ xs ++ t.0 = t.1 in
    let same : x ≡ z = cc in (t.0, λ i. sym same i ∷ more i)

cancel : (t xs ys : List ℕ) → t ++ xs ≡ t ++ ys → xs ≡ ys
cancel [] xs ys e = e
cancel (x ∷ t) xs ys e = let rest : t ++ xs ≡ t ++ ys = cc in cancel t xs ys rest

-- where one more word is read of whole commands, it goes on the one that is begun
module _ (before : BeforeLast) (old : List ℕ) (word : ℕ) (begun : IsCommandBegun old) where
  past_it : (c : Command) (rest : List ℕ) → IsWellFormed c → old ≡ spelling c ++ rest → ⊥
  past_it c [] formed is =
      none_begins before begun.0 c old begun.2 begun.1 begun.3 (record {
        well_formed = formed;
        words = is ∙ append_nil (spelling c);
      })
    where
      append_nil : (l : List ℕ) → l ++ [] ≡ l
      append_nil [] = refl
      append_nil (x ∷ l) = ap (λ t. x ∷ t) (append_nil l)
  past_it c (y ∷ rest) formed is =
      let all : old ++ begun.1 ∷ begun.2 ≡ spelling c ++ y ∷ (rest ++ begun.1 ∷ begun.2) =
      ap (λ l. l ++ begun.1 ∷ begun.2) is ∙ append_assoc (spelling c) (y ∷ rest) (begun.1 ∷ begun.2) in
      none_begins before begun.0 c (spelling c) (rest ++ begun.1 ∷ begun.2) y (subst (Spells begun.0) all begun.3)
      (record { well_formed = formed; words = refl })

  pub goes_on : (cs : List Command) (behind : List ℕ) → All IsWellFormed cs → (old ++ word ∷ []) ++ behind ≡ spelling_all cs
      → (c : Command) × (rest : List ℕ) × Spells c ((old ++ word ∷ []) ++ rest)
  goes_on [] behind formed e =
      absurd (let long = ap length e in omega (arith, long, length-append (old ++ word ∷ []) behind, length-append old (word ∷ [])))
  goes_on (c ∷ cs) behind formed e = elim (cases_lt (length old) (length (spelling c))) as (λ _. (c : Command) × (rest : List ℕ) × Spells c ((old ++ word ∷ []) ++ rest)) [
    | inl less ↦ (
        let t = front_of (old ++ word ∷ []) behind (spelling c) (spelling_all cs) e (omega (arith, less, length-append old (word ∷ []))) in
        (c, t.0, record { well_formed = All-head IsWellFormed c cs formed; words = sym t.1 })
        )
    | inr past ↦ (
        let whole : spelling c ++ spelling_all cs ≡ old ++ (word ∷ [] ++ behind) = sym e ∙ append_assoc old (word ∷ []) behind in
        let t = front_of (spelling c) (spelling_all cs) old (word ∷ [] ++ behind) whole past in
        absurd (past_it c t.0 (All-head IsWellFormed c cs formed) t.1)
        )
  ]

-- what is read, and what follows, are the words of the commands that aren't done
pub read_then : (k : Session) (c : Core) → (o : IsSound k c)
    → c.device.read ++ (o.of_words.order.ahead ++ o.of_words.order.rest)
    ≡ spelling_all (drop c.device.done (commands c.driver.acts))
read_then k c o =
    let e = c.device in
    let cs = commands c.driver.acts in
    let order = o.of_words.order in
    let behind : List ℕ = order.ahead ++ order.rest in
    let front : List ℕ = spelling_all (take e.done cs) in
    let back : List ℕ = spelling_all (drop e.done cs) in
    let split : spelling_all cs ≡ front ++ back =
    ap (λ l. spelling_all l) (sym (take-append-drop e.done cs)) ∙ flat_map-append spelling (take e.done cs) (drop e.done cs) in
    let sent : spelling_all cs ≡ (e.taken ++ e.read) ++ behind =
    order.acts_spelled ∙ ap (λ l. l ++ order.rest) order.read_follows_sent ∙ append_assoc (e.taken ++ e.read) order.ahead order.rest in
    let taken : (e.taken ++ e.read) ++ behind ≡ front ++ (e.read ++ behind) =
    append_assoc e.taken e.read behind ∙ ap (λ l. l ++ (e.read ++ behind)) order.taken_whole in
    cancel front (e.read ++ behind) back (sym taken ∙ sym sent ∙ split)

all_drop : (n : ℕ) (cs : List Command) → All IsWellFormed cs → All IsWellFormed (drop n cs)
all_drop zero cs all = all
all_drop (suc n) [] all = all
all_drop (suc n) (c ∷ cs) all = all_drop n cs (All-tail IsWellFormed c cs all)

-- so one more word that is read goes on a command
pub word_goes_on : BeforeLast → (k : Session) (c : Core) → IsSound k c → (old : List ℕ) (word : ℕ) → IsCommandBegun old
    → c.device.read ≡ old ++ word ∷ [] → (d : Command) × (rest : List ℕ) × Spells d ((old ++ word ∷ []) ++ rest)
word_goes_on before k c o old word begun is =
    let cs = commands c.driver.acts in
    let behind : List ℕ = o.of_words.order.ahead ++ o.of_words.order.rest in
    goes_on before old word begun (drop c.device.done cs) behind
    (all_drop c.device.done cs (well_formed k.limits c.driver.acts o.of_words.acts.each))
    (ap (λ l. l ++ behind) (sym is) ∙ read_then k c o)

-- and is answered so
pub answered_so : BeforeLast → AtLast → (ws : List ℕ) (fed : Fed) → IsFedAnswer fed ws
    → (d : Command) × (rest : List ℕ) × Spells d (ws ++ rest) → (fed ≡ More) ⊎ (fed ≡ Whole)
answered_so before last ws fed answer (d, [], spells) = inr (last d ws fed (subst (Spells d) (nil ws) spells) answer)
  where
    nil : (l : List ℕ) → l ++ [] ≡ l
    nil [] = refl
    nil (x ∷ l) = ap (λ t. x ∷ t) (nil l)
answered_so before last ws fed answer (d, next ∷ rest, spells) = inl (before d ws rest next fed spells answer)

pub never_refused_word : (fed : Fed) (cause : Cause) → (fed ≡ More) ⊎ (fed ≡ Whole) → fed ≡ Refused cause → ⊥
never_refused_word fed cause (inl more) is = let e : More ≡ Refused cause = sym more ∙ is in cc
never_refused_word fed cause (inr whole) is = let e : Whole ≡ Refused cause = sym whole ∙ is in cc

nil_of : (ws : List ℕ) → length ws ≡ 0 → ws ≡ []
nil_of [] e = refl
nil_of (x ∷ ws) e = absurd (omega (arith, e))

-- where the words that are read are whole commands, and begin one, there are none
whole_read : BeforeLast → (read behind : List ℕ) → IsCommandBegun read → length behind ≡ 0 → (cs : List Command) → All IsWellFormed cs
    → read ++ behind ≡ spelling_all cs → read ≡ []
whole_read before read behind begun none [] formed e =
    nil_of read (let long = ap length e in omega (arith, long, length-append read behind))
whole_read before read behind begun none (c ∷ cs) formed e =
    let long : length (read ++ behind) ≡ length (spelling c ++ spelling_all cs) = ap length e in
    let t = front_of (spelling c) (spelling_all cs) read behind (sym e)
    (omega (arith, long, none, length-append read behind, length-append (spelling c) (spelling_all cs))) in
    absurd (past_it before read 0 begun c t.0 (All-head IsWellFormed c cs formed) t.1)

-- so where the driver has stopped and all is read, none is
pub stopped_read : BeforeLast → (k : Session) (c : Core) → IsSound k c → c.device.saw_stopped ≡ true → c.device.drained ≡ true
    → read_count c.device ≡ c.device.next → IsCommandBegun c.device.read → c.device.read ≡ []
stopped_read before k c o saw drained all begun =
    let e = c.device in
    let cs = commands c.driver.acts in
    let order = o.of_words.order in
    let known = (o.stops.next_since_stop drained).1 in
    let whole = ap length (o.stops.stopped_whole (o.stops.loaded_stop saw)) in
    let spelled = ap length order.acts_spelled in
    let sent = ap length order.read_follows_sent in
    let none : length (order.ahead ++ order.rest) ≡ 0 =
    omega (
      arith,
      known,
      whole,
      spelled,
      sent,
      all,
      length-append c.driver.sent order.rest,
      length-append (e.taken ++ e.read) order.ahead,
      length-append e.taken e.read,
      length-append order.ahead order.rest,
    ) in
    whole_read before e.read (order.ahead ++ order.rest) begun none (drop e.done cs)
    (all_drop e.done cs (well_formed k.limits c.driver.acts o.of_words.acts.each)) (read_then k c o)
