-- What a load of STOP or NEXT_CMD tells, and which commands are taken.
use Rattle.std.proofs.Common.{◌≡◌, ℕ, ◌+◌, ◌<◌, ◌≤◌, inl, inr, List, [], ◌∷◌, ◌++◌, length, take, drop, slice_index, All, refl, sym, ap, ◌∙◌, arith, append_assoc, length-append, get_or}
use Rattle.std.proofs.lemmas.Bool.{cases_lt}
use Rattle.std.proofs.lemmas.Grind.{common_steps, flat_map-append}
use Rattle.std.proofs.lemmas.List.{length-take-le, take-append-drop, take-append-le, take_all}
use Rattle.std.proofs.lemmas.List.Elements.{All-take}
use Rattle.std.proofs.lemmas.List.Folds.{length-flat_map-take}
use Rattle.svga_cmd.specs.Spelling.{Spells, spelling}
use Rattle.svga_cmd.specs.WellFormed.{IsWellFormed}
use Rattle.svga_cmd.specs.declared.command.Command.{Command}
use Rattle.svga_cmd.specs.declared.command.Command.TheVariants.{Fence}
use Rattle.svga_cmd.specs.declared.session.Session.{Session}
use Rattle.svga_cmd.specs.declared.session.Way.{Way}
use Rattle.svga_model.proofs.GrammarFronts.{spelling_all-push}
use Rattle.svga_model.proofs.GrammarSpelled.{spelled_some}
use Rattle.svga_model.specs.Sentences.{spelling_all}
use Rattle.svga_ring.proofs.Words.NextCommand.{IsNext, next_command, well_formed}
use Rattle.svga_ring.proofs.Words.Turns.{IsWithinTurn, same_count}
use Rattle.svga_ring.specs.Committed.{commands}
use Rattle.svga_ring.specs.Core.{Core}
use Rattle.svga_ring.specs.Layouts.{Layout, ring_dwords, word_address}
use Rattle.svga_ring.specs.SharedTable.{next_word, stop_word}
use Rattle.svga_ring.specs.Sound.{IsSoundOfWords}
use Rattle.svga_ring.specs.SoundWords.{AreInOrder, AreInRing, IsTail}

-- Of the counts from the one known up to what is sent, one alone has the address of what is taken.
pub stop_tells : {way : Way} {lay : Layout} {cs : List Command} {sent pending taken read words : List ℕ}
    {done next stop : ℕ}
    → AreInOrder way cs sent taken read done next → AreInRing lay words sent pending taken stop
    → (n : ℕ) → stop ≤ n → n ≤ length sent → word_address lay n ≡ slice_index words stop_word
    → n ≡ length taken
stop_tells {lay = lay} {taken = taken} {stop = stop} order ring n least most e =
    let of_n : IsWithinTurn lay stop n = record { low = least; high = omega (arith, ring.room) } in
    let of_taken : IsWithinTurn lay stop (length taken) = record {
      low = ring.known_stop;
      high = omega (arith, ring.room, order.read_known, order.known_sent);
    } in
    same_count lay stop n (length taken) ring.base_known of_n of_taken (e ∙ ring.stop_is)

-- Of the counts from the one known on, less than a turn further, one alone has the address of what is sent.
pub next_tells : {way : Way} {lay : Layout} {cs : List Command} {sent pending taken read words : List ℕ}
    {done next stop : ℕ}
    → AreInOrder way cs sent taken read done next → AreInRing lay words sent pending taken stop
    → (n : ℕ) → next ≤ n → n < next + ring_dwords lay → word_address lay n ≡ slice_index words next_word
    → n ≡ length sent
next_tells {lay = lay} {sent = sent} {next = next} order ring n least most e =
    let of_n : IsWithinTurn lay next n = record { low = least; high = most } in
    let of_sent : IsWithinTurn lay next (length sent) = record {
      low = order.known_sent;
      high = omega (arith, ring.room, ring.known_stop, order.read_known);
    } in
    let base : lay.base ≤ next = omega (arith, ring.base_known, ring.known_stop, order.read_known) in
    same_count lay next n (length sent) base of_n of_sent (e ∙ ring.next_is)

-- the command that is read is the next of those that were committed
pub in_hand : {k : Session} {c : Core} (command : Command) → IsSoundOfWords k c → Spells command c.device.read
    → IsNext (commands c.driver.acts) c.device.done command c.device.read
in_hand {k = k} {c = c} command o spells =
    let e = c.device in
    let cs = commands c.driver.acts in
    let behind : List ℕ = o.order.ahead ++ o.order.rest in
    let sent_then : spelling_all cs ≡ ((e.taken ++ e.read) ++ o.order.ahead) ++ o.order.rest =
    o.order.acts_spelled ∙ ap (λ l. l ++ o.order.rest) o.order.read_follows_sent in
    let read_then : spelling_all cs ≡ (e.taken ++ e.read) ++ behind =
    sent_then ∙ append_assoc (e.taken ++ e.read) o.order.ahead o.order.rest in
    next_command cs e.done command e.read behind (well_formed k.limits c.driver.acts o.acts.each) spells
    (read_then ∙ ap (λ l. (l ++ e.read) ++ behind) o.order.taken_whole)

-- the first commands have no more words than all
spelling_take : (n : ℕ) (cs : List Command) → length (spelling_all (take n cs)) ≤ length (spelling_all cs)
spelling_take n cs =
    let front : List Command = take n cs in
    let back : List Command = drop n cs in
    let whole : spelling_all (front ++ back)
    ≡ spelling_all cs = ap (λ l. spelling_all l) (take-append-drop n cs) in
    let parts : spelling_all (front ++ back) ≡ spelling_all front ++ spelling_all back =
    flat_map-append spelling front back in
    omega (arith, ap length whole, ap length parts, length-append (spelling_all front) (spelling_all back))

-- a command that is left out has words, and more of them than a tail of the last one
left_out : (cs : List Command) (n : ℕ) (rest : List ℕ) → All IsWellFormed cs → n < length cs → IsTail cs rest
    → length (spelling_all cs) ≡ length (spelling_all (take n cs)) + length rest → ⊥
left_out cs n rest all left (inl none) e =
    let c : Command = get_or cs n (Fence 0) in
    let spells : Spells c (spelling c) = record { well_formed = all n (Fence 0) left; words = refl } in
    let some = spelled_some c (spelling c) spells in
    omega (arith, ap length none, some, length-flat_map-take spelling cs n (Fence 0) left)
left_out cs n rest all left (inr last) e =
    let front : List Command = last.0 in
    let c : Command = last.1 in
    let inside : n ≤ length front = omega (arith, ap length last.2, length-append front (c ∷ [])) in
    let begins : take n cs ≡ take n front = ap (λ l. take n l) last.2
    ∙ take-append-le n front (c ∷ []) inside in
    let taken : spelling_all (take n cs) ≡ spelling_all (take n front) = ap (λ l. spelling_all l) begins in
    let whole : spelling_all cs ≡ spelling_all front ++ spelling c =
    ap (λ l. spelling_all l) last.2 ∙ spelling_all-push front c in
    let few = spelling_take n front in
    omega (
      arith,
      last.3,
      few,
      ap length taken,
      ap length whole,
      length-append (spelling_all front) (spelling c),
    )

-- where all that is sent is taken, all commands are
pub all_done : {k : Session} {c : Core} → IsSoundOfWords k c → c.driver.sent ≡ c.device.taken
    → c.device.done ≡ length (commands c.driver.acts)
all_done {k = k} {c = c} o e =
    let cs = commands c.driver.acts in
    let done : ℕ = c.device.done in
    let order = o.order in
    let first : List ℕ = spelling_all (take done cs) in
    let words : spelling_all cs ≡ first ++ order.rest =
    order.acts_spelled ∙ ap (λ l. l ++ order.rest) (e ∙ order.taken_whole) in
    let count : length (spelling_all cs) ≡ length first + length order.rest =
    ap length words ∙ length-append first order.rest in
    let all = well_formed k.limits c.driver.acts o.acts.each in
    elim (cases_lt done (length cs)) as (λ _. done ≡ length cs) [
      | inl left ↦ absurd (left_out cs done order.rest all left order.rest_is_tail count)
      | inr past ↦ omega (arith, order.done_low)
    ]

-- fewer commands have fewer words
fewer_words : (cs : List Command) (n k : ℕ) → All IsWellFormed cs → n < k → k ≤ length cs
    → length (spelling_all (take n cs)) ≡ length (spelling_all (take k cs)) → ⊥
fewer_words cs n k all less within e =
    let front : List Command = take k cs in
    let count : length front ≡ k = length-take-le k cs within in
    let begins : take n front ≡ take n cs = take_within n k cs (omega arith) in
    let same : length (spelling_all (take n front)) ≡ length (spelling_all (take n cs)) =
    ap (λ l. length (spelling_all l)) begins in
    left_out front n [] (All-take IsWellFormed k cs all) (omega (arith, count)) (inl refl)
    (omega (arith, e, same))
  where
    take_within : (n k : ℕ) (cs : List Command) → n ≤ k → take n (take k cs) ≡ take n cs
    take_within n k cs less = grind (arith, common_steps)

-- so many words are so many commands
pub commands_told : (cs : List Command) (n k : ℕ) → All IsWellFormed cs → n ≤ length cs → k ≤ length cs
    → length (spelling_all (take n cs)) ≡ length (spelling_all (take k cs)) → n ≡ k
commands_told cs n k all n_within k_within e = elim (cases_lt n k) as (λ _. n ≡ k) [
  | inl less ↦ absurd (fewer_words cs n k all less k_within e)
  | inr past ↦ elim (cases_lt k n) as (λ _. n ≡ k) [
    | inl more ↦ absurd (fewer_words cs k n all more n_within (sym e))
    | inr same ↦ omega arith
  ]
]

-- and their words all are sent
pub taken_whole : {k : Session} {c : Core} → IsSoundOfWords k c → c.driver.sent ≡ c.device.taken
    → spelling_all (commands c.driver.acts) ≡ c.driver.sent
taken_whole {c = c} o e =
    let cs = commands c.driver.acts in
    sym (e ∙ o.order.taken_whole
    ∙ ap (λ l. spelling_all l) (take_all c.device.done cs (omega (arith, all_done o e))))
