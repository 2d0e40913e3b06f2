-- Bad places: the table of refused words finds them, and words have one at most.
use Rattle.std.proofs.Common.{◌≡◌, ℕ, ◌+◌, ◌-◌, ◌≤◌, ◌<◌, ◌^◌, List, [], ◌∷◌, ◌++◌, length, take, drop, slice_index, Option, Some, None, refl, ap, sym, subst, ◌∙◌, arith, inl, inr, length-append, length-take, append_assoc}
use Rattle.std.proofs.Math.Seq.{take-append_seam, take-append-add}
use Rattle.std.proofs.lemmas.List.{drop_more, get_or-append_right, get_or_append_left, get_or_past, take-append-drop, take-append-le}
use Rattle.svga_cmd.specs.Spelled.{command_in}
use Rattle.svga_cmd.specs.declared.cause.Cause.{Cause}
use Rattle.svga_cmd.specs.declared.command.Command.{Command}
use Rattle.svga_model.specs.Accepted.{AreWords, IsCommandPart}
use Rattle.svga_model.specs.Endings.{IsBadWord, IsFront, IsRefusedAs}
use Rattle.svga_model.specs.Lengths.{whole_length}
use Rattle.svga_model.specs.Progress.{HasCome}
use Rattle.svga_model.specs.RefusedWords.{refusal}
use Rattle.svga_model.specs.Sentences.{Begins, IsCommandBegun, IsViable, SpellsSome, spelling_all}
use Rattle.svga_model.proofs.GrammarBegun.{part_begun}
use Rattle.svga_model.proofs.GrammarComplete.{complete_spells}
use Rattle.svga_model.proofs.GrammarFronts.{HasCome-more, HasCome-whole, begins_viable, come_front, come_viable, one_front, refused_front, refused_not_viable, viable_come}
use Rattle.svga_model.proofs.GrammarGrown.{IsGrown, grown_complete, grown_part}
use Rattle.svga_model.proofs.GrammarSpelled.{begun_part, refused_begins_none}
use Rattle.svga_model.proofs.GrammarTable.{is_or_not, le_or_lt}

-- what the table says of the last of these words of one command
abbrev pub verdict : List ℕ → ℕ → Option Cause
verdict front word = refusal (length front) (slice_index (front ++ word ∷ []) 0) (slice_index (front ++ word ∷ []) (length front))

-- Behind words that have begun, a word makes the command go on or whole, or the table refuses it and none
-- goes on with it.
pub data IsJudged (front : List ℕ) (word : ℕ) : Type 0 where
  goes_on : IsCommandBegun (front ++ word ∷ []) → IsJudged front word
  is_whole : SpellsSome (front ++ word ∷ []) → IsJudged front word
  is_refused : (why : Cause) → verdict front word ≡ Some why → (Begins (front ++ word ∷ []) → ⊥) → IsJudged front word

one_longer : (front : List ℕ) (word : ℕ) → length (front ++ word ∷ []) ≡ length front + 1
one_longer front word = length-append front (word ∷ [])

taken : (front : List ℕ) (word : ℕ) → IsCommandBegun front → AreWords (front ++ word ∷ []) → verdict front word ≡ None → IsJudged front word
taken front word begun words none = elim (is_or_not (length ws) (whole_length ws)) as (λ _. IsJudged front word) [
  | inl full ↦ is_whole (command_in ws, complete_spells ws words (grown_complete (length front) ws grown full))
  | inr less ↦ goes_on (part_begun ws words (grown_part (length front) ws grown less))
]
  where
    ws : List ℕ
    ws = front ++ word ∷ []

    grown : IsGrown (length front) (front ++ word ∷ [])
    grown = record { count = one_longer front word; part = subst IsCommandPart (sym (take-append_seam front (word ∷ []))) (begun_part front begun); taken = none }

pub judged : (front : List ℕ) (word : ℕ) → IsCommandBegun front → AreWords (front ++ word ∷ []) → IsJudged front word
judged front word begun words = by_table (verdict front word) refl where
  by_table : (o : Option Cause) → verdict front word ≡ o → IsJudged front word
  by_table None e = taken front word begun words e
  by_table (Some why) e = is_refused why e (refused_begins_none (length front) (front ++ word ∷ []) why (one_longer front word) e)

-- the words of the command in progress, among all words
behind : (cs : List Command) (more : List ℕ) (i : ℕ) → slice_index (spelling_all cs ++ more) (length (spelling_all cs) + i) ≡ slice_index more i
behind cs more i = get_or-append_right (spelling_all cs) more (length (spelling_all cs)) (length (spelling_all cs) + i) 0 refl (omega arith)
    ∙ ap (slice_index more) (let e : length (spelling_all cs) + i - length (spelling_all cs) ≡ i = omega arith in e)

all_words : (ws : List ℕ) (cs : List Command) (front : List ℕ) (word : ℕ) (rest : List ℕ) → HasCome ws cs front → ws ++ word ∷ rest ≡ spelling_all cs ++ ((front ++ word ∷ []) ++ rest)
all_words ws cs front word rest come = ap (λ t. t ++ word ∷ rest) come.words ∙ append_assoc (spelling_all cs) front (word ∷ rest) ∙ ap (λ t. spelling_all cs ++ t) (sym (append_assoc front (word ∷ []) rest))

in_command : (ws : List ℕ) (cs : List Command) (front : List ℕ) (word : ℕ) (rest : List ℕ) → HasCome ws cs front → (i : ℕ) → i < length (front ++ word ∷ []) → slice_index (ws ++ word ∷ rest) (length (spelling_all cs) + i) ≡ slice_index (front ++ word ∷ []) i
in_command ws cs front word rest come i l = ap (λ t. slice_index t (length (spelling_all cs) + i)) (all_words ws cs front word rest come) ∙ behind cs ((front ++ word ∷ []) ++ rest) i ∙ get_or_append_left (front ++ word ∷ []) rest 0 i l

come_length : (ws : List ℕ) (cs : List Command) (front : List ℕ) → HasCome ws cs front → length ws ≡ length (spelling_all cs) + length front
come_length ws cs front come = ap length come.words ∙ length-append (spelling_all cs) front

pub command_words : (ws : List ℕ) (cs : List Command) (front : List ℕ) (word : ℕ) (rest : List ℕ) → HasCome ws cs front → AreWords (ws ++ word ∷ rest) → AreWords (front ++ word ∷ [])
command_words ws cs front word rest come words i = elim (le_or_lt (length (front ++ word ∷ [])) i) as (λ _. slice_index (front ++ word ∷ []) i < 2 ^ 32) [
  | inl past ↦ subst (λ k. k < 2 ^ 32) (sym (get_or_past (front ++ word ∷ []) i 0 past)) (omega arith)
  | inr l ↦ subst (λ k. k < 2 ^ 32) (in_command ws cs front word rest come i l) (words (length (spelling_all cs) + i))
]

-- the table's verdict on the next word, by the numbers of all words
abbrev pub verdict_at : List ℕ → List Command → ℕ → Option Cause
verdict_at ws cs k = let start = length (spelling_all cs) in refusal (k - start) (slice_index ws start) (slice_index ws k)

pub verdict_at-come : (ws : List ℕ) (cs : List Command) (front : List ℕ) (word : ℕ) (rest : List ℕ) → HasCome ws cs front → verdict_at (ws ++ word ∷ rest) cs (length ws) ≡ verdict front word
verdict_at-come ws cs front word rest come = λ i. refusal (number i) (id i) (last i) where
  number : length ws - length (spelling_all cs) ≡ length front
  number = omega (arith, come_length ws cs front come)

  id : slice_index (ws ++ word ∷ rest) (length (spelling_all cs)) ≡ slice_index (front ++ word ∷ []) 0
  id = ap (slice_index (ws ++ word ∷ rest)) (let e : length (spelling_all cs) ≡ length (spelling_all cs) + 0 = omega arith in e) ∙ in_command ws cs front word rest come 0 (omega (arith, one_longer front word))

  last : slice_index (ws ++ word ∷ rest) (length ws) ≡ slice_index (front ++ word ∷ []) (length front)
  last = ap (slice_index (ws ++ word ∷ rest)) (come_length ws cs front come) ∙ in_command ws cs front word rest come (length front) (omega (arith, one_longer front word))

pub up_to : (ws : List ℕ) (word : ℕ) (rest : List ℕ) → take (length ws) (ws ++ word ∷ rest) ≡ ws
up_to ws word rest = take-append_seam ws (word ∷ rest)

pub up_to_next : (ws : List ℕ) (word : ℕ) (rest : List ℕ) → take (length ws + 1) (ws ++ word ∷ rest) ≡ ws ++ word ∷ []
up_to_next ws word rest = take-append-add ws (word ∷ rest) 1

-- a word with which no command goes on is the bad word
pub refused_bad_word : (ws : List ℕ) (cs : List Command) (front : List ℕ) (word : ℕ) (rest : List ℕ) → HasCome ws cs front → (Begins (front ++ word ∷ []) → ⊥) → IsBadWord (ws ++ word ∷ rest) (length ws)
refused_bad_word ws cs front word rest come refused = record {
  within = omega (arith, length-append ws (word ∷ rest));
  viable_before = subst IsViable (sym (up_to ws word rest)) (come_viable ws cs front come);
  not_after = λ v. refused_not_viable ws cs front word come refused (subst IsViable (up_to_next ws word rest) v);
}

pub refused_as : (ws : List ℕ) (cs : List Command) (front : List ℕ) (word : ℕ) (rest : List ℕ) (why : Cause) → HasCome ws cs front → verdict front word ≡ Some why → IsRefusedAs (ws ++ word ∷ rest) cs (length ws) why
refused_as ws cs front word rest why come e = record { by_table = verdict_at-come ws cs front word rest come ∙ e }

-- words and the one at place k
pub split_at : (ws : List ℕ) (k : ℕ) → k < length ws → take k ws ++ slice_index ws k ∷ drop (k + 1) ws ≡ ws
split_at ws k l = ap (λ t. take k ws ++ t) (sym (drop_more ws k 0 l)) ∙ take-append-drop k ws

-- what is shown of words that come one after another holds at place k
at_place : (P : List ℕ → ℕ → Type 0) (ws : List ℕ) (k : ℕ) → k < length ws → P (take k ws ++ slice_index ws k ∷ drop (k + 1) ws) (length (take k ws)) → P ws k
at_place P ws k l h = subst (P ws) (let e : length (take k ws) ≡ k = omega (arith, length-take k ws) in e) (subst (λ t. P t (length (take k ws))) (split_at ws k l) h)

-- A word that the table refuses behind a viable beginning is the bad word.
pub table_bad_word : (ws : List ℕ) (cs : List Command) (k : ℕ) (why : Cause) → k < length ws → IsViable (take k ws) → IsFront (take k ws) cs → IsRefusedAs ws cs k why → IsBadWord ws k
table_bad_word ws cs k why l v f r = at_place (λ t n. IsRefusedAs t cs n why → IsBadWord t n) ws k l found r where
  word : ℕ
  word = slice_index ws k

  rest : List ℕ
  rest = drop (k + 1) ws

  found : IsRefusedAs (take k ws ++ slice_index ws k ∷ drop (k + 1) ws) cs (length (take k ws)) why → IsBadWord (take k ws ++ slice_index ws k ∷ drop (k + 1) ws) (length (take k ws))
  found r =
      let other = viable_come (take k ws) v in
      let same : other.0 ≡ cs = one_front (take k ws) other.0 cs (come_front (take k ws) other.0 other.1 other.2) f in
      let come : HasCome (take k ws) cs other.1 = subst (λ t. HasCome (take k ws) t other.1) same other.2 in
      refused_bad_word (take k ws) cs other.1 word rest come
      (refused_begins_none (length other.1) (other.1 ++ word ∷ []) why (one_longer other.1 word) (sym (verdict_at-come (take k ws) cs other.1 word rest come) ∙ r.by_table))

-- And the table refuses the bad word.
pub bad_word_refused : (ws : List ℕ) (cs : List Command) (k : ℕ) → AreWords ws → IsFront (take k ws) cs → IsBadWord ws k → (why : Cause) × IsRefusedAs ws cs k why
bad_word_refused ws cs k words f bad = at_place (λ t n. AreWords t → (IsViable (take (n + 1) t) → ⊥) → (why : Cause) × IsRefusedAs t cs n why) ws k bad.within found words bad.not_after where
  word : ℕ
  word = slice_index ws k

  rest : List ℕ
  rest = drop (k + 1) ws

  found : AreWords (take k ws ++ slice_index ws k ∷ drop (k + 1) ws) → (IsViable (take (length (take k ws) + 1) (take k ws ++ slice_index ws k ∷ drop (k + 1) ws)) → ⊥) → (why : Cause) × IsRefusedAs (take k ws ++ slice_index ws k ∷ drop (k + 1) ws) cs (length (take k ws)) why
  found w no_more =
      let other = viable_come (take k ws) bad.viable_before in
      let same : other.0 ≡ cs = one_front (take k ws) other.0 cs (come_front (take k ws) other.0 other.1 other.2) f in
      let come : HasCome (take k ws) cs other.1 = subst (λ t. HasCome (take k ws) t other.1) same other.2 in
      by_verdict other.1 come (judged other.1 word come.begun (command_words (take k ws) cs other.1 word rest come w)) no_more
    where
      by_verdict : (front : List ℕ) → HasCome (take k ws) cs front → IsJudged front (slice_index ws k) → (IsViable (take (length (take k ws) + 1) (take k ws ++ slice_index ws k ∷ drop (k + 1) ws)) → ⊥) → (why : Cause) × IsRefusedAs (take k ws ++ slice_index ws k ∷ drop (k + 1) ws) cs (length (take k ws)) why
      by_verdict front come (goes_on begun) no_more = absurd (no_more (subst IsViable (sym (up_to_next (take k ws) word rest)) (come_viable (take k ws ++ word ∷ []) cs (front ++ word ∷ []) (HasCome-more (take k ws) cs front word come begun))))
      by_verdict front come (is_whole s) no_more = absurd (no_more (subst IsViable (sym (up_to_next (take k ws) word rest)) (come_viable (take k ws ++ word ∷ []) (cs ++ s.0 ∷ []) [] (HasCome-whole (take k ws) cs front word s.0 come s.1))))
      by_verdict front come (is_refused why e none) no_more = (why, refused_as (take k ws) cs front word rest why come e)

-- before the bad word stand the commands of the front of all words
pub front_at_bad_word : (ws : List ℕ) (cs : List Command) (k : ℕ) → IsBadWord ws k → IsFront (take k ws) cs → IsFront ws cs
front_at_bad_word ws cs k bad f = at_place (λ t n. (IsViable (take (n + 1) t) → ⊥) → IsFront t cs) ws k bad.within found bad.not_after where
  word : ℕ
  word = slice_index ws k

  rest : List ℕ
  rest = drop (k + 1) ws

  found : (IsViable (take (length (take k ws) + 1) (take k ws ++ slice_index ws k ∷ drop (k + 1) ws)) → ⊥) → IsFront (take k ws ++ slice_index ws k ∷ drop (k + 1) ws) cs
  found no_more =
      let other = viable_come (take k ws) bad.viable_before in
      let same : other.0 ≡ cs = one_front (take k ws) other.0 cs (come_front (take k ws) other.0 other.1 other.2) f in
      let come : HasCome (take k ws) cs other.1 = subst (λ t. HasCome (take k ws) t other.1) same other.2 in
      refused_front (take k ws) cs other.1 word rest come
      (λ b. no_more (subst IsViable (sym (up_to_next (take k ws) word rest)) (begins_viable (take k ws ++ word ∷ []) (other.1 ++ word ∷ []) cs come.well_formed (ap (λ t. t ++ word ∷ []) come.words ∙ append_assoc (spelling_all cs) other.1 (word ∷ [])) b)))

pub front_up_to_bad_word : (ws : List ℕ) (cs : List Command) (k : ℕ) → IsBadWord ws k → IsFront ws cs → IsFront (take k ws) cs
front_up_to_bad_word ws cs k bad f =
    let other = viable_come (take k ws) bad.viable_before in
    let front : IsFront (take k ws) other.0 = come_front (take k ws) other.0 other.1 other.2 in
    subst (IsFront (take k ws)) (one_front ws other.0 cs (front_at_bad_word ws other.0 k bad front) f) front

-- the beginning of a viable list is viable
pub viable_front : (ws rest : List ℕ) → IsViable (ws ++ rest) → IsViable ws
viable_front ws rest v = (v.0, rest ++ v.1, record { well_formed = v.2.well_formed; words = sym (append_assoc ws rest v.1) ∙ v.2.words })

pub viable_take : (ws : List ℕ) (k : ℕ) → IsViable ws → IsViable (take k ws)
viable_take ws k v = viable_front (take k ws) (drop k ws) (subst IsViable (sym (take-append-drop k ws)) v)

before : (ws : List ℕ) (j k : ℕ) → j ≤ k → k ≤ length ws → IsViable (take k ws) → IsViable (take j ws)
before ws j k l within v = subst IsViable shorter (viable_take (take k ws) j v) where
  shorter : take j (take k ws) ≡ take j ws
  shorter = sym (take-append-le j (take k ws) (drop k ws) (omega (arith, length-take k ws))) ∙ ap (take j) (take-append-drop k ws)

-- words have one bad word at most
pub one_bad_word : (ws : List ℕ) (j k : ℕ) → IsBadWord ws j → IsBadWord ws k → j ≡ k
one_bad_word ws j k a b = elim (le_or_lt j k) as (λ _. j ≡ k) [
  | inl l ↦ elim (le_or_lt k j) as (λ _. j ≡ k) [
    | inl m ↦ omega arith
    | inr m ↦ absurd (a.not_after (before ws (j + 1) k (omega arith) (omega (arith, b.within)) b.viable_before))
  ]
  | inr l ↦ absurd (b.not_after (before ws (k + 1) j (omega arith) (omega (arith, a.within)) a.viable_before))
]
