-- What the first words of a command say of the command that begins with them.
use Rattle.std.proofs.Common.{◌≡◌, ℕ, ◌+◌, ◌-◌, ◌≤◌, ◌<◌, ◌^◌, List, length, take, drop, slice_index, refl, ap, sym, subst, ◌∙◌, Some, None, arith, inl, inr, length-take, length-drop, min, Option, ◌==◌, ◌&&◌, if◌then◌else◌}
use Rattle.std.proofs.lemmas.Bool.Decides.{nat_tests}
use Rattle.std.proofs.lemmas.List.{get_or-take, get_or-drop, get_or_past}
use Rattle.svga_cmd.specs.Spelled.{command_in}
use Rattle.svga_decode.specs.Answers.{IsFedAnswer}
use Rattle.svga_decode.specs.Nexts.{AreFirstAccepted, IsNext, IsRefusedIn}
use Rattle.svga_cmd.specs.declared.cause.Cause.{Cause}
use Rattle.svga_cmd.specs.declared.constants.TheConstants.{SVGA_CMD_DEFINE_GMRFB, SVGA_CMD_DEFINE_SCREEN, SVGA_CMD_REMAP_GMR2}
use Rattle.svga_decode.specs.declared.answer.Fed.TheVariants as fed
use Rattle.svga_decode.specs.declared.next.Next.TheVariants.{Whole, Refused, Torn}
use Rattle.svga_model.specs.Accepted.{AreAccepted, AreWords, IsCommandWhole, IsCommandPart}
use Rattle.svga_model.specs.Lengths.{count_by_id, whole_length}
use Rattle.svga_model.specs.RefusedWords.{refusal, refusal_of_id, refusal_of_flags, refusal_of_format, refusal_of_pages, refusal_of_size}
use Rattle.svga_model.specs.Sentences.{SpellsSome}
use Rattle.svga_model.proofs.GrammarBegun.{part_begun}
use Rattle.svga_model.proofs.GrammarComplete.{complete_spells}
use Rattle.svga_model.proofs.GrammarLengths.{one_at_least, one_more}
use Rattle.svga_model.proofs.GrammarSpelled.{refused_begins_none}
use Rattle.svga_model.proofs.GrammarTable.{IsKnown, known, le_or_lt}

-- word i behind word `first`
pub at_drop : (first i n : ℕ) (ws : List ℕ) → first + i ≡ n → slice_index (drop first ws) i ≡ slice_index ws n
at_drop first i n ws e = get_or-drop first ws i 0 ∙ ap (slice_index ws) e

words_take : (n : ℕ) (ws : List ℕ) → AreWords ws → AreWords (take n ws)
words_take n ws w i = elim (le_or_lt n i) as (λ _. slice_index (take n ws) i < 2 ^ 32) [
  | inl past ↦ let e : slice_index (take n ws) i ≡ 0 = get_or_past (take n ws) i 0 (omega (arith, length-take n ws)) in omega arith
  | inr less ↦ subst (λ k. k < 2 ^ 32) (sym (get_or-take n ws i 0 less)) (w i)
]

words_drop : (n : ℕ) (ws : List ℕ) → AreWords ws → AreWords (drop n ws)
words_drop n ws w i = subst (λ k. k < 2 ^ 32) (sym (get_or-drop n ws i 0)) (w (n + i))

-- no word behind the first five is refused
past_five : (i id word : ℕ) → 5 ≤ i → refusal i id word ≡ None
past_five i id word l = grind (arith, nat_tests)

all_accepted : (left : ℕ) (ws : List ℕ) → AreFirstAccepted (min left 5) ws → AreFirstAccepted left ws
all_accepted left ws a i l = elim (le_or_lt 5 i) as (λ _. refusal i (slice_index ws 0) (slice_index ws i) ≡ None) [
  | inl past ↦ past_five i (slice_index ws 0) (slice_index ws i) past
  | inr within ↦ a i (omega arith)
]

-- with a word that isn't refused none is up to it
pub first_accepted_more : (first i : ℕ) (ws : List ℕ) → first ≤ i → i < length ws → AreFirstAccepted (i - first) (drop first ws) → refusal (i - first) (slice_index ws first) (slice_index ws i) ≡ None
    → AreFirstAccepted (i + 1 - first) (drop first ws)
first_accepted_more first i ws behind within a e k l = elim (le_or_lt (i - first) k) as (λ _. refusal k (slice_index (drop first ws) 0) (slice_index (drop first ws) k) ≡ None) [
  | inl past ↦
      let same : k ≡ i - first = omega arith in
      let here : slice_index (drop first ws) k ≡ slice_index ws i = at_drop first k i ws (omega arith) in
      let id : slice_index (drop first ws) 0 ≡ slice_index ws first = at_drop first 0 first ws (omega arith) in
      (λ t. refusal (same t) (id t) (here t)) ∙ e
  | inr less ↦ a k less
]

-- said of the words themselves
first_accepted : (n : ℕ) (ws : List ℕ) → AreFirstAccepted n ws → AreAccepted (take n ws)
first_accepted n ws a i l =
    let less : i < n = omega (arith, length-take n ws) in
    let here : slice_index (take n ws) i ≡ slice_index ws i = get_or-take n ws i 0 less in
    let id : slice_index (take n ws) 0 ≡ slice_index ws 0 = get_or-take n ws 0 0 (omega arith) in
    (λ t. refusal i (id t) (here t)) ∙ a i less

-- the words that the table speaks of, but for ids
data IsTold (k id : ℕ) : Type 0 where
  size : k ≡ 1 → id ≡ 34 → IsTold k id
  flags : k ≡ 2 → id ≡ 42 → IsTold k id
  format : k ≡ 4 → id ≡ 36 → IsTold k id
  pages : k ≡ 4 → id ≡ 42 → IsTold k id

told : (k id word : ℕ) (cause : Cause) → 0 < k → refusal k id word ≡ Some cause → IsTold k id
told k id word cause some e = by (refusal_of_id word) (refusal_of_size word) (refusal_of_flags word) (refusal_of_format word) (refusal_of_pages word) e where
  -- whatever is said of the word itself
  by : (a b c d f : Option Cause) → (if k == 0 then a else if k == 1 && id == SVGA_CMD_DEFINE_SCREEN then b else if k == 2 && id == SVGA_CMD_REMAP_GMR2 then c else
      if k == 4 && id == SVGA_CMD_DEFINE_GMRFB then d else if k == 4 && id == SVGA_CMD_REMAP_GMR2 then f else None) ≡ Some cause → IsTold k id
  by a b c d f e = grind (arith, nat_tests, size, flags, format, pages)

-- they stand within their command
told_within : (k id a b c : ℕ) → IsTold k id → k < count_by_id id a b c
told_within k id a b c (size e f) = rw (e, f) (grind (arith, nat_tests))
told_within k id a b c (flags e f) = rw (e, f) (omega arith)
told_within k id a b c (format e f) = rw (e, f) (omega arith)
told_within k id a b c (pages e f) = rw (e, f) (omega arith)

-- what is before a refused word is a part of a command
part_before : (k : ℕ) (ws : List ℕ) (cause : Cause) → k < length ws → AreFirstAccepted k ws → refusal k (slice_index ws 0) (slice_index ws k) ≡ Some cause → IsCommandPart (take k ws)
part_before k ws cause within a e = record {
  accepted = first_accepted k ws a;
  short = elim (le_or_lt k 0) as (λ _. length (take k ws) < whole_length (take k ws)) [
    | inl none ↦ omega (arith, length-take k ws, one_at_least (take k ws))
    | inr some ↦
        let id : slice_index (take k ws) 0 ≡ slice_index ws 0 = get_or-take k ws 0 0 some in
        let less : k < whole_length (take k ws) = told_within k (slice_index (take k ws) 0) (slice_index (take k ws) 1) (slice_index (take k ws) 2) (slice_index (take k ws) 4)
        (subst (λ i. IsTold k i) (sym id) (told k (slice_index ws 0) (slice_index ws k) cause some e)) in
        omega (arith, length-take k ws)
  ];
}

-- the length that words tell is told by the words of that length alone
whole_length-take : (n : ℕ) (ws : List ℕ) → IsKnown (slice_index ws 0) → n ≡ whole_length ws → whole_length (take n ws) ≡ n
whole_length-take n ws id is =
    let some : 0 < n = omega (arith, one_at_least ws) in
    let at0 : slice_index (take n ws) 0 ≡ slice_index ws 0 = get_or-take n ws 0 0 some in
    elim (le_or_lt (whole_length (take n ws)) n) as (λ _. whole_length (take n ws) ≡ n) [
      | inl a ↦ elim (le_or_lt n (whole_length (take n ws))) as (λ _. whole_length (take n ws) ≡ n) [
        | inl b ↦ omega arith
        | inr b ↦ absurd (not_less (whole_length (take n ws)) at0 refl b)
      ]
      | inr a ↦ absurd (not_more some at0 a)
    ]
  where
    not_more : 0 < n → slice_index (take n ws) 0 ≡ slice_index ws 0 → n < whole_length (take n ws) → ⊥
    not_more some at0 l =
        let more : n + 1 ≤ whole_length ws = one_more n (slice_index ws 0)
        (slice_index (take n ws) 1) (slice_index (take n ws) 2) (slice_index (take n ws) 4) (slice_index ws 1) (slice_index ws 2) (slice_index ws 4)
        (λ m. sym (get_or-take n ws 1 0 m)) (λ m. sym (get_or-take n ws 2 0 m)) (λ m. sym (get_or-take n ws 4 0 m)) id some
        (subst (λ k. n < count_by_id k (slice_index (take n ws) 1) (slice_index (take n ws) 2) (slice_index (take n ws) 4)) at0 l) in
        omega arith

    not_less : (m : ℕ) → slice_index (take n ws) 0 ≡ slice_index ws 0 → whole_length (take n ws) ≡ m → m < n → ⊥
    not_less m at0 told l =
        let more : m + 1 ≤ count_by_id (slice_index ws 0) (slice_index (take n ws) 1) (slice_index (take n ws) 2) (slice_index (take n ws) 4) = one_more m (slice_index ws 0)
        (slice_index ws 1) (slice_index ws 2) (slice_index ws 4) (slice_index (take n ws) 1) (slice_index (take n ws) 2) (slice_index (take n ws) 4)
        (λ k. get_or-take n ws 1 0 (omega arith)) (λ k. get_or-take n ws 2 0 (omega arith)) (λ k. get_or-take n ws 4 0 (omega arith)) id
        (let some : 1 ≤ whole_length (take n ws) = one_at_least (take n ws) in omega arith)
        (let less : m < whole_length ws = omega arith in less) in
        let same : m + 1 ≤ whole_length (take n ws) = subst (λ k. m + 1 ≤ count_by_id k (slice_index (take n ws) 1) (slice_index (take n ws) 2) (slice_index (take n ws) 4)) (sym at0) more in
        omega arith

-- as many words as they tell, of which none is refused
complete : (ws : List ℕ) (n : ℕ) → n ≡ whole_length ws → n ≤ length ws → AreFirstAccepted n ws → IsCommandWhole (take n ws)
complete ws n is within a =
    let some : 1 ≤ whole_length ws = one_at_least ws in
    let count : length (take n ws) ≡ n = omega (arith, length-take n ws) in
    record {
      accepted = first_accepted n ws a;
      some = omega arith;
      full = count ∙ sym (whole_length-take n ws (known (slice_index ws 0) (a 0 (omega arith))) is);
    }

-- A word is refused.
pub refused_next : (ws : List ℕ) (first word : ℕ) (cause : Cause) → AreWords ws → first ≤ word → word < length ws → AreFirstAccepted (word - first) (drop first ws) → IsRefusedIn word cause first ws
    → IsNext (Refused word cause) ws first
refused_next ws first word cause w behind within a e = (behind, within, part_begun (take k rest) (words_take k rest (words_drop first ws w)) (part_before k rest cause less a here), last) where
  rest : List ℕ
  rest = drop first ws

  k : ℕ
  k = word - first

  less : word - first < length (drop first ws)
  less = omega (arith, length-drop first ws)

  here : refusal (word - first) (slice_index (drop first ws) 0) (slice_index (drop first ws) (word - first)) ≡ Some cause
  here = let id : slice_index (drop first ws) 0 ≡ slice_index ws first = at_drop first 0 first ws (omega arith) in
      let at : slice_index (drop first ws) (word - first) ≡ slice_index ws word = at_drop first (word - first) word ws (omega arith) in
      (λ t. refusal (word - first) (id t) (at t)) ∙ e

  upto : List ℕ
  upto = take (word + 1 - first) (drop first ws)

  count : length (take (word + 1 - first) (drop first ws)) ≡ (word - first) + 1
  count = omega (arith, length-take (word + 1 - first) (drop first ws), length-drop first ws)

  there : refusal (word - first) (slice_index (take (word + 1 - first) (drop first ws)) 0) (slice_index (take (word + 1 - first) (drop first ws)) (word - first)) ≡ Some cause
  there = let id : slice_index (take (word + 1 - first) (drop first ws)) 0 ≡ slice_index (drop first ws) 0 = get_or-take (word + 1 - first) (drop first ws) 0 0 (omega arith) in
      let at : slice_index (take (word + 1 - first) (drop first ws)) (word - first) ≡ slice_index (drop first ws) (word - first) = get_or-take (word + 1 - first) (drop first ws) (word - first) 0 (omega arith) in
      (λ t. refusal (word - first) (id t) (at t)) ∙ here

  last : IsFedAnswer (fed.Refused cause) (take (word + 1 - first) (drop first ws))
  last = (
    refused_begins_none (word - first) (take (word + 1 - first) (drop first ws)) cause count there,
    subst (λ n. refusal n (slice_index (take (word + 1 - first) (drop first ws)) 0) (slice_index (take (word + 1 - first) (drop first ws)) n) ≡ Some cause)
        (let n : word - first ≡ length (take (word + 1 - first) (drop first ws)) - 1 = omega (arith, count) in n) there,
  )

-- No word is refused, and all of the command is there.
pub whole_next : (ws : List ℕ) (first n : ℕ) → AreWords ws → AreFirstAccepted (min (length ws - first) 5) (drop first ws) → n ≡ whole_length (drop first ws) → first + n ≤ length ws → IsNext (Whole (first + n)) ws first
whole_next ws first n w a is within =
    let some : 1 ≤ whole_length (drop first ws) = one_at_least (drop first ws) in
    let all : AreFirstAccepted (length ws - first) (drop first ws) = all_accepted (length ws - first) (drop first ws) a in
    let spelled : SpellsSome (take n (drop first ws)) = (
      command_in (take n (drop first ws)),
      complete_spells (take n (drop first ws)) (words_take n (drop first ws) (words_drop first ws w))
          (complete (drop first ws) n is (omega (arith, length-drop first ws)) (λ i l. all i (omega arith))),
    ) in
    (omega arith, within, subst (λ k. SpellsSome (take k (drop first ws))) (let e : n ≡ first + n - first = omega arith in e) spelled)

-- No word is refused, and more belong to the command.
pub torn_next : (ws : List ℕ) (first : ℕ) → AreWords ws → AreFirstAccepted (min (length ws - first) 5) (drop first ws) → length ws - first < whole_length (drop first ws) → IsNext Torn ws first
torn_next ws first w a l = part_begun (drop first ws) (words_drop first ws w) (record {
  accepted = λ i m. all_accepted (length ws - first) (drop first ws) a i (omega (arith, length-drop first ws));
  short = omega (arith, length-drop first ws);
})

-- The first five words tell the length, or fewer where there are no more.
pub whole_length-head : (ws : List ℕ) (n : ℕ) → n ≡ min (length ws) 5 → whole_length (take n ws) ≡ whole_length ws
whole_length-head ws n is = λ t. count_by_id (same 0 (omega arith) t) (same 1 (omega arith) t) (same 2 (omega arith) t) (same 4 (omega arith) t) where
  same : (i : ℕ) → i < 5 → slice_index (take n ws) i ≡ slice_index ws i
  same i l = elim (le_or_lt n i) as (λ _. slice_index (take n ws) i ≡ slice_index ws i) [
    | inl past ↦ get_or_past (take n ws) i 0 (omega (arith, length-take n ws)) ∙ sym (get_or_past ws i 0 (omega arith))
    | inr less ↦ get_or-take n ws i 0 less
  ]
