-- What stands at a word between two commands.
use Rattle.std.specs.Prelude.{◌≡◌, ℕ, ◌+◌, ◌-◌, ◌≤◌, ◌<◌, List, drop, length, slice_index, take, None, Some}
use Rattle.svga_cmd.specs.declared.cause.Cause.{Cause}
use Rattle.svga_decode.specs.Answers.{IsFedAnswer}
use Rattle.svga_decode.specs.declared.answer.Fed.TheVariants as fed
use Rattle.svga_decode.specs.declared.next.Next.{Next}
use Rattle.svga_decode.specs.declared.next.Next.TheVariants.{Whole, Refused, Torn}
use Rattle.svga_model.specs.RefusedWords.{refusal}
use Rattle.svga_model.specs.Sentences.{IsCommandBegun, SpellsSome}

-- the words from this one on, up to that one
abbrev pub words_between : List ℕ → ℕ → ℕ → List ℕ
words_between ws first end = take (end - first) (drop first ws)

-- A command is whole before word `end`; or none goes on with this word, as a decoder answers to it; or the
-- words end in one that has begun.
abbrev pub IsNext : Next → List ℕ → ℕ → Type 0
IsNext (Whole end) ws first = (first < end) × (end ≤ length ws) × SpellsSome (words_between ws first end)
IsNext (Refused word cause) ws first = (first ≤ word) × (word < length ws)
    × IsCommandBegun (words_between ws first word)
    × IsFedAnswer (fed.Refused cause) (words_between ws first (word + 1))
IsNext Torn ws first = IsCommandBegun (drop first ws)

-- none of the first words of a command is refused
abbrev pub AreFirstAccepted : ℕ → List ℕ → Type 0
AreFirstAccepted count ws = (i : ℕ) → i < count → refusal i (slice_index ws 0) (slice_index ws i) ≡ None

-- the table refuses this word of the command that begins at word `first`, for this reason
abbrev pub IsRefusedIn : ℕ → Cause → ℕ → List ℕ → Type 0
IsRefusedIn word cause first ws = refusal (word - first) (slice_index ws first) (slice_index ws word)
    ≡ Some cause
