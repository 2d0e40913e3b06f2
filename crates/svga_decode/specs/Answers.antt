-- What a decoder answers to a word.
use Rattle.std.specs.Prelude.{◌≡◌, ℕ, ◌-◌, List, length, slice_index, Some}
use Rattle.svga_cmd.specs.declared.cause.Cause.{Cause}
use Rattle.svga_decode.specs.declared.answer.Fed.{Fed}
use Rattle.svga_decode.specs.declared.answer.Fed.TheVariants.{More, Whole, Refused}
use Rattle.svga_model.specs.RefusedWords.{refusal}
use Rattle.svga_model.specs.Sentences.{Begins, IsCommandBegun, SpellsSome}

-- the last of these words of one command is refused by the table, for this reason
abbrev pub IsLastRefused : List ℕ → Cause → Type 0
IsLastRefused ws cause = let last = length ws - 1 in
    refusal last (slice_index ws 0) (slice_index ws last) ≡ Some cause

-- The answer is right for the words of one command so far. The three cases exclude one another, so it is the
-- only right one.
abbrev pub IsFedAnswer : Fed → List ℕ → Type 0
IsFedAnswer More ws = IsCommandBegun ws
IsFedAnswer Whole ws = SpellsSome ws
IsFedAnswer (Refused cause) ws = (Begins ws → ⊥) × IsLastRefused ws cause
