-- An input as words, and how it ends.
use Rattle.std.specs.Prelude.{◌≡◌, ℕ, ◌+◌, ◌*◌, ◌/◌, ◌%◌, ◌==◌, if◌then◌else◌, List, [], ◌∷◌, length}
use Rattle.svga_cmd.specs.declared.command.Command.{Command}
use Rattle.svga_cmd.specs.declared.ending.Ending.{Ending}
use Rattle.svga_cmd.specs.declared.ending.Ending.TheVariants.{Whole, Refused, Torn}
use Rattle.svga_model.specs.Endings.{IsEnding}
use Rattle.svga_model.specs.Sentences.{IsSentence}

-- the words of an input, each of four bytes, the lowest first; bytes that are no whole word are left out
abbrev pub words_in : List ℕ → List ℕ
words_in (a ∷ b ∷ c ∷ d ∷ rest) = (a + 256 * b + 65536 * c + 16777216 * d) ∷ words_in rest
words_in rest = []

-- the input is whole words, and these are the sentence for cs
pub record IsSentenceInBytes (cs : List Command) (bytes : List ℕ) : Type 0 where
  pub words : IsSentence cs (words_in bytes)
  pub whole : length bytes % 4 ≡ 0

-- bytes that are no whole word tear what would be whole
abbrev pub torn_by : List ℕ → Ending → Ending
torn_by bytes Whole = if length bytes % 4 == 0 then Whole else Torn (length bytes / 4)
torn_by bytes (Refused word why) = Refused word why
torn_by bytes (Torn count) = Torn count

-- how an input ends: as its words do, unless bytes behind them tear the end
pub record IsEndingOfBytes (bytes : List ℕ) (cs : List Command) (end : Ending) : Type 0 where
  pub of_words : Ending
  pub ending : IsEnding (words_in bytes) cs of_words
  pub of_bytes : end ≡ torn_by bytes of_words
