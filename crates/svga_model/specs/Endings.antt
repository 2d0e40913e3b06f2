-- How words end: all of them in whole commands, at a word that no sentence has there, or inside a command.
use Rattle.std.specs.Prelude.{◌≡◌, ℕ, ◌+◌, ◌-◌, ◌≤◌, ◌<◌, List, ◌++◌, length, take, slice_index, All, fold, Some}
use Rattle.svga_cmd.specs.WellFormed.{IsWellFormed}
use Rattle.svga_cmd.specs.declared.cause.Cause.{Cause}
use Rattle.svga_cmd.specs.declared.command.Command.{Command}
use Rattle.svga_cmd.specs.declared.command.Command.TheVariants.{Fence}
use Rattle.svga_cmd.specs.declared.ending.Ending.{Ending}
use Rattle.svga_cmd.specs.declared.ending.Ending.TheVariants.{Refused, Torn, Whole}
use Rattle.svga_model.specs.RefusedWords.{refusal}
use Rattle.svga_model.specs.Sentences.{IsSentence, IsViable, spelling_all}

-- The bad word: up to it the words begin a sentence, and with the word there they begin none.
pub record IsBadWord (ws : List ℕ) (k : ℕ) : Type 0 where
  pub within : k < length ws
  pub viable_before : IsViable (take k ws)
  pub not_after : IsViable (take (k + 1) ws) → ⊥

-- these commands stand at the front of the words
pub record StandAtFront (cs : List Command) (ws : List ℕ) : Type 0 where
  pub well_formed : All IsWellFormed cs
  pub words : (rest : List ℕ) × (ws ≡ spelling_all cs ++ rest)

-- The front: the longest list of commands that stands at the front. None goes past a bad word.
pub record IsFront (ws : List ℕ) (cs : List Command) : Type 0 where
  pub stands : StandAtFront cs ws
  pub longest : (ds : List Command) → StandAtFront ds ws → length ds ≤ length cs

-- why word k is refused, where these commands stand before its own
pub record IsRefusedAs (ws : List ℕ) (cs : List Command) (k : ℕ) (why : Cause) : Type 0 where
  pub by_table : let start = length (spelling_all cs) in
      refusal (k - start) (slice_index ws start) (slice_index ws k) ≡ Some why

-- the words end so behind the commands of their front
abbrev pub EndsAs : Ending → List ℕ → List Command → Type 0
EndsAs Whole ws cs = ws ≡ spelling_all cs
EndsAs (Refused k why) ws cs = IsBadWord ws k × IsRefusedAs ws cs k why
EndsAs (Torn count) ws cs = IsViable ws × ((ds : List Command) → IsSentence ds ws → ⊥) × (count ≡ length ws)

-- the ending of words: the commands of their front, and how they end behind them
pub record IsEnding (ws : List ℕ) (cs : List Command) (end : Ending) : Type 0 where
  pub front : IsFront ws cs
  pub ends : EndsAs end ws cs

-- the value of the last FENCE among the commands, 0 where there is none
abbrev pub fence_after : ℕ → Command → ℕ
fence_after fence (Fence value) = value
fence_after fence c = fence

abbrev pub last_fence : List Command → ℕ
last_fence cs = fold fence_after 0 cs
