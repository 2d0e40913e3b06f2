-- Commands that a visitor takes one after another.
use Rattle.std.specs.Prelude.{◌≡◌, ℕ, ◌+◌, List, [], ◌∷◌, ◌++◌, length}
use Rattle.svga_cmd.specs.Spelling.{spelling}
use Rattle.svga_cmd.specs.declared.command.Command.{Command}
use Rattle.svga_cmd.specs.declared.ending.Ending.{Ending}
use Rattle.svga_model.specs.Endings.{IsEnding, StandAtFront}
use Rattle.svga_model.specs.Sentences.{spelling_all}

-- What taking a command at this word leaves of a visitor and of what it works on, and the same of stopping
-- there.
abbrev pub Taking : Type 0 → Type 0 → Type 1
Taking V T = V → T → ℕ → Command → V → T → Type 0

abbrev pub Stopping : Type 0 → Type 0 → Type 0 → Type 1
Stopping V T S = V → T → ℕ → Command → S → V → T → Type 0

-- these commands, the first of which begins at this word, are taken one after another
abbrev pub AreTaken : {V T : Type 0} → Taking V T → V → T → ℕ → List Command → V → T → Type 0
AreTaken takes v t first [] w u = (w ≡ v) × (u ≡ t)
AreTaken {V} {T} takes v t first (c ∷ cs) w u = (x : V) × (y : T) × takes v t first c x y
    × AreTaken takes x y (first + length (spelling c)) cs w u

-- all whole commands of the words are taken, and the words end so behind them
abbrev pub IsVisited : {V T : Type 0} → Taking V T → List ℕ → V → T → Ending → V → T → Type 0
IsVisited takes ws v t end w u = (cs : List Command) × IsEnding ws cs end × AreTaken takes v t 0 cs w u

-- the visitor stops at a command of the words: those before it are taken
abbrev pub IsVisitedUpTo : {V T S : Type 0} → Taking V T → Stopping V T S → List ℕ → V → T → S → V → T
    → Type 0
IsVisitedUpTo {V} {T} takes stops ws v t stop w u = (cs : List Command) × (c : Command)
    × StandAtFront (cs ++ c ∷ []) ws
    × (x : V) × (y : T) × AreTaken takes v t 0 cs x y × stops x y (length (spelling_all cs)) c stop w u
