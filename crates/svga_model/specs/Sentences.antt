-- Sentences: the words of commands, one after another.
use Rattle.std.specs.Prelude.{◌≡◌, ℕ, List, ◌∷◌, ◌++◌, All}
use Rattle.std.specs.List.{flat_map}
use Rattle.svga_cmd.specs.Spelling.{Spells, spelling}
use Rattle.svga_cmd.specs.WellFormed.{IsWellFormed}
use Rattle.svga_cmd.specs.declared.command.Command.{Command}

-- the words of these commands
abbrev pub spelling_all : List Command → List ℕ
spelling_all cs = flat_map spelling cs

-- ws is the sentence for cs
pub record IsSentence (cs : List Command) (ws : List ℕ) : Type 0 where
  pub well_formed : All IsWellFormed cs
  pub words : ws ≡ spelling_all cs

-- ws is the beginning of some sentence
abbrev pub IsViable : List ℕ → Type 0
IsViable ws = (cs : List Command) × (rest : List ℕ) × IsSentence cs (ws ++ rest)

-- ws spells some command
abbrev pub SpellsSome : List ℕ → Type 0
SpellsSome ws = (c : Command) × Spells c ws

-- ws is the beginning of some command's spelling, or all of it
abbrev pub Begins : List ℕ → Type 0
Begins ws = (c : Command) × (rest : List ℕ) × Spells c (ws ++ rest)

-- ws is the beginning of some command's spelling, and at least one word more belongs to it
abbrev pub IsCommandBegun : List ℕ → Type 0
IsCommandBegun ws = (c : Command) × (word : ℕ) × (rest : List ℕ) × Spells c (ws ++ word ∷ rest)
