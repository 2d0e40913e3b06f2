-- The texts of the program.
use Rattle.std.specs.Prelude.{ℕ, ◌+◌, List, [], ◌∷◌, ◌++◌, length, codes}
use Rattle.std.specs.Fmt.{decimal}
use Rattle.svga_cmd.specs.Spelling.{spelling}
use Rattle.svga_cmd.specs.declared.command.Command.{Command}
use Rattle.svga_cmd.specs.declared.ending.Ending.{Ending}
use Rattle.svga_cmd.specs.declared.ending.Ending.TheVariants.{Whole, Refused, Torn}
use Rattle.svga_model.specs.Endings.{last_fence}
use Rattle.svga_text.specs.CommandLines.{command_line}
use Rattle.svga_text.specs.Lines.{line}
use Rattle.svga_text.specs.Names.{cause_name}

abbrev pub usage_text : List ℕ
usage_text = line (codes "usage: svga words | replay | race | gen N") []

abbrev pub read_fault_text : List ℕ
read_fault_text = line (codes "read fault") []

abbrev pub too_long_text : List ℕ
too_long_text = line (codes "too long") []

-- the lines of commands, the first of which begins at this word
abbrev pub listing : ℕ → List Command → List ℕ
listing word [] = []
listing word (c ∷ cs) = command_line word c ++ listing (word + length (spelling c)) cs

abbrev pub fence_text : ℕ → List ℕ
fence_text fence = line (codes "fence") (decimal fence ∷ [])

-- what is said of an end: nothing where all is whole
abbrev pub end_text : Ending → List ℕ
end_text Whole = []
end_text (Refused word cause) = line (codes "refused at word") (decimal word ∷ cause_name cause ∷ [])
end_text (Torn count) = line (codes "torn at word") (decimal count ∷ [])

-- the text of `words` for an input that ends so behind these commands
abbrev pub words_text : List Command → Ending → List ℕ
words_text cs end = listing 0 cs ++ fence_text (last_fence cs) ++ end_text end

-- its status
abbrev pub words_status : Ending → ℕ
words_status Whole = 0
words_status (Refused word cause) = 3
words_status (Torn count) = 3
