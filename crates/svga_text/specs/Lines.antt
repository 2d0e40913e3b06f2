-- Lines of text, and those that aren't a command's.
use Rattle.std.specs.Prelude.{ℕ, List, [], ◌∷◌, ◌++◌, codes, map as map_list, option_to_list}
use Rattle.std.specs.Fmt.{decimal}
use Rattle.std.specs.List.{flat_map}
use Rattle.svga_text.specs.declared.line.Line.{Line}
use Rattle.svga_text.specs.declared.line.Line.TheVariants.{Fence, RefusedWord, TornWord, Commands, FaultAt, End, CaptureByte, RefusedLine, ScriptLine}
use Rattle.svga_text.specs.Keys.{key_text}

-- further words of a line, each behind a space
abbrev pub spaced : List (List ℕ) → List ℕ
spaced words = flat_map (λ word. 32 ∷ word) words

-- a line: how it begins, further words, and a line feed
abbrev pub line : List ℕ → List (List ℕ) → List ℕ
line begin words = begin ++ spaced words ++ 10 ∷ []

-- the text of a line
abbrev pub line_text : Line → List ℕ
line_text (Fence value) = line (codes "fence") (decimal value ∷ [])
line_text (RefusedWord word cause) = line (codes "refused at word") (decimal word ∷ cause.now ∷ [])
line_text (TornWord word) = line (codes "torn at word") (decimal word ∷ [])
line_text (Commands count) = line (codes "commands") (decimal count ∷ [])
line_text (FaultAt command number name) = line (codes "fault at command")
    (decimal command ∷ decimal number ∷ name.now ∷ [])
line_text End = line (codes "end") []
line_text (CaptureByte place cause) = line (codes "capture byte") (decimal place ∷ cause.now ∷ [])
line_text (RefusedLine at number name key) = line (codes "refused line")
    (decimal at ∷ codes "fault" ∷ decimal number ∷ name.now ∷ map_list key_text (option_to_list key))
line_text (ScriptLine at column cause) = line (codes "script line")
    (decimal at ∷ codes "column" ∷ decimal column ∷ cause.now ∷ [])
