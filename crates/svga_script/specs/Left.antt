-- The lines of bytes and the words of a line that are left from an offset on.
use Rattle.std.specs.Prelude.{ℕ, ◌+◌, List, [], length, drop, nat_le, if◌then◌else◌}
use Rattle.svga_model.specs.Scripts.{lines_of}
use Rattle.svga_model.specs.ScriptWords.{Word, words_from}

abbrev pub lines_left : List ℕ → ℕ → List (List ℕ)
lines_left bytes at = lines_of (drop at bytes)

-- behind the end of a line there is no word
unfoldable pub words_left : List ℕ → ℕ → List Word
words_left line at = if nat_le at (length line) then words_from (at + 1) (drop at line) else []
