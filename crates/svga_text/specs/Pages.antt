-- The text of a page.
use Rattle.std.specs.Prelude.{ℕ, List, [], ◌∷◌, ◌++◌, ◌==◌, codes}
use Rattle.std.specs.Fmt.{decimal}
use Rattle.svga_cmd.specs.declared.page.PageKey.{PageKey}
use Rattle.svga_text.specs.Hexadecimal.{hex_byte}
use Rattle.svga_text.specs.Keys.{key_text}
use Rattle.svga_text.specs.Lines.{line}
use Rattle.svga_text.specs.Runs.{Run, largest_runs, runs_text}

-- equal bytes, the first of which has this number
abbrev pub bytes_line : ℕ → Run ℕ → List ℕ
bytes_line first (count, byte) = line (decimal first) (decimal count ∷ hex_byte byte ∷ [])

-- a page with these bytes
abbrev pub page_text : PageKey → List ℕ → List ℕ
page_text key bytes = line (codes "page") (key_text key ∷ [])
    ++ runs_text bytes_line 0 (largest_runs (◌==◌) bytes)
