-- The text of screens and their pictures.
use Rattle.std.specs.Prelude.{ℕ, List, [], ◌∷◌, ◌++◌, ◌==◌, Bool, codes, map as map_list, Option, Some, None}
use Rattle.std.specs.Cmp.Lexicographic.{pointwise}
use Rattle.std.specs.FinMap as map
use Rattle.std.specs.Fmt.{decimal, signed_decimal}
use Rattle.std.specs.List.{flat_map, range_with_len}
use Rattle.svga_model.specs.Screens.{Screen, Screens}
use Rattle.svga_text.specs.Hexadecimal.{hex_colour}
use Rattle.svga_text.specs.Lines.{line}
use Rattle.svga_text.specs.Runs.{Run, largest_runs, runs_text}

-- so many pixels of one colour: `N*rrggbb`
abbrev pub pixels_text : Run ℕ → List ℕ
pixels_text (count, colour) = decimal count ++ codes "*" ++ hex_colour colour

-- whether two rows have the same colours
abbrev pub same_row : List ℕ → List ℕ → Bool
same_row = pointwise (◌==◌)

-- equal rows, the first of which has this number
abbrev pub rows_line : ℕ → Run (List ℕ) → List ℕ
rows_line first (count, row) = line (codes "rows")
    (decimal first ∷ decimal count ∷ map_list pixels_text (largest_runs (◌==◌) row))

-- a screen: its definition, and its picture from the top
abbrev pub screen_text : Screen → List ℕ
screen_text s =
    line (codes "screen") (decimal s.def.id ∷ decimal s.def.width ∷ decimal s.def.height
    ∷ signed_decimal s.def.x ∷ signed_decimal s.def.y ∷ [])
    ++ runs_text rows_line 0 (largest_runs same_row s.rows)

abbrev pub some_screen_text : Option Screen → List ℕ
some_screen_text None = []
some_screen_text (Some s) = screen_text s

-- all screens, by ascending id
abbrev pub screens_text : Screens → List ℕ
screens_text screens = flat_map (λ id. some_screen_text (map.get screens id)) (range_with_len 0 16)
