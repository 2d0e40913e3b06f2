-- Rows of screens.
use Rattle.std.proofs.Common.{◌≡◌, ℕ, zero, suc, List, [], ◌∷◌, ◌++◌, codes, get_or, ap, refl, ◌∙◌}
use Rattle.std.specs.Cmp.Lexicographic.{bytes_decides}
use Rattle.std.specs.Fmt.{decimal, signed_decimal}
use Rattle.std.specs.Option.{unwrap_or}
use Rattle.std.specs.Prelude.{Option, Some, None, option_and_then, option_map, slice_get}
use Rattle.svga_cmd.specs.declared.screen.ScreenDef.{ScreenDef}
use Rattle.svga_model.specs.Screens.{Screen}
use Rattle.svga_text.proofs.LargestLaws.{TellsEqual}
use Rattle.svga_text.specs.Lines.{line}
use Rattle.svga_text.specs.Pictures.{rows_line, same_row, some_screen_text}
use Rattle.svga_text.specs.Rows.{rows_if_some}
use Rattle.svga_text.specs.Runs.{largest_runs, runs_text}

or_default : {X : Type 0} (xs : List X) (i : ℕ) (d : X) → unwrap_or (slice_get xs i) d ≡ get_or xs i d
or_default [] i d = refl
or_default (x ∷ xs) zero d = refl
or_default (x ∷ xs) (suc i) d = or_default xs i d

or_empty : (screen : Option Screen) (y : ℕ) → unwrap_or (option_and_then (λ s. slice_get s.rows y) screen) [] ≡ get_or
    (rows_if_some screen) y []
or_empty None y = refl
or_empty (Some s) y = or_default s.rows y []

-- the row that a screen has
pub row_is : (screen : Option Screen) (y : ℕ) (row : Option (List ℕ))
    → row ≡ option_and_then (λ s. slice_get s.rows y) screen → unwrap_or row [] ≡ get_or (rows_if_some screen) y []
row_is screen y row is = ap (λ r. unwrap_or r []) is ∙ or_empty screen y

abbrev pub heading : ScreenDef → List ℕ
heading d = line (codes "screen") (decimal d.id ∷ decimal d.width ∷ decimal d.height ∷ signed_decimal d.x ∷
    signed_decimal d.y ∷ [])

-- the text of a screen, of which the definition is known
pub screen_is : (screen : Option Screen) (d : ScreenDef) → Some d ≡ option_map (λ s. s.def) screen
    → heading d ++ runs_text rows_line 0 (largest_runs same_row (rows_if_some screen)) ≡ some_screen_text screen
screen_is None d is = absurd (cc)
screen_is (Some s) d is = let same : d ≡ s.def = cc in ap
    (λ def. heading def ++ runs_text rows_line 0 (largest_runs same_row s.rows)) same

-- rows are compared by their colours
pub rows_tell : TellsEqual same_row
rows_tell = record { equal = λ x y. (bytes_decides x y).0; same_if = λ x y. (bytes_decides x y).1 }
