-- The rows of a screen.
use Rattle.std.specs.FinMap as map
use Rattle.std.specs.Prelude.{ℕ, List, [], Option, Some, None}
use Rattle.svga_model.specs.Screens.{Screen, Screens}

abbrev pub rows_if_some : Option Screen → List (List ℕ)
rows_if_some None = []
rows_if_some (Some s) = s.rows

-- the rows of the screen with this id, none where there is no screen
abbrev pub rows_of : Screens → ℕ → List (List ℕ)
rows_of screens id = rows_if_some (map.get screens id)
