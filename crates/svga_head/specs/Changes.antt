-- Changes of pictures, of which heads are told.
use Rattle.std.specs.Prelude.{ℕ, ◌+◌, ◌<◌, ◌≤◌, List, [], length, replicate, slice_index_or, slice_set, Option, Some, None}
use Rattle.std.specs.FinMap as map
use Rattle.svga_model.specs.Pictures.{Pictures}
use Rattle.svga_model.specs.Screens.{painted_row}
use Rattle.svga_head.specs.declared.change.Change.{Change}
use Rattle.svga_head.specs.declared.change.Change.TheVariants.{Show, Hide, Paint}

-- rows of this width, all black
abbrev pub black_rows : ℕ → ℕ → List (List ℕ)
black_rows width height = replicate height (replicate width 0)

-- the pictures with a black one of this id, which replaces any older one
abbrev pub with_picture : ℕ → ℕ → ℕ → Pictures → Pictures
with_picture id width height pictures = map.insert pictures id (black_rows width height)

-- the pictures without that of this id
abbrev pub without_picture : ℕ → Pictures → Pictures
without_picture id pictures = map.remove pictures id

-- rows with other colours from (x, y) on along row y
abbrev pub painted_rows : ℕ → ℕ → List ℕ → List (List ℕ) → List (List ℕ)
painted_rows x y colours rows = slice_set rows y (painted_row (slice_index_or rows y []) x colours)

-- the pictures with that change to the one of this id, which has these rows
abbrev pub painted_over : ℕ → Option (List (List ℕ)) → ℕ → ℕ → List ℕ → Pictures → Pictures
painted_over id None x y colours pictures = pictures
painted_over id (Some rows) x y colours pictures =
    map.insert pictures id (painted_rows x y colours rows)

abbrev pub painted_picture : ℕ → ℕ → ℕ → List ℕ → Pictures → Pictures
painted_picture id x y colours pictures = painted_over id (map.get pictures id) x y colours pictures

-- so many colours from (x, y) on lie on row y of these rows
pub record IsOnRows (x y len : ℕ) (rows : List (List ℕ)) : Type 0 where
  pub high : y < length rows
  pub wide : x + len ≤ length (slice_index_or rows y [])

-- and these rows are those of a picture that is there
abbrev pub IsOnPicture : Option (List (List ℕ)) → ℕ → ℕ → ℕ → Type 0
IsOnPicture None x y len = ⊥
IsOnPicture (Some rows) x y len = IsOnRows x y len rows

-- what a change makes of pictures
abbrev pub changed : Change → Pictures → Pictures
changed (Show id width height) = with_picture id width height
changed (Hide id) = without_picture id
changed (Paint id x y colours) = painted_picture id x y colours.now
