-- Pictures: the rows of colours of screens, by the screens' ids.
use Rattle.std.specs.Prelude.{ℕ, List, map as map_list, slice_get, Option, option_and_then}
use Rattle.std.specs.Coded.{Coded, coded_ℕ, coded_list}
use Rattle.std.specs.FinMap as map
use Rattle.std.specs.FinMap.{FinMap}
use Rattle.std.specs.Ordering.{nat_cmp}
use Rattle.svga_model.specs.Screens.{Screens}

-- the rows of colours of each id that has a picture
abbrev pub Pictures : Type 0
Pictures = FinMap nat_cmp (List (List ℕ))

-- the pictures of screens: of each the rows without its definition
unfoldable pub pictures_of : Screens → Pictures
pictures_of screens = map.from_entries (map_list (λ e. (e.0, e.1.rows)) (map.entries screens))

-- row y of the picture with this id, if there is one
abbrev pub picture_row : Pictures → ℕ → ℕ → Option (List ℕ)
picture_row pictures id y = option_and_then (λ rows. slice_get rows y) (map.get pictures id)

-- the codes of pictures, by which a type that is seen as them tells its values apart
abbrev pub coded_pictures : Coded Pictures
coded_pictures = map.code coded_ℕ (coded_list (coded_list coded_ℕ))
