-- What a blit back writes, place by place, along a row and down the rows.
use Rattle.std.specs.Prelude.{ℤ, unsigned_abs, List, [], ◌∷◌}
use Rattle.std.specs.List.{flat_map}
use Rattle.svga_cmd.specs.declared.blit.Blit.{Blit}
use Rattle.svga_cmd.specs.declared.gmrfb.Gmrfb.{Gmrfb}
use Rattle.svga_model.specs.BlitEffects.{first_colour}
use Rattle.svga_model.specs.BlitPixels.{ScreenPixel, blit_offset, covers, int_range}
use Rattle.svga_model.specs.Colours.{bytes_of}
use Rattle.svga_model.specs.Memories.{ByteWrite, writes_from}
use Rattle.svga_model.specs.Screens.{Screens, definitions_of}

-- what is written from a byte on for a place that covers these pixels: nothing where there are none
abbrev pub pixel_writes : Screens → Gmrfb → ℤ → List ScreenPixel → List ByteWrite
pixel_writes screens g offset [] = []
pixel_writes screens g offset (p ∷ ps) =
    writes_from (unsigned_abs offset) (bytes_of g.format (first_colour screens (p ∷ ps)))

-- what is written for place (X, Y)
unfoldable pub place_writes : Screens → Gmrfb → Blit → ℤ → ℤ → List ByteWrite
place_writes screens g b X Y =
    pixel_writes screens g (blit_offset g b X Y) (covers (definitions_of screens) b.screen X Y)

-- what is written for the places of row Y from one column up to below another
unfoldable pub writes_along : Screens → Gmrfb → Blit → ℤ → ℤ → ℤ → List ByteWrite
writes_along screens g b Y from to = flat_map (λ X. place_writes screens g b X Y) (int_range from to)

-- what is written for the blit's rows from one up to below another
unfoldable pub writes_down : Screens → Gmrfb → Blit → ℤ → ℤ → List ByteWrite
writes_down screens g b from to =
    flat_map (λ Y. writes_along screens g b Y b.rect.left b.rect.right) (int_range from to)
