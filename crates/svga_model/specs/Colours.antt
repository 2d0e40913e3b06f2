-- Colours, and the bytes that a pixel has in each format.
use Rattle.std.specs.Prelude.{ℕ, ◌+◌, ◌*◌, ◌/◌, ◌%◌, List, [], ◌∷◌, map, slice_index, slice_range, slice_set}
use Rattle.std.specs.List.{flat_map, range_with_len}
use Rattle.svga_cmd.specs.declared.format.Format.{Format}
use Rattle.svga_cmd.specs.declared.format.Format.TheVariants.{Bgrx32, Bgr24, Rgb565, Rgb555}

-- how many bytes a pixel has
abbrev pub pixel_length : Format → ℕ
pixel_length Bgrx32 = 4
pixel_length Bgr24 = 3
pixel_length Rgb565 = 2
pixel_length Rgb555 = 2

-- the colour of so much red, green and blue, each below 256
abbrev pub rgb : ℕ → ℕ → ℕ → ℕ
rgb r g b = 65536 * r + 256 * g + b

abbrev pub red_of : ℕ → ℕ
red_of colour = colour / 65536

abbrev pub green_of : ℕ → ℕ
green_of colour = colour / 256 % 256

abbrev pub blue_of : ℕ → ℕ
blue_of colour = colour % 256

-- five bits as eight: the upper bits stand again below
abbrev pub eight_from_five : ℕ → ℕ
eight_from_five v = v * 8 + v / 4

-- six bits as eight
abbrev pub eight_from_six : ℕ → ℕ
eight_from_six v = v * 4 + v / 16

-- a word of 16 bits: red in bits 11 to 15, green in 5 to 10, blue in 0 to 4
abbrev pub colour_in_565 : ℕ → ℕ
colour_in_565 word =
    rgb (eight_from_five (word / 2048 % 32)) (eight_from_six (word / 32 % 64)) (eight_from_five (word % 32))

-- a word of 16 bits: bit 15 is ignored, red in bits 10 to 14, green in 5 to 9, blue in 0 to 4
abbrev pub colour_in_555 : ℕ → ℕ
colour_in_555 word =
    rgb (eight_from_five (word / 1024 % 32)) (eight_from_five (word / 32 % 32)) (eight_from_five (word % 32))

-- of each part its highest bits are kept
abbrev pub word_in_565 : ℕ → ℕ
word_in_565 colour = 2048 * (red_of colour / 8) + 32 * (green_of colour / 4) + blue_of colour / 8

abbrev pub word_in_555 : ℕ → ℕ
word_in_555 colour = 1024 * (red_of colour / 8) + 32 * (green_of colour / 8) + blue_of colour / 8

-- the word of two bytes, the low one first
abbrev pub word_from : List ℕ → ℕ
word_from bytes = slice_index bytes 0 + 256 * slice_index bytes 1

abbrev pub word_bytes : ℕ → List ℕ
word_bytes word = word % 256 ∷ word / 256 ∷ []

-- the colour of a pixel's bytes: 32 bits are blue, green, red and a byte that is ignored
abbrev pub colour_of : Format → List ℕ → ℕ
colour_of Bgrx32 bytes = rgb (slice_index bytes 2) (slice_index bytes 1) (slice_index bytes 0)
colour_of Bgr24 bytes = rgb (slice_index bytes 2) (slice_index bytes 1) (slice_index bytes 0)
colour_of Rgb565 bytes = colour_in_565 (word_from bytes)
colour_of Rgb555 bytes = colour_in_555 (word_from bytes)

-- the bytes of a colour: what a pixel has and doesn't use is 0
abbrev pub bytes_of : Format → ℕ → List ℕ
bytes_of Bgrx32 colour = blue_of colour ∷ green_of colour ∷ red_of colour ∷ 0 ∷ []
bytes_of Bgr24 colour = blue_of colour ∷ green_of colour ∷ red_of colour ∷ []
bytes_of Rgb565 colour = word_bytes (word_in_565 colour)
bytes_of Rgb555 colour = word_bytes (word_in_555 colour)

-- the bytes of pixel k of a row
abbrev pub pixel_at : Format → List ℕ → ℕ → List ℕ
pixel_at format bytes k =
    slice_range bytes (k * pixel_length format) (k * pixel_length format + pixel_length format)

-- the colours of a row of so many pixels
abbrev pub row_colours : Format → ℕ → List ℕ → List ℕ
row_colours format count bytes =
    map (λ k. colour_of format (pixel_at format bytes k)) (range_with_len 0 count)

-- the bytes of a row: those of its colours one after another
abbrev pub row_bytes : Format → List ℕ → List ℕ
row_bytes format colours = flat_map (bytes_of format) colours

-- a pixel's bytes with the bits that it doesn't use 0
abbrev pub with_unused_zero : Format → List ℕ → List ℕ
with_unused_zero Bgrx32 bytes = slice_set bytes 3 0
with_unused_zero Bgr24 bytes = bytes
with_unused_zero Rgb565 bytes = bytes
with_unused_zero Rgb555 bytes = slice_set bytes 1 (slice_index bytes 1 % 128)
