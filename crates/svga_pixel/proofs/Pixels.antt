-- Pixels of rows, by the bytes that they have.
use Rattle.std.proofs.Common.{◌≡◌, All, ℕ, ◌+◌, ◌-◌, ◌*◌, ◌<◌, ◌≤◌, List, [], ◌++◌, ◌∷◌, length, map, take, drop, slice_index, slice_index_or, arith, ◌∙◌, ap, sym, refl, ◌^◌}
use Rattle.std.proofs.lemmas.List.{get_or-drop, get_or-take, get_or_append_left, get_or_at, length-drop, length-take}
use Rattle.std.proofs.lemmas.List.FromFn.{get_or-map-range_with_len, length-map-range_with_len}
use Rattle.std.proofs.lemmas.Simd.{below_from_Fits, chunk-fits}
use Rattle.std.specs.List.{range_with_len}
use Rattle.svga_cmd.specs.declared.format.Format.{Format}
use Rattle.svga_cmd.specs.declared.format.Format.TheVariants.{Bgrx32, Bgr24, Rgb555, Rgb565}
use Rattle.svga_model.specs.Colours.{colour_of, pixel_at, pixel_length, row_colours, word_from}
use Rattle.svga_pixel.proofs.LanesOf.{same_four, same_eight, words_of_bytes, short_words, two_bytes}
use Rattle.svga_pixel.proofs.Widening.{small_555, small_565}
use lib.Lanes.{chunk, digits_l, number_l}
use mir.Syntax.{w8}
use mir.Val.{Fits}

no_step : (i : ℕ) → i + 0 ≡ i
no_step i = omega arith

-- byte i of a pixel of 24 bits
byte_24 : (bytes : List ℕ) (k i n : ℕ) → i < 3 → k * 3 + i ≡ n → slice_index (pixel_at Bgr24 bytes k) i ≡ slice_index bytes n
byte_24 bytes k i n small is =
    get_or-take (k * 3 + 3 - k * 3) (drop (k * 3) bytes) i 0 (omega arith)
    ∙ get_or-drop (k * 3) bytes i 0
    ∙ ap (λ m. slice_index bytes m) is

sum_of_three : (x y z : ℕ) → 65536 * z + 256 * y + x ≡ x + 256 * (y + 256 * (z + 256 * (0 + 256 * 0)))
sum_of_three x y z = omega arith

-- the colour of a pixel as the word that its bytes make with a zero behind them
colour_24 : (bytes : List ℕ) (k a b c : ℕ) → k * 3 + 0 ≡ a → k * 3 + 1 ≡ b → k * 3 + 2 ≡ c → colour_of Bgr24 (pixel_at Bgr24 bytes k) ≡ number_l 256 (slice_index bytes a ∷ slice_index bytes b ∷ slice_index bytes c ∷ 0 ∷ [])
colour_24 bytes k a b c is_a is_b is_c =
    rw (byte_24 bytes k 0 a (omega arith) is_a, byte_24 bytes k 1 b (omega arith) is_b, byte_24 bytes k 2 c (omega arith) is_c) (sum_of_three (slice_index bytes a) (slice_index bytes b) (slice_index bytes c))

-- sixteen bytes beside zeros
abbrev both : List ℕ → List ℕ → List ℕ
both bytes zeros = take 16 bytes ++ 0 ∷ zeros

lane : (bytes zeros : List ℕ) (i : ℕ) → 16 ≤ length bytes → i < 16 → slice_index_or (both bytes zeros) i 0 ≡ slice_index bytes i
lane bytes zeros i long small =
    get_or_append_left (take 16 bytes) (0 ∷ zeros) 0 i (omega (arith, length-take 16 bytes))
    ∙ get_or-take 16 bytes i 0 small

zero_lane : (bytes zeros : List ℕ) → 16 ≤ length bytes → slice_index_or (both bytes zeros) 16 0 ≡ 0
zero_lane bytes zeros long = get_or_at (take 16 bytes) 0 zeros 0 16 (omega (arith, length-take 16 bytes))

-- the words of four pixels of 24 bits
pub four_pixels : (bs zs : List ℕ) → 16 ≤ length bs → ((i : ℕ) → Fits w8 (slice_index bs i)) → digits_l (2 ^ 32) 4 (number_l 256 (slice_index_or (both bs zs) 0 0 ∷ slice_index_or (both bs zs) 1 0 ∷ slice_index_or (both bs zs) 2 0 ∷ slice_index_or (both bs zs) 16 0 ∷ slice_index_or (both bs zs) 3 0 ∷ slice_index_or (both bs zs) 4 0 ∷ slice_index_or (both bs zs) 5 0 ∷ slice_index_or (both bs zs) 16 0 ∷ slice_index_or (both bs zs) 6 0 ∷ slice_index_or (both bs zs) 7 0 ∷ slice_index_or (both bs zs) 8 0 ∷ slice_index_or (both bs zs) 16 0 ∷ slice_index_or (both bs zs) 9 0 ∷ slice_index_or (both bs zs) 10 0 ∷ slice_index_or (both bs zs) 11 0 ∷ slice_index_or (both bs zs) 16 0 ∷ [])) ≡ row_colours Bgr24 4 bs
four_pixels bs zs within fits =
    let small : (i : ℕ) → slice_index bs i < 256 = λ i. (fits i).fits in
    let lanes : ◌≡◌ {A = List ℕ} (slice_index_or (both bs zs) 0 0 ∷ slice_index_or (both bs zs) 1 0 ∷ slice_index_or (both bs zs) 2 0 ∷ slice_index_or (both bs zs) 16 0 ∷ slice_index_or (both bs zs) 3 0 ∷ slice_index_or (both bs zs) 4 0 ∷ slice_index_or (both bs zs) 5 0 ∷ slice_index_or (both bs zs) 16 0 ∷ slice_index_or (both bs zs) 6 0 ∷ slice_index_or (both bs zs) 7 0 ∷ slice_index_or (both bs zs) 8 0 ∷ slice_index_or (both bs zs) 16 0 ∷ slice_index_or (both bs zs) 9 0 ∷ slice_index_or (both bs zs) 10 0 ∷ slice_index_or (both bs zs) 11 0 ∷ slice_index_or (both bs zs) 16 0 ∷ []) (slice_index bs 0 ∷ slice_index bs 1 ∷ slice_index bs 2 ∷ 0 ∷ slice_index bs 3 ∷ slice_index bs 4 ∷ slice_index bs 5 ∷ 0 ∷ slice_index bs 6 ∷ slice_index bs 7 ∷ slice_index bs 8 ∷ 0 ∷ slice_index bs 9 ∷ slice_index bs 10 ∷ slice_index bs 11 ∷ 0 ∷ []) = rw (lane bs zs 0 within (omega arith), lane bs zs 1 within (omega arith), lane bs zs 2 within (omega arith), lane bs zs 3 within (omega arith), lane bs zs 4 within (omega arith), lane bs zs 5 within (omega arith), lane bs zs 6 within (omega arith), lane bs zs 7 within (omega arith), lane bs zs 8 within (omega arith), lane bs zs 9 within (omega arith), lane bs zs 10 within (omega arith), lane bs zs 11 within (omega arith), zero_lane bs zs within) refl in
    ap (λ (l : List ℕ). digits_l (2 ^ 32) 4 (number_l 256 l)) lanes
    ∙ words_of_bytes (slice_index bs 0 ∷ slice_index bs 1 ∷ slice_index bs 2 ∷ 0 ∷ slice_index bs 3 ∷ slice_index bs 4 ∷ slice_index bs 5 ∷ 0 ∷ slice_index bs 6 ∷ slice_index bs 7 ∷ slice_index bs 8 ∷ 0 ∷ slice_index bs 9 ∷ slice_index bs 10 ∷ slice_index bs 11 ∷ 0 ∷ []) (small 0, (small 1, (small 2, (omega arith, (small 3, (small 4, (small 5, (omega arith, (small 6, (small 7, (small 8, (omega arith, (small 9, (small 10, (small 11, (omega arith, tt))))))))))))))))
    ∙ same_four _ _ _ _ _ _ _ _ (sym (colour_24 bs 0 0 1 2 refl refl refl)) (sym (colour_24 bs 1 3 4 5 refl refl refl)) (sym (colour_24 bs 2 6 7 8 refl refl refl)) (sym (colour_24 bs 3 9 10 11 refl refl refl))

same_words : (x y s t : ℕ) → x ≡ s → y ≡ t → x + 256 * y ≡ s + 256 * t
same_words x y s t p q = rw (p, q) refl

-- the word of a pixel of 16 bits, among the first sixteen bytes
word_at : (bytes : List ℕ) (i m n : ℕ) → 16 ≤ length bytes → i < 8 → m ≡ 2 * i → n ≡ m + 1 → number_l 256 (chunk m 2 (take 16 bytes)) ≡ word_from (pixel_at Rgb565 bytes i)
word_at bytes i m n long small is next =
    let here : (a : ℕ) → a < 2 → slice_index (drop m (take 16 bytes)) a ≡ slice_index bytes (m + a) = λ a few. get_or-drop m (take 16 bytes) a 0 ∙ get_or-take 16 bytes (m + a) 0 (omega arith) in
    let there : (a : ℕ) → a < 2 → slice_index (pixel_at Rgb565 bytes i) a ≡ slice_index bytes (i * 2 + a) = λ a few. get_or-take (i * 2 + 2 - i * 2) (drop (i * 2) bytes) a 0 (omega arith) ∙ get_or-drop (i * 2) bytes a 0 in
    let place : (a : ℕ) → m + a ≡ i * 2 + a = λ a. omega arith in
    let same : (a : ℕ) → a < 2 → slice_index (drop m (take 16 bytes)) a ≡ slice_index (pixel_at Rgb565 bytes i) a = λ a few. here a few ∙ ap (λ p. slice_index bytes p) (place a) ∙ sym (there a few) in
    two_bytes (drop m (take 16 bytes)) (omega (arith, length-drop m (take 16 bytes), length-take 16 bytes))
    ∙ same_words _ _ _ _ (same 0 (omega arith)) (same 1 (omega arith))

-- the first eight words
pub eight_words : (bytes : List ℕ) → 16 ≤ length bytes → ((i : ℕ) → Fits w8 (slice_index bytes i)) → digits_l (2 ^ 16) 8 (number_l 256 (take 16 bytes)) ≡ map (λ k. word_from (pixel_at Rgb565 bytes k)) (range_with_len 0 8)
eight_words bytes long fits =
    short_words (take 16 bytes) (below_from_Fits w8 (chunk 0 16 bytes) (chunk-fits w8 0 16 bytes fits))
    ∙ same_eight _ _ _ _ _ _ _ _ _ _ _ _ _ _ _ _ (word_at bytes 0 0 1 long (omega arith) refl refl) (word_at bytes 1 2 3 long (omega arith) refl refl) (word_at bytes 2 4 5 long (omega arith) refl refl) (word_at bytes 3 6 7 long (omega arith) refl refl) (word_at bytes 4 8 9 long (omega arith) refl refl) (word_at bytes 5 10 11 long (omega arith) refl refl) (word_at bytes 6 12 13 long (omega arith) refl refl) (word_at bytes 7 14 15 long (omega arith) refl refl)

-- a byte of a pixel fits
pixel_byte_small : (format : Format) (bytes : List ℕ) → ((i : ℕ) → Fits w8 (slice_index bytes i)) → (k i : ℕ) → i < pixel_length format → slice_index (pixel_at format bytes k) i < 256
pixel_byte_small format bytes fits k i within =
    let at = k * pixel_length format in
    rw (get_or-take (at + pixel_length format - at) (drop at bytes) i 0 (omega arith), get_or-drop at bytes i 0) (fits (at + i)).fits

of_three : (x y z : ℕ) → x < 256 → y < 256 → z < 256 → 65536 * z + 256 * y + x < 16777216
of_three x y z small_x small_y small_z = omega arith

-- the colour of a pixel is below 2 ^ 24
small_colour : (format : Format) (bytes : List ℕ) → ((i : ℕ) → Fits w8 (slice_index bytes i)) → (k : ℕ) → colour_of format (pixel_at format bytes k) < 16777216
small_colour Bgrx32 bytes fits k = of_three _ _ _ (pixel_byte_small Bgrx32 bytes fits k 0 (omega arith)) (pixel_byte_small Bgrx32 bytes fits k 1 (omega arith)) (pixel_byte_small Bgrx32 bytes fits k 2 (omega arith))
small_colour Bgr24 bytes fits k = of_three _ _ _ (pixel_byte_small Bgr24 bytes fits k 0 (omega arith)) (pixel_byte_small Bgr24 bytes fits k 1 (omega arith)) (pixel_byte_small Bgr24 bytes fits k 2 (omega arith))
small_colour Rgb565 bytes fits k = small_565 (word_from (pixel_at Rgb565 bytes k))
small_colour Rgb555 bytes fits k = small_555 (word_from (pixel_at Rgb555 bytes k))

pub colours_small : (format : Format) (bytes : List ℕ) → ((i : ℕ) → Fits w8 (slice_index bytes i)) → (n : ℕ) → All (λ c. c < 16777216) (row_colours format n bytes)
colours_small format bytes fits n = λ k d few.
    let within : k < n = omega (arith, length-map-range_with_len (λ j. colour_of format (pixel_at format bytes j)) 0 n) in
    rw (get_or-map-range_with_len (λ j. colour_of format (pixel_at format bytes j)) 0 n k k d within (omega arith)) (small_colour format bytes fits k)
