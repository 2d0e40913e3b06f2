-- Rows that are read part by part.
use Rattle.std.proofs.Common.{◌≡◌, ℕ, zero, suc, ◌+◌, ◌-◌, ◌*◌, ◌≤◌, List, [], ◌++◌, ◌∷◌, length, take, drop, ap, sym, arith, ◌∙◌}
use borrow.Rule.Slice.PartMut.{put_mid}
use Rattle.std.proofs.lemmas.List.{append-nil, append_assoc, drop_all, drop-drop, length-append, length-drop, length-take, take_all}
use Rattle.std.proofs.lemmas.List.FromFn.{map-range_with_len_more}
use Rattle.svga_cmd.specs.declared.format.Format.{Format}
use Rattle.svga_cmd.specs.declared.format.Format.TheVariants.{Bgrx32, Bgr24, Rgb565, Rgb555}
use Rattle.svga_model.specs.Colours.{colour_of, pixel_at, pixel_length, row_colours}

piece : (length : ℕ) (bytes : List ℕ) (a b c : ℕ) → a + b ≡ c → take (b + length - b) (drop b (drop a bytes)) ≡ take (c + length - c) (drop c bytes)
piece length bytes a b c is =
    ap (λ n. take n (drop b (drop a bytes))) (let same : b + length - b ≡ c + length - c = omega arith in same)
    ∙ ap (λ xs. take (c + length - c) xs) (drop-drop b a bytes)
    ∙ ap (λ n. take (c + length - c) (drop n bytes)) is

-- a pixel of the bytes from pixel k on
later_pixel : (format : Format) (bytes : List ℕ) (k n : ℕ) → pixel_at format (drop (k * pixel_length format) bytes) n ≡ pixel_at format bytes (k + n)
later_pixel Bgrx32 bytes k n = piece 4 bytes (k * 4) (n * 4) ((k + n) * 4) (omega arith)
later_pixel Bgr24 bytes k n = piece 3 bytes (k * 3) (n * 3) ((k + n) * 3) (omega arith)
later_pixel Rgb565 bytes k n = piece 2 bytes (k * 2) (n * 2) ((k + n) * 2) (omega arith)
later_pixel Rgb555 bytes k n = piece 2 bytes (k * 2) (n * 2) ((k + n) * 2) (omega arith)

one_more : (format : Format) (bytes : List ℕ) (n : ℕ) → row_colours format (n + 1) bytes ≡ row_colours format n bytes ++ colour_of format (pixel_at format bytes n) ∷ []
one_more format bytes n = map-range_with_len_more (λ k. colour_of format (pixel_at format bytes k)) 0 n n (omega arith)

-- a row is its first pixels and then the others
pub row_parts : (format : Format) (bytes : List ℕ) (k n : ℕ) → row_colours format (k + n) bytes ≡ row_colours format k bytes ++ row_colours format n (drop (k * pixel_length format) bytes)
row_parts format bytes k zero = ap (λ m. row_colours format m bytes) (let same : k + 0 ≡ k = omega arith in same) ∙ sym (append-nil (row_colours format k bytes))
row_parts format bytes k (suc n) =
    let rest = drop (k * pixel_length format) bytes in
    ap (λ m. row_colours format m bytes) (let same : k + suc n ≡ k + n + 1 = omega arith in same)
    ∙ one_more format bytes (k + n)
    ∙ ap (λ front. front ++ colour_of format (pixel_at format bytes (k + n)) ∷ []) (row_parts format bytes k n)
    ∙ append_assoc (row_colours format k bytes) (row_colours format n rest) (colour_of format (pixel_at format bytes (k + n)) ∷ [])
    ∙ ap (λ pixel. row_colours format k bytes ++ (row_colours format n rest ++ colour_of format pixel ∷ [])) (sym (later_pixel format bytes k n))
    ∙ ap (λ back. row_colours format k bytes ++ back) (sym (one_more format rest n))
    ∙ ap (λ m. row_colours format k bytes ++ row_colours format m rest) (let same : n + 1 ≡ suc n = omega arith in same)

-- what is left of a list from an item on
pub rest_of : (xs : List ℕ) (a : ℕ) → take (length xs - a) (drop a xs) ≡ drop a xs
rest_of xs a = take_all (length xs - a) (drop a xs) (omega (arith, length-drop a xs))

-- the colours of the bytes from pixel k on, where a pixel has so many bytes
pub colours_of_rest : (format : Format) (bytes colours : List ℕ) (k length_of count n : ℕ) → length_of ≡ pixel_length format → count ≡ n → colours ≡ row_colours format count (take (length bytes - k * length_of) (drop (k * length_of) bytes)) → row_colours format k bytes ++ colours ≡ row_colours format (k + n) bytes
colours_of_rest format bytes colours k length_of count n is many read =
    ap (λ back. row_colours format k bytes ++ back)
    (read ∙ ap (λ bs. row_colours format count bs) (rest_of bytes (k * length_of) ∙ ap (λ m. drop (k * m) bytes) is) ∙ ap (λ m. row_colours format m (drop (k * pixel_length format) bytes)) many)
    ∙ sym (row_parts format bytes k n)

-- a part that is written keeps the length
pub length_put : (k n : ℕ) (xs ys : List ℕ) → k + n ≤ length xs → length ys ≡ n → length (put_mid k n xs ys) ≡ length xs
length_put k n xs ys within size =
    omega (arith, length-append (take k xs) (ys ++ drop n (drop k xs)), length-append ys (drop n (drop k xs)), length-take k xs, length-drop n (drop k xs), length-drop k xs)

-- a part that is written to the end
pub put_tail : (k : ℕ) (xs ys : List ℕ) → put_mid k (length xs - k) xs ys ≡ take k xs ++ ys
put_tail k xs ys =
    let nothing : drop (length xs - k) (drop k xs) ≡ [] = drop_all (length xs - k) (drop k xs) (omega (arith, length-drop k xs)) in
    (λ i. take k xs ++ (ys ++ nothing i)) ∙ ap (λ zs. take k xs ++ zs) (append-nil ys)
