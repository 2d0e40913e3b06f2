-- The colours of pixels whose bytes were read.
use Rattle.std.proofs.Common.{◌≡◌, ℕ, ◌+◌, ◌*◌, ◌<◌, ◌≤◌, refl, sym, ap, ◌∙◌, List, length, map as map_list, slice_index, arith}
use Rattle.std.proofs.Math.Nat.{mul-le-mul_left}
use Rattle.std.proofs.lemmas.Grind.{same_number_lists}
use Rattle.std.proofs.lemmas.List.Edits.{get_or-between, length-between}
use Rattle.std.proofs.lemmas.List.FromFn.{get_or-map-range_with_len, length-map-range_with_len}
use Rattle.std.specs.List.{range_with_len}
use Rattle.svga_cmd.specs.declared.format.Format.{Format}
use Rattle.svga_model.specs.BlitEffects.{colour_at}
use Rattle.svga_model.specs.Colours.{colour_of, pixel_at, pixel_length, row_colours}
use Rattle.svga_transfer.proofs.ListLaws.{same_map}
use Rattle.svga_transfer.specs.Painting.{colours_from}

-- the bytes of one of so many pixels end within those of all
ends_within : (k count n : ℕ) → k < count → k * n + n ≤ count * n
ends_within k count n l = grind (arith, mul-le-mul_left)

module _ (format : Format) (bytes : ℕ → ℕ) (from count : ℕ) where
  abbrev pub read : List ℕ
  read = map_list bytes (range_with_len from (count * pixel_length format))

  -- the bytes of pixel k
  pixel_read : (k : ℕ) → k < count
      → pixel_at format read k ≡ map_list bytes (range_with_len (from + k * pixel_length format) (pixel_length format))
  pixel_read k l = same_number_lists (pixel_at format read k)
      (map_list bytes (range_with_len (from + k * n) n))
      (sized ∙ sym (length-map-range_with_len bytes (from + k * n) n))
      (λ j below. at j (omega (arith, sized)))
    where
      n : ℕ
      n = pixel_length format

      fits : k * n + n ≤ length read
      fits = omega (arith, ends_within k count n l, length-map-range_with_len bytes from (count * n))

      sized : length (pixel_at format read k) ≡ n
      sized = length-between read (k * n) (k * n + n) fits ∙ omega arith

      at : (j : ℕ) → j < n → slice_index (pixel_at format read k) j
          ≡ slice_index (map_list bytes (range_with_len (from + k * n) n)) j
      at j below =
          get_or-between read (k * n) (k * n + n) j 0 (omega arith)
          ∙ get_or-map-range_with_len bytes from (count * n) (k * n + j) (from + k * n + j) 0
          (omega (arith, ends_within k count n l)) (omega arith)
          ∙ sym (get_or-map-range_with_len bytes (from + k * n) n j (from + k * n + j) 0 below refl)

  -- the colours of a row of these bytes
  pub colours_read : row_colours format count read ≡ colours_from bytes format from count
  colours_read = same_map (λ k. colour_of format (pixel_at format read k))
      (λ k. colour_at bytes format (from + k * pixel_length format)) 0 count
      (λ k low high. ap (colour_of format) (pixel_read k (omega arith)))
