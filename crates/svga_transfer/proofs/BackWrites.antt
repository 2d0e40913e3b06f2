-- What a run of pixels writes: the bytes of its colours one behind another.
use Rattle.std.proofs.Common.{◌≡◌, ℕ, suc, ◌+◌, ◌-◌, ◌*◌, ◌<◌, ◌≤◌, refl, sym, ap, ◌∙◌, List, [], ◌∷◌, ◌++◌, length, take, drop, map, flat_map, slice_index, Option, Some, None, IsSomeAnd, ℤ, pos, ◌+ℤ◌, unsigned_abs, arith, length-append, length-drop, length-take}
use Rattle.std.proofs.lemmas.Int.{ints}
use Rattle.std.proofs.lemmas.List.{get_or-drop, get_or-take}
use Rattle.std.proofs.Math.Nat.{suc-mul, zero-mul}
use Rattle.std.specs.FinMap as map
use Rattle.std.specs.List.{range_with_len}
use Rattle.svga_cmd.specs.Pages.{Memory}
use Rattle.svga_cmd.specs.declared.blit.Blit.{Blit}
use Rattle.svga_cmd.specs.declared.format.Format.{Format}
use Rattle.svga_cmd.specs.declared.format.Format.TheVariants.{Bgrx32, Bgr24, Rgb565, Rgb555}
use Rattle.svga_cmd.specs.declared.gmrfb.Gmrfb.{Gmrfb}
use Rattle.svga_cmd.specs.declared.screen.ScreenDef.{ScreenDef}
use Rattle.svga_model.proofs.WorkedScreens.{pixel_of}
use Rattle.svga_model.specs.BlitEffects.{colour_on}
use Rattle.svga_model.specs.BlitPixels.{ScreenPixel, blit_offset, covers}
use Rattle.svga_model.specs.Colours.{bytes_of, pixel_length, row_bytes}
use Rattle.svga_model.specs.Memories.{ByteWrite, writes_from, written}
use Rattle.svga_model.specs.Regions.{Places}
use Rattle.svga_model.specs.Screens.{IsAsWide, Screens, definitions_of, row_of}
use Rattle.svga_transfer.specs.Backs.{pixel_writes, place_writes, writes_along}
use Rattle.svga_transfer.specs.Runs.{IsRun, first_of}
use Rattle.svga_transfer.specs.declared.runs.Run.{Run}
use Rattle.svga_transfer.proofs.BackRanges.{gap_steps}
use Rattle.svga_transfer.proofs.ByteWrites.{writes_from-append}
use Rattle.svga_model.proofs.PixelSteps.{pixel_begins}

-- a colour has the bytes of a pixel
length-bytes_of : (f : Format) (colour : ℕ) → length (bytes_of f colour) ≡ pixel_length f
length-bytes_of Bgrx32 colour = refl
length-bytes_of Bgr24 colour = refl
length-bytes_of Rgb565 colour = refl
length-bytes_of Rgb555 colour = refl

-- Where each place writes the bytes of its colour, one pixel behind the other, all of them together write
-- the row.
row_writes : (f : ℤ → List ByteWrite) (format : Format) (X : ℤ) (colours : List ℕ) (a i : ℕ)
    → ((k : ℕ) → k < length colours
    → f (X +ℤ pos (a + k)) ≡ writes_from (i + k * pixel_length format) (bytes_of format (slice_index colours k)))
    → flat_map f (map (λ k. X +ℤ pos k) (range_with_len a (length colours))) ≡ writes_from i (row_bytes format colours)
row_writes f format X [] a i each = refl
row_writes f format X (c ∷ cs) a i each =
    let n = pixel_length format in
    let place : X +ℤ pos a ≡ X +ℤ pos (a + 0) = omega (arith, ints) in
    let begins : i + 0 * n ≡ i = omega (arith, zero-mul n) in
    let first = ap f place ∙ each 0 (omega arith) ∙ ap (λ j. writes_from j (bytes_of format c)) begins in
    let rest = row_writes f format X cs (a + 1) (i + n) later in
    let ends : i + n ≡ i + length (bytes_of format c) = omega (arith, length-bytes_of format c) in
    (λ j. first j ++ rest j)
    ∙ ap (λ j. writes_from i (bytes_of format c) ++ writes_from j (row_bytes format cs)) ends
    ∙ sym (writes_from-append i (bytes_of format c) (row_bytes format cs))
  where
    later : (k : ℕ) → k < length cs
        → f (X +ℤ pos (a + 1 + k))
        ≡ writes_from (i + pixel_length format + k * pixel_length format) (bytes_of format (slice_index cs k))
    later k l =
        let n = pixel_length format in
        let place : X +ℤ pos (a + 1 + k) ≡ X +ℤ pos (a + suc k) = omega (arith, ints) in
        let begins : i + suc k * n ≡ i + n + k * n = omega (arith, suc-mul k n) in
        ap f place ∙ each (suc k) (omega arith) ∙ ap (λ j. writes_from j (bytes_of format (slice_index cs k))) begins

-- what is written for a place whose first pixel is this one
first_writes : (screens : Screens) (g : Gmrfb) (offset : ℤ) (ss : List ScreenPixel) (q : ScreenPixel)
    → first_of ss ≡ Some q
    → pixel_writes screens g offset ss
    ≡ writes_from (unsigned_abs offset) (bytes_of g.format (colour_on (map.get screens q.screen) q.x q.y))
first_writes screens g offset [] q e = absurd (cc)
first_writes screens g offset (p ∷ ps) q e =
    let same : p ≡ q = cc in
    ap (λ r. writes_from (unsigned_abs offset) (bytes_of g.format (colour_on (map.get screens r.screen) r.x r.y))) same

-- a row of colours has the bytes of so many pixels
pub length-row_bytes : (format : Format) (colours : List ℕ)
    → length (row_bytes format colours) ≡ length colours * pixel_length format
length-row_bytes format [] = let none = zero-mul (pixel_length format) in omega arith
length-row_bytes format (c ∷ cs) =
    let n = pixel_length format in
    omega (
      arith,
      length-append (bytes_of format c) (row_bytes format cs),
      length-bytes_of format c,
      length-row_bytes format cs,
      suc-mul (length cs) n,
    )

-- a screen's row is long enough for a run on it
long_enough : (o : Option ScreenDef) (row : List ℕ) (x n y : ℕ) → IsAsWide o row
    → IsSomeAnd o (λ d. (x + n ≤ d.width) × (y < d.height)) → x + n ≤ length row
long_enough None row x n y wide shown = absurd wide
long_enough (Some d) row x n y wide shown = omega arith

-- What a run writes are the bytes of its part of the screen's row, from its first pixel's place on.
module _ (screens : Screens) (g : Gmrfb) (b : Blit) (Y : ℤ) (r : Run) (row : List ℕ)
    (run : IsRun (definitions_of screens) b Y r) (wide : IsAsWide (definitions_of screens r.screen) row) where
  abbrev colours : List ℕ
  colours = take (r.x + r.length - r.x) (drop r.x row)

  count : length colours ≡ r.length
  count =
      let long = long_enough (definitions_of screens r.screen) row r.x r.length r.y wide run.shown in
      omega (arith, length-take (r.x + r.length - r.x) (drop r.x row), length-drop r.x row)

  pub run_pixels : length colours * pixel_length g.format ≡ r.length * pixel_length g.format
  run_pixels = ap (λ n. n * pixel_length g.format) count

  pub run_bytes : length (row_bytes g.format colours) ≡ r.length * pixel_length g.format
  run_bytes = length-row_bytes g.format colours ∙ ap (λ n. n * pixel_length g.format) count

  module _ (i : ℕ) (row_is : Some row ≡ row_of screens r.screen r.y) (begins : pos i ≡ blit_offset g b r.from Y) where
    pixel_there : (k : ℕ) → k < length colours
        → place_writes screens g b (r.from +ℤ pos (0 + k)) Y
        ≡ writes_from (i + k * pixel_length g.format) (bytes_of g.format (slice_index colours k))
    unfolding place_writes
    pixel_there k l =
        let X = r.from +ℤ pos k in
        let n = pixel_length g.format in
        let here : r.from +ℤ pos (0 + k) ≡ X = omega (arith, ints) in
        let q : ScreenPixel = record { screen = r.screen; x = r.x + k; y = r.y } in
        let low : k < r.length = omega (arith, count) in
        let first = first_writes screens g (blit_offset g b X Y) (covers (definitions_of screens) b.screen X Y) q
        (run.first k low) in
        let part : slice_index colours k ≡ slice_index row (r.x + k) =
        get_or-take (r.x + r.length - r.x) (drop r.x row) k 0 (omega arith) ∙ get_or-drop r.x row k 0 in
        let colour = pixel_of screens r.screen (r.x + k) r.y row (sym row_is) ∙ sym part in
        let at : unsigned_abs (blit_offset g b X Y) ≡ i + k * n = pixel_begins g b r.from Y i k begins in
        ap (λ Z. pixel_writes screens g (blit_offset g b Z Y) (covers (definitions_of screens) b.screen Z Y)) here
        ∙ first ∙ (λ j. writes_from (at j) (bytes_of g.format (colour j)))

    run_writes : writes_along screens g b Y r.from (r.from +ℤ pos r.length)
        ≡ writes_from i (row_bytes g.format colours)
    unfolding writes_along
    run_writes =
        let writes : ℤ → List ByteWrite = λ X. place_writes screens g b X Y in
        ap (λ n. flat_map writes (map (λ k. r.from +ℤ pos k) (range_with_len 0 n)))
        (gap_steps r.from r.length ∙ sym count)
        ∙ row_writes writes g.format r.from colours 0 i pixel_there

    -- so where those bytes are written, the run is
    pub run_written : (places : Places) (m n : Memory) (bytes : List ℕ) → bytes ≡ row_bytes g.format colours
        → n ≡ written places m (writes_from i bytes)
        → n ≡ written places m (writes_along screens g b Y r.from (r.from +ℤ pos r.length))
    run_written places m n bytes are done =
        done ∙ ap (written places m) (ap (writes_from i) are ∙ sym run_writes)
