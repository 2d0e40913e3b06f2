-- What is left to be written, as rows and runs are done one behind another.
use Rattle.std.proofs.Common.{◌≡◌, refl, sym, ap, ◌∙◌, List, [], ◌∷◌, ◌++◌, subst, flat_map, filter_map, Option, Some, None, ℤ, pos, ◌+ℤ◌, ◌≤ℤ◌, ◌<ℤ◌, unsigned_abs, arith}
use Rattle.std.proofs.lemmas.Grind.{flat_map-append}
use Rattle.std.proofs.lemmas.Int.{ints}
use Rattle.std.specs.List.{cons_option}
use Rattle.svga_cmd.specs.Pages.{Memory}
use Rattle.svga_cmd.specs.declared.blit.Blit.{Blit}
use Rattle.svga_cmd.specs.declared.gmrfb.Gmrfb.{Gmrfb}
use Rattle.svga_model.specs.BlitEffects.{blit_writes, first_colour}
use Rattle.svga_model.specs.BlitPixels.{BlitPixel, ScreenPixel, blit_offset, blit_pixel, covers, int_range, pixel_there}
use Rattle.svga_model.specs.Colours.{bytes_of}
use Rattle.svga_model.specs.Memories.{ByteWrite, writes_from, written}
use Rattle.svga_model.specs.Regions.{Places}
use Rattle.svga_model.specs.Screens.{Screens, definitions_of}
use Rattle.svga_transfer.specs.Backs.{pixel_writes, place_writes, writes_along, writes_down}
use Rattle.svga_transfer.specs.Runs.{AreBare, IsBare, IsNextRun}
use Rattle.svga_transfer.specs.declared.runs.Run.{Run}
use Rattle.svga_transfer.proofs.BackRanges.{made_none, made_one, made_split}
use Rattle.svga_transfer.proofs.ByteWrites.{written-append}

-- What a range of places writes, where some are written and those before them write nothing.
module _ (f : ℤ → List ByteWrite) (places : Places) (m target : Memory) where
  abbrev range_writes : ℤ → ℤ → List ByteWrite
  range_writes from to = flat_map f (int_range from to)

  abbrev WriteNothing : ℤ → ℤ → Type 0
  WriteNothing from to = (X : ℤ) → from ≤ℤ X → X <ℤ to → f X ≡ []

  step : (from mid to end : ℤ) (n : Memory) → from ≤ℤ mid → mid ≤ℤ to → to ≤ℤ end → WriteNothing from mid
      → n ≡ written places m (range_writes mid to) → written places m (range_writes from end) ≡ target
      → written places n (range_writes to end) ≡ target
  step from mid to end n first second third none done all =
      let up : mid ≤ℤ end = omega (arith, ints) in
      let whole : range_writes from end ≡ range_writes mid to ++ range_writes to end =
      made_split f from mid end first up ∙ ap (λ ws. ws ++ range_writes mid end) (made_none f from mid none)
      ∙ made_split f mid to end second third in
      ap (λ k. written places k (range_writes to end)) done
      ∙ sym (written-append places m (range_writes mid to) (range_writes to end))
      ∙ ap (written places m) (sym whole) ∙ all

  ended : (from end : ℤ) → WriteNothing from end → written places m (range_writes from end) ≡ target → m ≡ target
  ended from end none all = ap (written places m) (sym (made_none f from end none)) ∙ all

module _ (screens : Screens) (g : Gmrfb) (b : Blit) where
  -- a bare part of a row writes nothing
  bare_along : (Y from to : ℤ) → IsBare (definitions_of screens) b Y from to
      → (X : ℤ) → from ≤ℤ X → X <ℤ to → place_writes screens g b X Y ≡ []
  unfolding place_writes
  bare_along Y from to bare X low high = ap (pixel_writes screens g (blit_offset g b X Y)) (bare X low high)

  -- and so do bare rows
  bare_down : (from to : ℤ) → AreBare (definitions_of screens) b from to
      → (Y : ℤ) → from ≤ℤ Y → Y <ℤ to → writes_along screens g b Y b.rect.left b.rect.right ≡ []
  unfolding writes_along
  bare_down from to bare Y low high = made_none (λ X. place_writes screens g b X Y) b.rect.left b.rect.right
      (bare_along Y b.rect.left b.rect.right (bare Y low high))

  module _ (places : Places) (m target : Memory) where
    -- what is left of a row behind a run that is done
    pub run_done : (Y from next : ℤ) (r : Run) (n : Memory) → IsNextRun (definitions_of screens) b from Y r
        → r.from +ℤ pos r.length ≡ next
        → n ≡ written places m (writes_along screens g b Y r.from (r.from +ℤ pos r.length))
        → written places m (writes_along screens g b Y from b.rect.right) ≡ target
        → written places n (writes_along screens g b Y next b.rect.right) ≡ target
    unfolding writes_along
    run_done Y from next r n is ends done all =
        let end = r.from +ℤ pos r.length in
        let up : r.from ≤ℤ end = omega (arith, ints) in
        subst (λ X. written places n (flat_map (λ X. place_writes screens g b X Y) (int_range X b.rect.right)) ≡ target)
        ends
        (step (λ X. place_writes screens g b X Y) places m target from r.from end b.rect.right n is.behind up
        is.run.inside.1 (bare_along Y from r.from is.bare) done all)

    -- a row is done where the rest of it is bare
    pub row_done : (Y from : ℤ) → IsBare (definitions_of screens) b Y from b.rect.right
        → written places m (writes_along screens g b Y from b.rect.right) ≡ target → m ≡ target
    unfolding writes_along
    row_done Y from bare all = ended (λ X. place_writes screens g b X Y) places m target from b.rect.right
        (bare_along Y from b.rect.right bare) all

    -- what is left of the blit behind a row that is done
    pub row_next : (from Y next : ℤ) (n : Memory) → from ≤ℤ Y → Y <ℤ b.rect.bottom
        → AreBare (definitions_of screens) b from Y → Y +ℤ pos 1 ≡ next
        → n ≡ written places m (writes_along screens g b Y b.rect.left b.rect.right)
        → written places m (writes_down screens g b from b.rect.bottom) ≡ target
        → written places n (writes_down screens g b next b.rect.bottom) ≡ target
    unfolding writes_down
    row_next from Y next n low high bare ends done all =
        let along = λ (V : ℤ). writes_along screens g b V b.rect.left b.rect.right in
        let one = ap (written places m) (sym (made_one along Y)) in
        subst (λ V. written places n (flat_map along (int_range V b.rect.bottom)) ≡ target) ends
        (step along places m target from Y (Y +ℤ pos 1) b.rect.bottom n low (omega (arith, ints)) (omega (arith, ints))
        (bare_down from Y bare) (done ∙ one) all)

    -- all is done where the rows that are left are bare
    pub all_done : (from : ℤ) → AreBare (definitions_of screens) b from b.rect.bottom
        → written places m (writes_down screens g b from b.rect.bottom) ≡ target → m ≡ target
    unfolding writes_down
    all_done from bare all = ended (λ V. writes_along screens g b V b.rect.left b.rect.right) places m target from
        b.rect.bottom (bare_down from b.rect.bottom bare) all

-- what is made of what is made of items
nested : {X Y Z : Type 0} (h : Y → List Z) (r : X → List Y) (xs : List X)
    → flat_map h (flat_map r xs) ≡ flat_map (λ x. flat_map h (r x)) xs
nested h r [] = refl
nested h r (x ∷ xs) =
    flat_map-append h (r x) (flat_map r xs) ∙ ap (λ zs. flat_map h (r x) ++ zs) (nested h r xs)

-- what is made of an item that there may be
abbrev made_if : {Y Z : Type 0} → (Y → List Z) → Option Y → List Z
made_if h None = []
made_if h (Some y) = h y

one_more : {Y Z : Type 0} (h : Y → List Z) (o : Option Y) (ys : List Y)
    → flat_map h (cons_option o ys) ≡ made_if h o ++ flat_map h ys
one_more h None ys = refl
one_more h (Some y) ys = refl

filtered : {X Y Z : Type 0} (h : Y → List Z) (o : X → Option Y) (xs : List X)
    → flat_map h (filter_map o xs) ≡ flat_map (λ x. made_if h (o x)) xs
filtered h o [] = refl
filtered h o (x ∷ xs) =
    one_more h (o x) (filter_map o xs) ∙ ap (λ zs. made_if h (o x) ++ zs) (filtered h o xs)

module _ (screens : Screens) (g : Gmrfb) (b : Blit) where
  abbrev covered : ℤ → ℤ → List ScreenPixel
  covered X Y = covers (definitions_of screens) b.screen X Y

  -- what a pixel of the blit writes
  abbrev of_pixel : BlitPixel → List ByteWrite
  of_pixel p = writes_from (unsigned_abs p.offset) (bytes_of g.format (first_colour screens (covered p.x p.y)))

  there : (p : BlitPixel) (ss : List ScreenPixel) → covered p.x p.y ≡ ss
      → made_if of_pixel (pixel_there ss p) ≡ pixel_writes screens g p.offset ss
  there p [] e = refl
  there p (s ∷ ss) e =
      ap (λ qs. writes_from (unsigned_abs p.offset) (bytes_of g.format (first_colour screens qs))) e

  -- the pixels of row Y, and what they write
  abbrev row_pixels : ℤ → List BlitPixel
  row_pixels Y = filter_map (λ X. blit_pixel (definitions_of screens) g b X Y) (int_range b.rect.left b.rect.right)

  row_is : (Y : ℤ) → flat_map of_pixel (row_pixels Y) ≡ writes_along screens g b Y b.rect.left b.rect.right
  unfolding writes_along place_writes
  row_is Y =
      let pixel : ℤ → BlitPixel = λ X. record { x = X; y = Y; offset = blit_offset g b X Y } in
      let columns = int_range b.rect.left b.rect.right in
      filtered of_pixel (λ X. blit_pixel (definitions_of screens) g b X Y) columns
      ∙ (λ i. flat_map (λ X. there (pixel X) (covered X Y) refl i) columns)

  -- what a blit back writes, row by row
  pub rows_are : blit_writes screens g b ≡ writes_down screens g b b.rect.top b.rect.bottom
  unfolding blit_writes writes_down
  rows_are =
      nested of_pixel row_pixels (int_range b.rect.top b.rect.bottom)
      ∙ (λ i. flat_map (λ Y. row_is Y i) (int_range b.rect.top b.rect.bottom))
