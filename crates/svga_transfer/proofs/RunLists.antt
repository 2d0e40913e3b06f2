-- What the list of the screens' pixels at a place has, told from each screen's.
use Rattle.std.proofs.Common.{◌≡◌, ℕ, zero, suc, ◌+◌, ◌<◌, ◌≤◌, inl, inr, ap, ◌∙◌, subst, ℤ, pos, ◌+ℤ◌, ◌≤ℤ◌, filter_map, Option, Some, None, IfSome, IfNone, arith}
use Rattle.std.proofs.lemmas.Bool.{cases_lt}
use Rattle.std.proofs.lemmas.Int.{ints}
use Rattle.std.specs.List.{cons_option, range_with_len}
use Rattle.svga_cmd.specs.declared.blit.Blit.{Blit}
use Rattle.svga_cmd.specs.declared.screen.ScreenDef.{ScreenDef}
use Rattle.svga_model.proofs.PixelsNone.{filter_map-none_below}
use Rattle.svga_model.specs.BlitPixels.{ScreenPixel, covered_on}
use Rattle.svga_transfer.specs.Runs.{AreBare, IsBare, IsNextRun, first_of}
use Rattle.svga_transfer.specs.Stretches.{AreBareOf, IsBareOf, IsFirstOf, IsNextOf}
use Rattle.svga_transfer.specs.declared.runs.Run.{Run}

-- what the first number that gives something gives is the head of the list
first_listed : (f : ℕ → Option ScreenPixel) (from count id : ℕ) (p : ScreenPixel) → from ≤ id → id < from + count
    → ((lesser : ℕ) → from ≤ lesser → lesser < id → f lesser ≡ None) → f id ≡ Some p
    → first_of (filter_map f (range_with_len from count)) ≡ Some p
first_listed f from zero id p low high none some = absurd (omega arith)
first_listed f from (suc count) id p low high none some = elim (cases_lt from id) [
  | inl less ↦
      ap (λ o. first_of (cons_option o (filter_map f (range_with_len (from + 1) count)))) (none from (omega arith) less)
      ∙ first_listed f (from + 1) count id p (omega arith) (omega arith) (λ n l r. none n (omega arith) r) some
  | inr past ↦
      let here : from ≡ id = omega arith in
      ap (λ o. first_of (cons_option o (filter_map f (range_with_len (from + 1) count)))) (ap f here ∙ some)
]

module _ (definitions : ℕ → Option ScreenDef) (b : Blit) where
  bare_of_all : (Y from to : ℤ) → IsBareOf definitions b 0 16 Y from to → IsBare definitions b Y from to
  bare_of_all Y from to h X low high =
      filter_map-none_below (λ id. covered_on (definitions id) id b.screen X Y) 0 16
      (λ id l. h id (omega arith) l X low high)

  next_of_all : (from Y : ℤ) (r : Run) → b.rect.left ≤ℤ from → IsFirstOf definitions b 0 16 from b.rect.right Y r
      → IsNextRun definitions b from Y r
  next_of_all from Y r left h = record {
    behind = h.behind;
    bare = bare_of_all Y from r.from h.bare;
    run = record {
      some = h.some;
      short = h.short;
      inside = (omega (arith, ints, left, h.behind), h.before);
      shown = h.shown;
      first = λ k l.
          first_listed (λ id. covered_on (definitions id) id b.screen (r.from +ℤ pos k) Y) 0 16 r.screen
          (record { screen = r.screen; x = r.x + k; y = r.y }) (omega arith) h.screen.1
          (λ n low high. h.alone n low high (r.from +ℤ pos k) (omega (arith, ints)) (omega (arith, ints, l)))
          (h.pixels k l);
    };
  }

  -- once each screen has been asked
  pub found_of_all : (id : ℕ) (from Y : ℤ) (next : Option Run) → 16 ≤ id → id ≤ 16 → b.rect.left ≤ℤ from
      → IsNextOf definitions b 0 id from b.rect.right Y next → IfSome next (IsNextRun definitions b from Y)
  found_of_all id from Y None low high left h = tt
  found_of_all id from Y (Some r) low high left h =
      let all : id ≡ 16 = omega arith in
      next_of_all from Y r left (subst (λ n. IsFirstOf definitions b 0 n from b.rect.right Y r) all h)

  pub none_of_all : (id : ℕ) (from Y : ℤ) (next : Option Run) → 16 ≤ id → id ≤ 16
      → IsNextOf definitions b 0 id from b.rect.right Y next → IfNone next (IsBare definitions b Y from b.rect.right)
  none_of_all id from Y None low high h =
      let all : id ≡ 16 = omega arith in
      bare_of_all Y from b.rect.right (subst (λ n. IsBareOf definitions b 0 n Y from b.rect.right) all h)
  none_of_all id from Y (Some r) low high h = tt

  pub rows_of_all : (id : ℕ) (from to row : ℤ) → 16 ≤ id → id ≤ 16 → to ≤ℤ row → AreBareOf definitions b 0 id from row
      → AreBare definitions b from to
  rows_of_all id from to row low high within h Y start stop =
      let all : id ≡ 16 = omega arith in
      bare_of_all Y b.rect.left b.rect.right
      (subst (λ n. IsBareOf definitions b 0 n Y b.rect.left b.rect.right) all (h Y start (omega (arith, ints, within))))
