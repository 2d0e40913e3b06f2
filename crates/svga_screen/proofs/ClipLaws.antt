-- The part of a rectangle on an area, from the parts of its sides.
use Rattle.std.proofs.Common.{◌≡◌, ℕ, ◌+◌, ◌<◌, ◌≤◌, ◌&&◌, ℤ, pos, ◌+ℤ◌, Bool, true, false, refl, sym, ap, ◌∙◌, arith, nat_lt, nat_le, FitsSigned, w32, to_z, of_z}
use Rattle.std.proofs.lemmas.Bool.Decides.{nat_tests}
use Rattle.std.proofs.lemmas.Int.{to_z-of_z}
use Rattle.std.specs.Prelude.{int_le, int_lt}
use Rattle.svga_cmd.specs.declared.blit.Rect.{Rect}
use Rattle.svga_model.specs.BlitPixels.{is_in_rect}
use Rattle.svga_screen.specs.Clips.{IsClip, is_inside, no_area}
use Rattle.svga_screen.specs.declared.area.Area.{Area}

-- the part of a side from `low` to below `high` on so many places that begin at `start`
abbrev pub IsPart : ℤ → ℤ → ℤ → ℕ → ℕ → ℕ → Type 0
IsPart low high start length from count = (k : ℕ) → k < length → (int_le low (start +ℤ pos k) && int_lt (start +ℤ pos k) high) ≡ (nat_le from k && nat_lt k (from + count))

-- the same of a side whose numbers were read as words
pub same_part : (low high start : ℤ) (length from count : ℕ) → FitsSigned w32 low → FitsSigned w32 high → FitsSigned w32 start
    → IsPart (to_z w32 (of_z w32 low)) (to_z w32 (of_z w32 high)) (to_z w32 (of_z w32 start)) length from count → IsPart low high start length from count
same_part low high start length from count fl fh fs part k l =
    (λ i. int_le (sym (to_z-of_z w32 low fl) i) (sym (to_z-of_z w32 start fs) i +ℤ pos k) && int_lt (sym (to_z-of_z w32 start fs) i +ℤ pos k) (sym (to_z-of_z w32 high fh) i))
    ∙ part k l

-- a side of no places holds none
none : (from count k : ℕ) → count ≡ 0 → (nat_le from k && nat_lt k (from + count)) ≡ false
none from count k e = grind (arith, nat_tests)

and_assoc : (a b c d : Bool) → ((a && b) && (c && d)) ≡ (((a && b) && c) && d)
and_assoc true true c d = refl
and_assoc true false c d = refl
and_assoc false b c d = refl

and_false : (a : Bool) → (a && false) ≡ false
and_false true = refl
and_false false = refl

nothing : (u v : ℕ) → is_inside no_area u v ≡ false
nothing u v = ap (λ b. b && (nat_le 0 v && nat_lt v (0 + 0))) (none 0 0 u refl)

module _ (r : Rect) (x y : ℤ) (width height left wide top high : ℕ) (across : IsPart r.left r.right x width left wide) (down : IsPart r.top r.bottom y height top high) where
  abbrev pub both_sides : Area
  both_sides = record { screen = 0; left = left; top = top; width = wide; height = high }

  same : (u v : ℕ) → u < width → v < height → is_inside both_sides u v ≡ is_in_rect r (x +ℤ pos u) (y +ℤ pos v)
  same u v lu lv = (λ i. sym (across u lu) i && sym (down v lv) i)
      ∙ and_assoc (int_le r.left (x +ℤ pos u)) (int_lt (x +ℤ pos u) r.right) (int_le r.top (y +ℤ pos v)) (int_lt (y +ℤ pos v) r.bottom)

  -- where the area of both sides holds no place, nothing is left
  empty : ((u v : ℕ) → is_inside both_sides u v ≡ false) → IsClip r x y width height no_area
  empty holds_none = record {
    screen = refl;
    wide = omega arith;
    high = omega arith;
    same = λ u v lu lv. nothing u v ∙ sym (holds_none u v) ∙ same u v lu lv;
    no_columns = λ e. refl;
    no_rows = λ e. refl;
  }

  pub clip-no_columns : wide ≡ 0 → IsClip r x y width height no_area
  clip-no_columns e = empty (λ u v. ap (λ b. b && (nat_le top v && nat_lt v (top + high))) (none left wide u e))

  pub clip-no_rows : high ≡ 0 → IsClip r x y width height no_area
  clip-no_rows e = empty (λ u v. ap (λ b. (nat_le left u && nat_lt u (left + wide)) && b) (none top high v e) ∙ and_false (nat_le left u && nat_lt u (left + wide)))

  pub clip-both_sides : left + wide ≤ width → top + high ≤ height → (wide ≡ 0 → ⊥) → (high ≡ 0 → ⊥) → IsClip r x y width height both_sides
  clip-both_sides in_width in_height some_columns some_rows = record {
    screen = refl;
    wide = in_width;
    high = in_height;
    same = same;
    no_columns = λ e. absurd (some_columns e);
    no_rows = λ e. absurd (some_rows e);
  }
