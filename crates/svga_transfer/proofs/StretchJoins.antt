-- The next run of some screens and one more.
use Rattle.std.proofs.Common.{ℕ, ◌+◌, inl, inr, ℤ, ◌≤ℤ◌, Option, Some, None, arith}
use Rattle.std.proofs.lemmas.Bool.{cases_lt}
use Rattle.std.proofs.lemmas.Int.{ints}
use Rattle.std.specs.Option.{option_or}
use Rattle.svga_cmd.specs.declared.blit.Blit.{Blit}
use Rattle.svga_cmd.specs.declared.screen.ScreenDef.{ScreenDef}
use Rattle.svga_transfer.specs.Stretches.{IsBareOf, IsFirstOf, IsNextOf, column_of}
use Rattle.svga_transfer.specs.declared.runs.Run.{Run}

-- what is bare of the ids below one, and of that one
pub both_bare : (definitions : ℕ → Option ScreenDef) (b : Blit) (id : ℕ) (Y from to : ℤ)
    → IsBareOf definitions b 0 id Y from to → IsBareOf definitions b id (id + 1) Y from to
    → IsBareOf definitions b 0 (id + 1) Y from to
both_bare definitions b id Y from to below here n low high X l r = elim (cases_lt n id) [
  | inl less ↦ below n low less X l r
  | inr past ↦ here n (omega arith) high X l r
]

module _ (definitions : ℕ → Option ScreenDef) (b : Blit) (id : ℕ) (from right Y : ℤ) where
  -- the screens before are bare up to where their next run begins
  bare_before : (next : Option Run) → IsNextOf definitions b 0 id from right Y next
      → IsBareOf definitions b 0 id Y from (column_of next right)
  bare_before None h = h
  bare_before (Some r) h = h.bare

  column_bound : (next : Option Run) → IsNextOf definitions b 0 id from right Y next → column_of next right ≤ℤ right
  column_bound None h = omega (arith, ints)
  column_bound (Some r) h = omega (arith, ints, h.before)

  -- a run of the new screen before that one
  new_run : (end : ℤ) → end ≤ℤ right → (r : Run) → IsBareOf definitions b 0 id Y from end
      → IsFirstOf definitions b id (id + 1) from end Y r → IsFirstOf definitions b 0 (id + 1) from right Y r
  new_run end bound r below h = record {
    some = h.some;
    short = h.short;
    screen = (omega arith, h.screen.1);
    behind = h.behind;
    before = omega (arith, ints, h.before);
    shown = h.shown;
    bare = both_bare definitions b id Y from r.from (λ n low high X start stop.
        below n low high X start (omega (arith, ints, h.before, h.some))) h.bare;
    pixels = h.pixels;
    alone = λ n low high X start stop.
        below n low (omega (arith, h.screen)) X (omega (arith, ints, h.behind)) (omega (arith, ints, h.before));
  }

  old_run : (r : Run) → IsFirstOf definitions b 0 id from right Y r → IsBareOf definitions b id (id + 1) Y from r.from
      → IsFirstOf definitions b 0 (id + 1) from right Y r
  old_run r h here = record {
    some = h.some;
    short = h.short;
    screen = (omega arith, omega (arith, h.screen));
    behind = h.behind;
    before = h.before;
    shown = h.shown;
    bare = both_bare definitions b id Y from r.from h.bare here;
    pixels = h.pixels;
    alone = h.alone;
  }

  pub next_with : (next found : Option Run) → IsNextOf definitions b 0 id from right Y next
      → IsNextOf definitions b id (id + 1) from (column_of next right) Y found
      → IsNextOf definitions b 0 (id + 1) from right Y (option_or found next)
  next_with next (Some r) before here =
      new_run (column_of next right) (column_bound next before) r (bare_before next before) here
  next_with None None before here = both_bare definitions b id Y from right before here
  next_with (Some r) None before here = old_run r before here
