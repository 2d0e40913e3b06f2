-- Which pixels a screen shows, by where it lies.
use Rattle.std.proofs.Common.{◌≡◌, ℕ, ◌+◌, ◌<◌, ◌≤◌, sym, ap, ◌∙◌, subst, Bool, true, false, ◌&&◌, if◌then◌else◌, ℤ, pos, ◌+ℤ◌, ◌-ℤ◌, ◌≤ℤ◌, ◌<ℤ◌, int_le, int_lt, unsigned_abs, Option, Some, None, IsSomeAnd, IfSome, IfNone, arith}
use Rattle.std.proofs.lemmas.Bool.{and_right}
use Rattle.std.proofs.lemmas.Int.{ints}
use Rattle.std.proofs.Math.Bool.{and_assoc}
use Rattle.svga_cmd.specs.declared.blit.Blit.{Blit}
use Rattle.svga_cmd.specs.declared.screen.ScreenDef.{ScreenDef}
use Rattle.svga_model.specs.BlitPixels.{ScreenPixel, covered_on, is_in_area, is_meant}
use Rattle.svga_transfer.proofs.WholeTests.{all_sides}
use Rattle.svga_transfer.specs.Stretches.{HasNoColumn, IsBareOf, IsFirstOf, IsNextOf, IsShort, IsStretch, is_column, is_row, run_pixel, site_of, site_on}
use Rattle.svga_transfer.specs.declared.runs.Run.{Run}
use Rattle.svga_transfer.specs.declared.runs.Site.{Site}

-- the pixel of a screen at a place, and whether the screen lies there
abbrev pub pixel_at : Site → ℕ → ℤ → ℤ → ScreenPixel
pixel_at s id X Y = record { screen = id; x = unsigned_abs (X -ℤ s.x); y = unsigned_abs (Y -ℤ s.y) }

abbrev pub lies_at : Site → ℤ → ℤ → Bool
lies_at s X Y = is_in_area s.x s.y s.width s.height X Y

abbrev pub shown_at : Site → ℕ → ℤ → ℤ → Option ScreenPixel
shown_at s id X Y = if lies_at s X Y then Some (pixel_at s id X Y) else None

-- a screen that is meant shows what lies on it
same_pixel : (m : Bool) (s t : Site) (id : ℕ) (X Y : ℤ) → (if m then Some s else None) ≡ Some t
    → (if m && lies_at s X Y then Some (pixel_at s id X Y) else None) ≡ shown_at t id X Y
same_pixel true s t id X Y e = let same : s ≡ t = cc e in ap (λ u. shown_at u id X Y) same
same_pixel false s t id X Y e = cc e

covered_at : (d : Option ScreenDef) (screen id : ℕ) (s : Site) (X Y : ℤ) → site_of d screen id ≡ Some s
    → covered_on d id screen X Y ≡ shown_at s id X Y
covered_at None screen id s X Y e = cc e
covered_at (Some d) screen id s X Y e = same_pixel (is_meant screen id) (site_on screen d) s id X Y e

-- its sides are those of its definition
same_site : (m : Bool) (s t : Site) → (if m then Some s else None) ≡ Some t → s ≡ t
same_site true s t e = cc e
same_site false s t e = cc e

on_screen : (d : Option ScreenDef) (screen id : ℕ) (s : Site) (right row : ℕ) → site_of d screen id ≡ Some s
    → right ≤ s.width → row < s.height → IsSomeAnd d (λ d. (right ≤ d.width) × (row < d.height))
on_screen None screen id s right row e wide high = cc e
on_screen (Some d) screen id s right row e wide high =
    let same = same_site (is_meant screen id) (site_on screen d) s e in
    let width : d.width ≡ s.width = ap (λ u. u.width) same in
    let height : d.height ≡ s.height = ap (λ u. u.height) same in
    (omega (arith, width), omega (arith, height))

-- the screen with one id, which lies at a site
module _ (definitions : ℕ → Option ScreenDef) (b : Blit) (id : ℕ) (s : Site)
    (there : site_of (definitions id) b.screen id ≡ Some s) where
  -- where it doesn't lie it shows nothing, and it is the only one with its id
  bare_where : (Y from to : ℤ) → ((X : ℤ) → from ≤ℤ X → X <ℤ to → lies_at s X Y ≡ false)
      → IsBareOf definitions b id (id + 1) Y from to
  bare_where Y from to off other low high X start stop =
      let same : id ≡ other = omega arith in
      let nothing = ap (λ t. if t then Some (pixel_at s id X Y) else None) (off X start stop) in
      subst (λ n. covered_on (definitions n) n b.screen X Y ≡ None) same
      (covered_at (definitions id) b.screen id s X Y there ∙ nothing)

  pub bare_beside : (Y from to : ℤ) → HasNoColumn s from to → IsBareOf definitions b id (id + 1) Y from to
  bare_beside Y from to off = bare_where Y from to (λ X start stop.
      ap (λ t. t && int_le s.y Y && int_lt Y (s.y +ℤ pos s.height)) (off X start stop))

  pub bare_off : (Y from to : ℤ) → is_row s Y ≡ false → IsBareOf definitions b id (id + 1) Y from to
  bare_off Y from to off = bare_where Y from to (λ X start stop.
      and_assoc (is_column s X) (int_le s.y Y) (int_lt Y (s.y +ℤ pos s.height))
      ∙ and_right (is_column s X) (is_row s Y) off)

  -- its stretch is its next run
  module _ (short : IsShort s) (from to Y : ℤ) (r : Run) (stretch : IsStretch s id from to Y r) where
    pixel : (k : ℕ) → k < r.length
        → shown_at s id (r.from +ℤ pos k) Y ≡ Some (record { screen = id; x = r.x + k; y = r.y })
    pixel k l = (λ i. if inside i then Some (record { screen = id; x = column i; y = row i }) else None)
      where
        along : r.from +ℤ pos k ≡ s.x +ℤ pos (r.x + k)
        along = omega (arith, ints, stretch.column)

        column : unsigned_abs (r.from +ℤ pos k -ℤ s.x) ≡ r.x + k
        column = omega (arith, ints, along)

        row : unsigned_abs (Y -ℤ s.y) ≡ r.y
        row = omega (arith, ints, stretch.row)

        inside : lies_at s (r.from +ℤ pos k) Y ≡ true
        inside = all_sides s.x (s.x +ℤ pos s.width) s.y (s.y +ℤ pos s.height) (r.from +ℤ pos k) Y
            (omega (arith, ints, stretch.column)) (omega (arith, ints, stretch.column, stretch.wide))
            (omega (arith, ints, stretch.row)) (omega (arith, ints, stretch.row, stretch.high))

    covered : (k : ℕ) → k < r.length
        → covered_on (definitions r.screen) r.screen b.screen (r.from +ℤ pos k) Y ≡ Some (run_pixel r k)
    covered k l =
        subst (λ n. covered_on (definitions n) n b.screen (r.from +ℤ pos k) Y
        ≡ Some (record { screen = n; x = r.x + k; y = r.y })) (sym stretch.screen)
        (covered_at (definitions id) b.screen id s (r.from +ℤ pos k) Y there ∙ pixel k l)

    first : IsFirstOf definitions b id (id + 1) from to Y r
    first = record {
      some = stretch.some;
      short = omega (arith, stretch.wide, short.width);
      screen = (omega (arith, stretch.screen), omega (arith, stretch.screen));
      behind = stretch.behind;
      before = stretch.before;
      shown = subst (λ n. IsSomeAnd (definitions n) (λ d. (r.x + r.length ≤ d.width) × (r.y < d.height)))
          (sym stretch.screen)
          (on_screen (definitions id) b.screen id s (r.x + r.length) r.y there stretch.wide stretch.high);
      bare = bare_beside Y from r.from stretch.bare;
      pixels = covered;
      alone = λ n low high. absurd (omega (arith, stretch.screen));
    }

  pub next : (from to Y : ℤ) (found : Option Run) → IsShort s → IfSome found (IsStretch s id from to Y)
      → IfNone found (HasNoColumn s from to) → IsNextOf definitions b id (id + 1) from to Y found
  next from to Y None short some none = bare_beside Y from to none
  next from to Y (Some r) short some none = first short from to Y r some
