-- The area of a screen that a blit paints, and the areas of several.
use Rattle.std.proofs.Common.{◌≡◌, ℕ, ◌+◌, ◌<◌, ◌≤◌, refl, sym, ap, subst, ◌∙◌, List, [], ◌∷◌, ◌++◌, length, length-append, Option, Some, None, is_some, IsSomeAnd, Bool, true, false, ◌&&◌, cond, ℤ, pos, ◌+ℤ◌, nat_le, nat_lt, unsigned_abs, inl, inr, arith}
use Rattle.std.proofs.lemmas.Bool.{and_right, both_ways, cases_lt, cond-false}
use Rattle.std.proofs.lemmas.List.{get_or_append_left, get_or_push}
use Rattle.std.proofs.lemmas.Bool.Decides.{nat_tests}
use Rattle.svga_cmd.specs.declared.blit.Blit.{Blit}
use Rattle.svga_cmd.specs.declared.gmrfb.Gmrfb.{Gmrfb}
use Rattle.svga_cmd.specs.declared.screen.ScreenDef.{ScreenDef}
use Rattle.svga_model.specs.BlitEffects.{blit_colour, colour_at}
use Rattle.svga_model.specs.BlitPixels.{blit_offset, corner_x, corner_y, is_in_rect, is_meant}
use Rattle.svga_screen.specs.Clips.{IsClip, is_inside, no_area}
use Rattle.svga_screen.specs.declared.area.Area.{Area}
use Rattle.svga_transfer.specs.Areas.{HasAreaOf, IsPainted, area_at}

-- a colour under a test is there where the test holds
pub some_under : (t : Bool) (c : ℕ) → is_some (cond t (Some c) None) ≡ t
some_under true c = refl
some_under false c = refl

-- an area without a column or a row has no place
no_column : (left width u : ℕ) (rows : Bool) → width ≡ 0 → (nat_le left u && nat_lt u (left + width) && rows) ≡ false
no_column left width u rows e = grind (arith, nat_tests)

-- What a blit's rectangle shares with a screen.
module _ (b : Blit) (id : ℕ) (d : ScreenDef) (x y : ℤ) (area : Area) (is_x : x ≡ corner_x b.screen d)
    (is_y : y ≡ corner_y b.screen d) (clip : IsClip b.rect x y d.width d.height area) where
  abbrev in_rect : ℕ → ℕ → Bool
  in_rect u v = is_in_rect b.rect (corner_x b.screen d +ℤ pos u) (corner_y b.screen d +ℤ pos v)

  shared : (u v : ℕ) → u < d.width → v < d.height → is_inside area u v ≡ in_rect u v
  shared u v wide high =
      clip.same u v wide high ∙ (λ i. is_in_rect b.rect (is_x i +ℤ pos u) (is_y i +ℤ pos v))

  module _ (bytes : ℕ → ℕ) (g : Gmrfb) where
    abbrev source : ℕ → ℕ → ℕ
    source u v =
        colour_at bytes g.format
        (unsigned_abs (blit_offset g b (corner_x b.screen d +ℤ pos u) (corner_y b.screen d +ℤ pos v)))

    -- without a column no pixel gets a colour
    pub nothing_painted : area.width ≡ 0 → (u v : ℕ) → u < d.width → v < d.height
        → blit_colour bytes g b id d u v ≡ None
    nothing_painted none u v wide high =
        let outside = sym (shared u v wide high)
        ∙ no_column area.left area.width u (nat_le area.top v && nat_lt v (area.top + area.height)) none in
        cond-false (is_meant b.screen id && in_rect u v) (Some (source u v)) None
        (and_right (is_meant b.screen id) (in_rect u v) outside)

    -- and with one the area is painted, where the screen is meant
    pub area_painted : is_meant b.screen id ≡ true → (area.width ≡ 0 → ⊥)
        → IsPainted (blit_colour bytes g b id d) d
        (record { screen = id; left = area.left; top = area.top; width = area.width; height = area.height })
    area_painted meant some = record {
      columns = omega (arith, some);
      rows = omega (arith, some_rows);
      wide = clip.wide;
      high = clip.high;
      same = λ u v wide high.
          shared u v wide high ∙ (λ i. sym meant i && in_rect u v)
          ∙ sym (some_under (is_meant b.screen id && in_rect u v) (source u v));
    } where
      some_rows : area.height ≡ 0 → ⊥
      some_rows none = some (ap (λ a. a.width) (clip.no_rows none))

-- The areas of the screens with ids below n, of which each is painted where a pixel of the screen gets a
-- colour.
pub record AreAreas (colour : ℕ → ScreenDef → ℕ → ℕ → Option ℕ) (definitions : ℕ → Option ScreenDef) (n : ℕ)
    (areas : List Area) : Type 0 where
  pub count : length areas ≤ n
  pub below : (i : ℕ) → i < length areas → (area_at areas i).screen < n
  pub each : (i : ℕ) → i < length areas → IsSomeAnd (definitions (area_at areas i).screen)
      (λ d. IsPainted (colour (area_at areas i).screen d) d (area_at areas i))
  pub ascending : (i j : ℕ) → i < j → j < length areas → (area_at areas i).screen < (area_at areas j).screen
  pub all : (id : ℕ) (d : ScreenDef) (x y : ℕ) → id < n → definitions id ≡ Some d → x < d.width → y < d.height
      → is_some (colour id d x y) ≡ true → HasAreaOf areas id

module _ (colour : ℕ → ScreenDef → ℕ → ℕ → Option ℕ) (definitions : ℕ → Option ScreenDef) where
  -- a screen of which no pixel gets a colour has none
  pub same_areas : (n : ℕ) (areas : List Area) → AreAreas colour definitions n areas
      → ((d : ScreenDef) (x y : ℕ) → definitions n ≡ Some d → x < d.width → y < d.height → colour n d x y ≡ None)
      → AreAreas colour definitions (n + 1) areas
  same_areas n areas are none = record {
    count = omega (arith, are.count);
    below = λ i l. let low = are.below i l in omega arith;
    each = are.each;
    ascending = are.ascending;
    all = λ id d x y l is wide high some. elim (cases_lt id n) as (λ _. HasAreaOf areas id) [
      | inl low ↦ are.all id d x y low is wide high some
      | inr past ↦
          let last : id ≡ n = omega arith in
          let bare = subst (λ k. definitions k ≡ Some d → colour k d x y ≡ None) (sym last)
          (λ def. none d x y def wide high) is in
          absurd (both_ways (is_some (colour id d x y)) (ap is_some bare) some)
    ];
  }

  -- and one that has an area is the next
  module _ (n : ℕ) (areas : List Area) (are : AreAreas colour definitions n areas) (a : Area) (of_screen : a.screen ≡ n)
      (painted : IsSomeAnd (definitions n) (λ d. IsPainted (colour n d) d a)) where
    abbrev more : List Area
    more = areas ++ a ∷ []

    sized : length more ≡ length areas + 1
    sized = length-append areas (a ∷ [])

    earlier : (i : ℕ) → i < length areas → area_at more i ≡ area_at areas i
    earlier i l = get_or_append_left areas (a ∷ []) no_area i l

    last : (i : ℕ) → length areas ≡ i → area_at more i ≡ a
    last i e = get_or_push areas a no_area i e

    IsPaintedOf : Area → Type 0
    IsPaintedOf r = IsSomeAnd (definitions r.screen) (λ d. IsPainted (colour r.screen d) d r)

    last_painted : IsPaintedOf a
    unfolding IsPaintedOf
    last_painted = subst (λ k. IsSomeAnd (definitions k) (λ d. IsPainted (colour k d) d a)) (sym of_screen) painted

    -- what holds of each area that was there, and of the last one, holds of all
    each_of : (P : Area → Type 0) → ((i : ℕ) → i < length areas → P (area_at areas i)) → P a
        → (i : ℕ) → i < length more → P (area_at more i)
    each_of P old new i l = elim (cases_lt i (length areas)) as (λ _. P (area_at more i)) [
      | inl low ↦ subst P (sym (earlier i low)) (old i low)
      | inr high ↦ subst P (sym (last i (omega (arith, sized)))) new
    ]

    rises : (i j : ℕ) → i < j → j < length more → (area_at more i).screen < (area_at more j).screen
    rises i j l k = elim (cases_lt j (length areas)) as (λ _. (area_at more i).screen < (area_at more j).screen) [
      | inl low ↦ subst (λ r. r.screen < (area_at more j).screen) (sym (earlier i (omega arith)))
          (subst (λ r. (area_at areas i).screen < r.screen) (sym (earlier j low)) (are.ascending i j l low))
      | inr high ↦ subst (λ r. r.screen < (area_at more j).screen) (sym (earlier i (omega (arith, sized))))
          (subst (λ r. (area_at areas i).screen < r.screen) (sym (last j (omega (arith, sized))))
          (let low = are.below i (omega (arith, sized)) in omega (arith, of_screen, low)))
    ]

    has_earlier : (id : ℕ) → HasAreaOf areas id → HasAreaOf more id
    has_earlier id has = (has.0, omega (arith, sized, has.1), ap (λ r. r.screen) (earlier has.0 has.1) ∙ has.2)

    has_last : HasAreaOf more n
    has_last = (length areas, omega (arith, sized), ap (λ r. r.screen) (last (length areas) refl) ∙ of_screen)

    pub more_areas : AreAreas colour definitions (n + 1) more
    unfolding IsPaintedOf
    more_areas = record {
      count = omega (arith, are.count, sized);
      below = each_of (λ r. r.screen < n + 1) (λ i l. let low = are.below i l in omega arith)
          (omega (arith, of_screen));
      each = each_of IsPaintedOf are.each last_painted;
      ascending = rises;
      all = λ id d x y l is wide high some. elim (cases_lt id n) as (λ _. HasAreaOf more id) [
        | inl low ↦ has_earlier id (are.all id d x y low is wide high some)
        | inr past ↦ subst (HasAreaOf more) (let last : n ≡ id = omega arith in last) has_last
      ];
    }
