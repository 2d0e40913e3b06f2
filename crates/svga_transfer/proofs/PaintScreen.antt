-- One screen among others gets its new colours row by row.
use Rattle.std.proofs.Common.{false, ◌≡◌, ℕ, ◌+◌, ◌*◌, ◌<◌, ◌≤◌, inl, inr, refl, sym, ap, subst, ◌∙◌, List, Option, Some, None, IfSome, ℤ, pos, ◌+ℤ◌, arith}
use Rattle.std.specs.Prelude.{option_map}
use Rattle.std.proofs.lemmas.Bool.{cases_lt}
use Rattle.std.proofs.lemmas.Option.{none-some}
use Rattle.std.specs.Cmp.{nat_cmp_total}
use Rattle.std.specs.FinMap as map
use Rattle.std.specs.FinMap.{nat_cmp-IsAntisymmetric}
use Rattle.svga_cmd.proofs.Maps.{by_key, get_other, get_same}
use Rattle.svga_cmd.specs.Pages.{Memory}
use Rattle.svga_cmd.specs.declared.blit.Blit.{Blit}
use Rattle.svga_cmd.specs.declared.gmrfb.Gmrfb.{Gmrfb}
use Rattle.svga_cmd.specs.declared.screen.ScreenDef.{ScreenDef}
use Rattle.svga_model.specs.BlitEffects.{blit_colour, repainted}
use Rattle.svga_model.specs.BlitFaults.{is_outside}
use Rattle.svga_model.specs.BlitPixels.{blit_offset, corner_x, corner_y}
use Rattle.svga_model.specs.Colours.{pixel_length}
use Rattle.svga_model.specs.Regions.{Places}
use Rattle.svga_model.specs.Screens.{AreScreens, IsOnScreen, IsScreen, Screen, definitions_of, painted, painted_over, painted_screen}
use Rattle.svga_screen.specs.ScreenSet.{ScreenSet}
use Rattle.svga_screen.specs.declared.area.Area.{Area}
use Rattle.svga_transfer.proofs.PaintArea.{bytes_there, done_end, done_more, done_top, first_within}
use Rattle.svga_transfer.proofs.PaintRows.{repainted_none}
use Rattle.svga_transfer.specs.Areas.{IsPainted}
use Rattle.svga_transfer.specs.Painting.{IsRepainted, above, colours_from}
use Rattle.svga_transfer.specs.Reach.{AreMapped, HasBytes, HasPages}

-- a screen that is defined is there
the_screen : (o : Option Screen) (d : ScreenDef) → option_map (λ s. s.def) o ≡ Some d
    → (s : Screen) × (o ≡ Some s) × (s.def ≡ d)
the_screen None d e = absurd (cc)
the_screen (Some s) d e = (s, refl, cc)

-- and it is a screen of its id
its_screen : (id : ℕ) (o : Option Screen) (s : Screen) → o ≡ Some s → IfSome o (IsScreen id) → IsScreen id s
its_screen id None s e is = absurd (cc)
its_screen id (Some t) s e is = let same : t ≡ s = cc in subst (IsScreen id) same is

-- new colours leave the definition
pub kept_def : (colour : ScreenDef → ℕ → ℕ → Option ℕ) (o : Option Screen)
    → option_map (λ s. s.def) (option_map (λ s. repainted (colour s.def) s) o) ≡ option_map (λ s. s.def) o
kept_def colour None = refl
kept_def colour (Some s) = refl

-- The definitions are the same where one screen has new colours.
same_definition : (colour : ScreenDef → ℕ → ℕ → Option ℕ) (id : ℕ) (old new : ScreenSet)
    → IsRepainted colour id old new
    → (q : ℕ) → definitions_of new.screens q ≡ definitions_of old.screens q
same_definition colour id old new is q = by_key nat_cmp_total nat_cmp-IsAntisymmetric q id
    (definitions_of new.screens q ≡ definitions_of old.screens q)
    (λ same. subst (λ k. definitions_of new.screens k ≡ definitions_of old.screens k) (sym same)
    (ap (option_map (λ s. s.def)) is.here ∙ kept_def colour (map.get old.screens id)))
    (λ ne. ap (option_map (λ s. s.def)) (is.others q ne))

-- Where no pixel of the screen has a new colour the screens stay.
pub nothing_new : (colour : ScreenDef → ℕ → ℕ → Option ℕ) (id : ℕ) (d : ScreenDef) (old : ScreenSet)
    → AreScreens old.budget old.screens → definitions_of old.screens id ≡ Some d
    → ((x y : ℕ) → x < d.width → y < d.height → colour d x y ≡ None) → IsRepainted colour id old old
nothing_new colour id d old valid defined none = record {
  budget = refl;
  here = found.1 ∙ ap Some (sym (repainted_none found.0 id is (colour found.0.def) bare))
      ∙ sym (ap (option_map (λ s. repainted (colour s.def) s)) found.1);
  others = λ q ne. refl;
} where
  found : (s : Screen) × (map.get old.screens id ≡ Some s) × (s.def ≡ d)
  found = the_screen (map.get old.screens id) d defined

  is : IsScreen id found.0
  is = its_screen id (map.get old.screens id) found.0 found.1 (valid.each id)

  bare : (x y : ℕ) → x < found.0.def.width → y < found.0.def.height → colour found.0.def x y ≡ None
  bare = subst (λ e. (x y : ℕ) → x < e.width → y < e.height → colour e x y ≡ None) (sym found.2) none

-- The area of a blit's pixels on the screen of this id.
module _ (bytes : ℕ → ℕ) (g : Gmrfb) (b : Blit) (id : ℕ) (d : ScreenDef) (a : Area) (old : ScreenSet)
    (valid : AreScreens old.budget old.screens) (defined : definitions_of old.screens id ≡ Some d)
    (area : IsPainted (blit_colour bytes g b id d) d a) where
  abbrev colour : ScreenDef → ℕ → ℕ → Option ℕ
  colour = blit_colour bytes g b id

  found : (s : Screen) × (map.get old.screens id ≡ Some s) × (s.def ≡ d)
  found = the_screen (map.get old.screens id) d defined

  abbrev s : Screen
  s = found.0

  is : IsScreen id s
  is = its_screen id (map.get old.screens id) s found.1 (valid.each id)

  its_area : IsPainted (colour s.def) s.def a
  its_area = subst (λ e. IsPainted (colour e) e a) (sym found.2) area

  abbrev with_colours : (ScreenDef → ℕ → ℕ → Option ℕ) → Option Screen → Option Screen
  with_colours new = option_map (λ s. repainted (new s.def) s)

  -- what a screen with new colours is
  here : (new : ScreenDef → ℕ → ℕ → Option ℕ) (now : ScreenSet) → IsRepainted new id old now
      → map.get now.screens id ≡ Some (repainted (new s.def) s)
  here new now done = done.here ∙ ap (with_colours new) found.1

  -- and a screen that is so has the new colours
  from_here : (new : ScreenDef → ℕ → ℕ → Option ℕ) (now : ScreenSet)
      → map.get now.screens id ≡ Some (repainted (new s.def) s)
      → map.get now.screens id ≡ with_colours new (map.get old.screens id)
  from_here new now at = at ∙ sym (ap (with_colours new) found.1)

  -- at the top of the area nothing is done
  pub rows_top : IsRepainted (above a.top colour) id old old
  rows_top = record {
    budget = refl;
    here = from_here (above a.top colour) old (found.1 ∙ ap Some (sym (done_top bytes g b id s a is its_area)));
    others = λ q ne. refl;
  }

  -- and at its end all is
  pub rows_end : (now : ScreenSet) → IsRepainted (above (a.top + a.height) colour) id old now
      → IsRepainted colour id old now
  rows_end now done = record {
    budget = done.budget;
    here = from_here colour now
        (here (above (a.top + a.height) colour) now done ∙ ap Some (done_end bytes g b id s a is its_area));
    others = done.others;
  }

  -- the area is on the screen
  pub on_screen : (new : ScreenDef → ℕ → ℕ → Option ℕ) (now : ScreenSet) (y : ℕ) → IsRepainted new id old now
      → y < a.top + a.height → IsOnScreen (definitions_of now.screens id) a.left y a.width
  on_screen new now y done high =
      subst (λ o. IsOnScreen o a.left y a.width) (sym (same_definition new id old now done id ∙ defined))
      (record { high = omega (arith, area.high); wide = area.wide })

  small : id < 16
  small = elim (cases_lt id 16) [
    | inl less ↦ less
    | inr past ↦ absurd (none-some s (sym (valid.ids id past) ∙ found.1))
  ]

  -- A row of the area that begins at place (X, Y).
  module _ (y : ℕ) (low : a.top ≤ y) (high : y < a.top + a.height) (X Y : ℤ)
      (at_x : X ≡ corner_x b.screen d +ℤ pos a.left) (at_y : Y ≡ corner_y b.screen d +ℤ pos y)
      (places : Places) (mapped : AreMapped (definitions_of old.screens) g b places) where
    definition : definitions_of old.screens id ≡ Some s.def
    definition = defined ∙ ap Some (sym found.2)

    begins : blit_offset g b (corner_x b.screen s.def +ℤ pos a.left) (corner_y b.screen s.def +ℤ pos y)
        ≡ blit_offset g b X Y
    begins =
        (λ i. blit_offset g b (corner_x b.screen (found.2 i) +ℤ pos a.left) (corner_y b.screen (found.2 i) +ℤ pos y))
        ∙ (λ i. blit_offset g b (sym at_x i) (sym at_y i))

    -- its first byte is one of the region's
    pub row_within : is_outside places (blit_offset g b X Y) ≡ false
    row_within =
        subst (λ z. is_outside places z ≡ false) begins
        (first_within bytes g b id s a is its_area y low high (definitions_of old.screens) definition small places
        mapped)

    -- and the memory has all
    pub row_bytes : (m : Memory) (from : ℕ) → HasPages m places → pos from ≡ blit_offset g b X Y
        → HasBytes m places from (a.width * pixel_length g.format)
    row_bytes m from has first =
        bytes_there bytes g b id s a is its_area y low high (definitions_of old.screens) definition small places mapped
        m from has (first ∙ sym begins)

    -- one row more
    pub rows_more : (now new : ScreenSet) (from : ℕ) → IsRepainted (above y colour) id old now
        → pos from ≡ blit_offset g b X Y
        → new ≡ record now { screens = painted now.screens id a.left y (colours_from bytes g.format from a.width) }
        → IsRepainted (above (y + 1) colour) id old new
    rows_more now new from done first is_new = record {
      budget = ap (λ r. r.budget) is_new ∙ done.budget;
      here = from_here (above (y + 1) colour) new
          (ap (λ r. map.get r.screens id) is_new
          ∙ ap (λ o. map.get (painted_over now.screens id o a.left y colours) id) was
          ∙ get_same nat_cmp_total nat_cmp-IsAntisymmetric now.screens id (painted_screen before a.left y colours)
          ∙ ap Some (done_more bytes g b id s a is its_area y low high from (first ∙ sym begins)));
      others = λ q ne. ap (λ r. map.get r.screens q) is_new
          ∙ ap (λ o. map.get (painted_over now.screens id o a.left y colours) q) was
          ∙ get_other nat_cmp_total nat_cmp-IsAntisymmetric now.screens id q (painted_screen before a.left y colours) ne
          ∙ done.others q ne;
    } where
      colours : List ℕ
      colours = colours_from bytes g.format from a.width

      before : Screen
      before = repainted (above y colour s.def) s

      was : map.get now.screens id ≡ Some before
      was = here (above y colour) now done
