-- The screens stay as they should be where one of them is defined or goes, and where their pictures change.
use Rattle.std.proofs.Common.{◌≡◌, ◌≢◌, ℕ, ◌+◌, ◌<◌, ◌≤◌, refl, sym, ap, subst, ◌∙◌, List, [], ◌∷◌, map as map_list, All, Bool, true, false, ◌&&◌, nat_lt, nat_le, Option, Some, None, unwrap_or, IfSome, length, replicate, slice_index, arith, inl, inr}
use Rattle.std.specs.Prelude.{option_map}
use Rattle.std.proofs.lemmas.Bool.Decides.{nat_tests}
use Rattle.std.proofs.lemmas.Bool.{cases_lt}
use Rattle.std.proofs.lemmas.List.{get_or_past, length-replicate}
use Rattle.std.proofs.lemmas.List.Elements.{All-replicate}
use Rattle.std.proofs.lemmas.List.FromFn.{length-map-range_with_len}
use Rattle.std.specs.Cmp.{nat_cmp_total}
use Rattle.std.specs.FinMap as map
use Rattle.std.specs.FinMap.{nat_cmp-IsAntisymmetric, get-empty}
use Rattle.std.specs.List.{range_with_len}
use Rattle.std.specs.Ordering.{nat_cmp}
use Rattle.svga_cmd.proofs.Maps.{by_key, get_kept, get_other, get_removed, get_same}
use Rattle.svga_cmd.specs.declared.constants.TheConstants.{COLOURS, MAX_SCREEN_SIDE}
use Rattle.svga_cmd.specs.declared.screen.ScreenDef.{ScreenDef}
use Rattle.svga_model.proofs.TabulatedLaws.{get-tabulated, get-tabulated_past}
use Rattle.svga_model.proofs.ValidColours.{IsColour}
use Rattle.svga_model.proofs.ValidRules.{all_false, all_made, at_most, both_true, index_under, is_at_most, not_false, sum_changed, sum_nothing}
use Rattle.svga_model.specs.BlitEffects.{colour_on, first_colour, repainted, repainted_screens}
use Rattle.svga_model.specs.BlitPixels.{ScreenPixel}
use Rattle.svga_model.specs.Screens.{AreScreens, IsScreen, Screen, Screens, black_screen, pixels_with, define_screen_tests, definitions_of, destroy_screen_tests, has_sides, is_side, pixel_count, pixels_of, row_at, with_screen, without_screen}
use Rattle.svga_model.specs.Standing.{least_standing}

-- what definitions there are at an id
defined : (screens : Screens) (id : ℕ) (o : Option Screen) → map.get screens id ≡ o
    → definitions_of screens id ≡ option_map (λ s. s.def) o
defined screens id o is = ap (option_map (λ s. s.def)) is

-- how many pixels there are after a change of one screen
pixel_count-changed : (screens news : Screens) (id : ℕ) → id ≤ 15
    → ((q : ℕ) → q ≢ id → map.get news q ≡ map.get screens q)
    → pixel_count (definitions_of news) + pixels_of (definitions_of screens id)
    ≡ pixel_count (definitions_of screens) + pixels_of (definitions_of news id)
unfolding pixel_count
pixel_count-changed screens news id small same =
    sum_changed (λ id. pixels_of (definitions_of screens id)) (λ id. pixels_of (definitions_of news id)) id 0 16
    (λ q ne. ap pixels_of (defined news q (map.get screens q) (same q ne))) (omega arith) (omega arith)

-- no screen has no pixels
pixel_count-empty : pixel_count (definitions_of map.empty) ≡ 0
unfolding pixel_count
pixel_count-empty = sum_nothing (λ id. pixels_of (definitions_of map.empty id)) 0 16
    (λ q. ap pixels_of (defined map.empty q None (get-empty nat_cmp q)))

-- no screen
pub no_screens : (budget : ℕ) → AreScreens budget map.empty
no_screens budget = record {
  ids = λ id above. get-empty nat_cmp id;
  each = λ id. subst (λ o. IfSome o (IsScreen id)) (sym (get-empty nat_cmp id)) tt;
  within_budget = omega (arith, pixel_count-empty);
}

-- a side in its range
side : (n : ℕ) → is_side n ≡ true → (0 < n) × (n ≤ MAX_SCREEN_SIDE)
side n e = (grind (arith, nat_tests), grind (arith, nat_tests))

-- a black screen is one
black_good : (d : ScreenDef) → has_sides d ≡ true → IsScreen d.id (black_screen d)
black_good d sides =
    let both = both_true (is_side d.width) (is_side d.height) sides in
    record {
      def = record { name = refl; width = side d.width both.0; height = side d.height both.1 };
      rows = length-replicate d.height (replicate d.width 0);
      columns = All-replicate (λ row. length row ≡ d.width) d.height (replicate d.width 0) (length-replicate d.width 0);
      colours = All-replicate (All IsColour) d.height (replicate d.width 0)
          (All-replicate IsColour d.width 0 (omega arith));
    }

-- the third of three tests that aren't all true
third_false : (a b c : Bool) → (a && b && c) ≡ false → a ≡ true → b ≡ true → c ≡ false
third_false true true c e p q = e
third_false true false c e p q = absurd cc
third_false false b c e p q = absurd cc

module _ (budget : ℕ) (screens : Screens) (are : AreScreens budget screens) where
  -- screens of which one changes, with no more pixels than there is room for
  screens_changed : (id : ℕ) → id ≤ 15 → (news : Screens) (o : Option Screen) → map.get news id ≡ o
      → ((q : ℕ) → q ≢ id → map.get news q ≡ map.get screens q) → IfSome o (IsScreen id)
      → pixel_count (definitions_of screens) + pixels_of (option_map (λ s. s.def) o)
      ≤ budget + pixels_of (definitions_of screens id)
      → AreScreens budget news
  screens_changed id small news o here others good room = record {
    ids = λ q above. others q (λ e. absurd (omega (arith, small))) ∙ are.ids q above;
    each = λ q. by_key nat_cmp_total nat_cmp-IsAntisymmetric q id (IfSome (map.get news q) (IsScreen q))
        (λ is. subst (λ k. IfSome (map.get news k) (IsScreen k)) (sym is)
        (subst (λ p. IfSome p (IsScreen id)) (sym here) good))
        (λ ne. subst (λ p. IfSome p (IsScreen q)) (sym (others q ne)) (are.each q));
    within_budget = let changed = pixel_count-changed screens news id small others in
        omega (arith, changed, ap pixels_of (defined news id o here), room);
  }

  -- DEFINE_SCREEN
  pub screen_defined : (d : ScreenDef) → least_standing (define_screen_tests budget (definitions_of screens) d) ≡ None
      → AreScreens budget (with_screen screens d)
  screen_defined d none =
      let tests = all_false (define_screen_tests budget (definitions_of screens) d) none in
      let small = at_most d.id 15 tests.0 in
      let sides = not_false (has_sides d) tests.1.0 in
      let pixels = pixels_with (definitions_of screens) d in
      let over = nat_lt budget pixels in
      let few : pixels_with (definitions_of screens) d ≤ budget = at_most pixels budget
      (third_false (nat_le d.id 15) (has_sides d) over tests.1.1.0 (is_at_most d.id 15 small) sides) in
      screens_changed d.id small (with_screen screens d) (Some (black_screen d))
      (get_same nat_cmp_total nat_cmp-IsAntisymmetric screens d.id (black_screen d))
      (λ q. get_other nat_cmp_total nat_cmp-IsAntisymmetric screens d.id q (black_screen d)) (black_good d sides)
      (omega (arith, few))

  -- DESTROY_SCREEN
  pub screen_destroyed : (id : ℕ) → least_standing (destroy_screen_tests (definitions_of screens) id) ≡ None
      → AreScreens budget (without_screen screens id)
  screen_destroyed id none =
      let tests = all_false (destroy_screen_tests (definitions_of screens) id) none in
      screens_changed id (at_most id 15 tests.1.0) (without_screen screens id) None
      (get_removed nat_cmp_total nat_cmp-IsAntisymmetric screens id)
      (get_kept nat_cmp_total nat_cmp-IsAntisymmetric screens id) tt (omega (arith, are.within_budget))

-- a pixel of a screen has a colour
pixel_good : (id : ℕ) (s : Screen) (x y : ℕ) → IsScreen id s → x < s.def.width → y < s.def.height
    → IsColour (slice_index (row_at s y) x)
pixel_good id s x y is wide high =
    let low : y < length s.rows = omega (arith, is.rows) in
    let short : x < length (row_at s y) = omega (arith, is.columns y [] low) in
    is.colours y [] low x 0 short

-- a new colour or the older one
either_good : (o : Option ℕ) (c : ℕ) → IfSome o IsColour → IsColour c → IsColour (unwrap_or o c)
either_good None c new old = old
either_good (Some n) c new old = new

-- other colours keep a screen a screen
repainted_good : (id : ℕ) (colour : ℕ → ℕ → Option ℕ) (s : Screen) → ((x y : ℕ) → IfSome (colour x y) IsColour)
    → IsScreen id s → IsScreen id (repainted colour s)
repainted_good id colour s good is = record {
  def = is.def;
  rows = length-map-range_with_len row 0 s.def.height;
  columns = all_made (λ row. length row ≡ s.def.width) row s.def.height
      (λ y high. length-map-range_with_len (cell y) 0 s.def.width);
  colours = all_made (All IsColour) row s.def.height
      (λ y high. all_made IsColour (cell y) s.def.width
      (λ x wide. either_good (colour x y) (slice_index (row_at s y) x) (good x y) (pixel_good id s x y is wide high)));
} where
  cell : ℕ → ℕ → ℕ
  cell y x = unwrap_or (colour x y) (slice_index (row_at s y) x)

  row : ℕ → List ℕ
  row y = map_list (cell y) (range_with_len 0 s.def.width)

module _ (colour : ℕ → ScreenDef → ℕ → ℕ → Option ℕ) (budget : ℕ) (screens : Screens)
    (are : AreScreens budget screens) where
  -- what is shown at an id
  slot : ℕ → Option Screen
  slot id = option_map (λ s. repainted (colour id s.def) s) (map.get screens id)

  -- with the definition of the screen there
  slot_def : (id : ℕ) (o : Option Screen)
      → option_map (λ s. s.def) (option_map (λ s. repainted (colour id s.def) s) o) ≡ option_map (λ s. s.def) o
  slot_def id None = refl
  slot_def id (Some s) = refl

  -- the screens have that below 16, and nothing from there on
  shown_there : (id : ℕ) → id < 16 → map.get (repainted_screens colour screens) id ≡ slot id
  unfolding repainted_screens slot
  shown_there id low = get-tabulated 16 slot id low

  shown_past : (id : ℕ) → 16 ≤ id → map.get (repainted_screens colour screens) id ≡ None
  unfolding repainted_screens slot
  shown_past id high = get-tabulated_past 16 slot id high

  -- the definitions stay
  same_definitions : (id : ℕ) → definitions_of (repainted_screens colour screens) id ≡ definitions_of screens id
  unfolding slot
  same_definitions id = elim (cases_lt id 16)
      as (λ _. definitions_of (repainted_screens colour screens) id ≡ definitions_of screens id) [
        | inl low ↦ defined (repainted_screens colour screens) id (slot id) (shown_there id low)
            ∙ slot_def id (map.get screens id)
        | inr high ↦ defined (repainted_screens colour screens) id None (shown_past id high)
            ∙ sym (defined screens id None (are.ids id high))
      ]

  -- new pictures
  pub screens_repainted : ((id : ℕ) (d : ScreenDef) (x y : ℕ) → IfSome (colour id d x y) IsColour)
      → AreScreens budget (repainted_screens colour screens)
  unfolding slot
  screens_repainted good = record {
    ids = shown_past;
    each = λ id. elim (cases_lt id 16) as (λ _. IfSome (map.get (repainted_screens colour screens) id) (IsScreen id)) [
      | inl low ↦ subst (λ o. IfSome o (IsScreen id)) (sym (shown_there id low))
          (at id (map.get screens id) (are.each id))
      | inr high ↦ subst (λ o. IfSome o (IsScreen id)) (sym (shown_past id high)) tt
    ];
    within_budget = subst (λ definitions. pixel_count definitions ≤ budget)
        (sym (λ i id. same_definitions id i)) are.within_budget;
  } where
    at : (id : ℕ) (o : Option Screen) → IfSome o (IsScreen id)
        → IfSome (option_map (λ s. repainted (colour id s.def) s) o) (IsScreen id)
    at id None h = tt
    at id (Some s) h = repainted_good id (colour id s.def) s (good id s.def) h

-- the colour of a pixel, 0 where there is none
colour_on-good : (id : ℕ) (o : Option Screen) (x y : ℕ) → IfSome o (IsScreen id) → IsColour (colour_on o x y)
colour_on-good id None x y h = omega arith
colour_on-good id (Some s) x y h = elim (cases_lt y (length s.rows)) as (λ _. IsColour (slice_index (row_at s y) x)) [
  | inl within ↦ index_under COLOURS (row_at s y) x (omega arith) (h.colours y [] within)
  | inr past ↦ subst (λ row. IsColour (slice_index row x)) (sym (get_or_past s.rows y [] past)) (omega arith)
]

-- the colour that a blit back writes
pub first_colour-good : (budget : ℕ) (screens : Screens) (pixels : List ScreenPixel) → AreScreens budget screens
    → IsColour (first_colour screens pixels)
first_colour-good budget screens [] are = omega arith
first_colour-good budget screens (p ∷ pixels) are =
    colour_on-good p.screen (map.get screens p.screen) p.x p.y (are.each p.screen)
