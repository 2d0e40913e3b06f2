-- Blits that have no pixels.
use Rattle.std.proofs.Common.{◌≡◌, ◌≢◌, ℕ, zero, suc, ◌+◌, ◌<◌, ℤ, pos, List, [], ◌∷◌, ◌++◌, Bool, true, false, cond, refl, sym, ap, ◌∙◌, Option, Some, None, arith, ◌||◌, ◌&&◌, ◌⊎◌, inl, inr}
use Rattle.std.proofs.lemmas.Bool.{cases_eq}
use Rattle.std.proofs.lemmas.Bool.Decides.{nat_tests}
use Rattle.std.specs.Int.{int_gap}
use Rattle.std.specs.List.{cons_option, filter_map, flat_map, range_with_len}
use Rattle.std.specs.Prelude.{int_lt, negsuc, map, ◌+ℤ◌, ◌-ℤ◌, unsigned_abs}
use Rattle.svga_cmd.specs.declared.blit.Blit.{Blit}
use Rattle.svga_cmd.specs.declared.constants.TheConstants.{SVGA_ID_INVALID}
use Rattle.svga_cmd.specs.declared.gmrfb.Gmrfb.{Gmrfb}
use Rattle.svga_cmd.specs.declared.screen.ScreenDef.{ScreenDef}
use Rattle.svga_model.specs.BlitPixels.{blit_offset, blit_pixel, blit_pixels, corner_x, corner_y, covered_on, covers, int_range, is_in_area, is_meant, pixel_there}

-- a filter that lets no number of a range through
pub filter_map-none_below : {Y : Type 0} (f : ℕ → Option Y) (from n : ℕ) → ((x : ℕ) → x < from + n → f x ≡ None) → filter_map f (range_with_len from n) ≡ []
filter_map-none_below f from zero none = refl
filter_map-none_below f from (suc n) none = ap (λ o. cons_option o (filter_map f (range_with_len (from + 1) n))) (none from (omega arith)) ∙ filter_map-none_below f (from + 1) n (λ x l. none x (omega arith))

-- a filter that lets nothing through
pub filter_map-none : {X Y : Type 0} (f : X → Option Y) (xs : List X) → ((x : X) → f x ≡ None) → filter_map f xs ≡ []
filter_map-none f [] none = refl
filter_map-none f (x ∷ xs) none = ap (λ o. cons_option o (filter_map f xs)) (none x) ∙ filter_map-none f xs none

-- rows that are empty
pub flat_map-none : {X Y : Type 0} (f : X → List Y) (xs : List X) → ((x : X) → f x ≡ []) → flat_map f xs ≡ []
flat_map-none f [] none = refl
flat_map-none f (x ∷ xs) none = (λ i. none x i ++ flat_map f xs) ∙ flat_map-none f xs none

-- there is nothing from a number up to below a lesser one
pub gap_none : (from to : ℤ) → int_lt to from ≡ true → int_gap from to ≡ 0
gap_none (pos a) (pos b) e = grind (arith, nat_tests)
gap_none (pos a) (negsuc b) e = refl
gap_none (negsuc a) (pos b) e = cc
gap_none (negsuc a) (negsuc b) e = grind (arith, nat_tests)

pub range_none : (from to : ℤ) → int_lt to from ≡ true → int_range from to ≡ []
range_none from to e = ap (λ n. map (λ k. from +ℤ pos k) (range_with_len 0 n)) (gap_none from to e)

-- a rectangle with a negative side
pub pixels-negative : (definitions : ℕ → Option ScreenDef) (g : Gmrfb) (b : Blit) (right bottom : Bool) → int_lt b.rect.right b.rect.left ≡ right → int_lt b.rect.bottom b.rect.top ≡ bottom → (right || bottom) ≡ true → blit_pixels definitions g b ≡ []
pixels-negative definitions g b true bottom r d e = flat_map-none _ (int_range b.rect.top b.rect.bottom) (λ Y. ap (filter_map (λ X. blit_pixel definitions g b X Y)) (range_none b.rect.left b.rect.right r))
pixels-negative definitions g b false true r d e = ap (flat_map (λ Y. filter_map (λ X. blit_pixel definitions g b X Y) (int_range b.rect.left b.rect.right))) (range_none b.rect.top b.rect.bottom d)
pixels-negative definitions g b false false r d e = cc

-- a blit that covers nothing
pub pixels-uncovered : (definitions : ℕ → Option ScreenDef) (g : Gmrfb) (b : Blit) → ((X Y : ℤ) → covers definitions b.screen X Y ≡ []) → blit_pixels definitions g b ≡ []
pixels-uncovered definitions g b none = flat_map-none _ (int_range b.rect.top b.rect.bottom) (λ Y. filter_map-none _ (int_range b.rect.left b.rect.right) (λ X. ap (λ ps. pixel_there ps (record { x = X; y = Y; offset = blit_offset g b X Y })) (none X Y)))

-- a screen that isn't meant is not covered
covered-other : (o : Option ScreenDef) (id screen : ℕ) (X Y : ℤ) → is_meant screen id ≡ false → covered_on o id screen X Y ≡ None
covered-other None id screen X Y e = refl
covered-other (Some d) id screen X Y e =
    let x = corner_x screen d in
    let y = corner_y screen d in
    ap (λ t. cond (t && is_in_area x y d.width d.height X Y) (Some (record { screen = id; x = unsigned_abs (X -ℤ x); y = unsigned_abs (Y -ℤ y) })) None) e

-- what is meant by an id that isn't that of all screens
meant-one : (screen id : ℕ) → screen ≢ SVGA_ID_INVALID → (screen ≡ id) ⊎ (is_meant screen id ≡ false)
meant-one screen id one = elim (cases_eq screen id) as (λ _. (screen ≡ id) ⊎ (is_meant screen id ≡ false)) [
  | inl same ↦ inl same
  | inr other ↦ inr (grind (arith, nat_tests))
]

-- no screen of these ids is covered where none is both meant and defined
uncovered : (definitions : ℕ → Option ScreenDef) (screen : ℕ) (X Y : ℤ) → screen ≢ SVGA_ID_INVALID → definitions screen ≡ None → covers definitions screen X Y ≡ []
uncovered definitions screen X Y one none = filter_map-none (λ id. covered_on (definitions id) id screen X Y) (range_with_len 0 16) (λ id. at id (meant-one screen id one)) where
  at : (id : ℕ) → (screen ≡ id) ⊎ (is_meant screen id ≡ false) → covered_on (definitions id) id screen X Y ≡ None
  at id (inl same) = ap (λ o. covered_on o id screen X Y) (ap definitions (sym same) ∙ none)
  at id (inr other) = covered-other (definitions id) id screen X Y other

-- a blit to a screen that isn't defined
pub pixels-no_screen : (definitions : ℕ → Option ScreenDef) (g : Gmrfb) (b : Blit) → b.screen ≢ SVGA_ID_INVALID → definitions b.screen ≡ None → blit_pixels definitions g b ≡ []
pixels-no_screen definitions g b one none = pixels-uncovered definitions g b (λ X Y. uncovered definitions b.screen X Y one none)

-- a blit to an id that no screen can have
pub pixels-screen_id : (definitions : ℕ → Option ScreenDef) (g : Gmrfb) (b : Blit) → 15 < b.screen → b.screen ≢ SVGA_ID_INVALID → blit_pixels definitions g b ≡ []
pixels-screen_id definitions g b large one = pixels-uncovered definitions g b (λ X Y. filter_map-none_below (λ id. covered_on (definitions id) id b.screen X Y) 0 16 (at X Y)) where
  at : (X Y : ℤ) (id : ℕ) → id < 16 → covered_on (definitions id) id b.screen X Y ≡ None
  at X Y id small = covered-other (definitions id) id b.screen X Y (grind (arith, nat_tests))
