-- Which fault stands when a screen is defined or destroyed.
use Rattle.std.proofs.Common.{◌≡◌, ℕ, ◌<◌, ◌≤◌, Bool, true, false, not, ◌&&◌, [], ◌∷◌, Option, Some, None, ap, refl, ◌∙◌, arith, nat_lt, nat_le}
use Rattle.std.proofs.lemmas.Bool.Decides.{nat_tests}
use Rattle.std.specs.Prelude.{is_none}
use Rattle.svga_cmd.specs.declared.fault.Fault.TheVariants as fault
use Rattle.svga_cmd.specs.declared.screen.ScreenDef.{ScreenDef}
use Rattle.svga_model.specs.Screens.{IsDefinition, pixels_with, define_screen_tests, destroy_screen_tests, has_sides, is_side}
use Rattle.svga_model.specs.Standing.{first_standing}

both : (a b : Bool) → (a && b) ≡ true → (a ≡ true) × (b ≡ true)
both true b e = (refl, e)
both false b e = cc

side : (n : ℕ) → is_side n ≡ true → (0 < n) × (n ≤ 8192)
side n e = (grind (arith, nat_tests), grind (arith, nat_tests))

module _ (budget : ℕ) (definitions : ℕ → Option ScreenDef) (d : ScreenDef) (small : d.id ≤ 15) (sides : has_sides d ≡ true) where
  budget_alone : first_standing (define_screen_tests budget definitions d) ≡ first_standing ((nat_lt budget (pixels_with definitions d), fault.PixelBudget) ∷ [])
  budget_alone =
      let low : nat_lt 15 d.id ≡ false = grind (arith, nat_tests) in
      let high : nat_le d.id 15 ≡ true = grind (arith, nat_tests) in
      λ i. first_standing ((low i, fault.ScreenId) ∷ (not (sides i), fault.ScreenSize) ∷ (high i && sides i && nat_lt budget (pixels_with definitions d), fault.PixelBudget) ∷ [])

  pub over_budget : budget < pixels_with definitions d → first_standing (define_screen_tests budget definitions d) ≡ Some fault.PixelBudget
  over_budget over = budget_alone ∙ ap (λ b. first_standing ((b, fault.PixelBudget) ∷ [])) (let t : nat_lt budget (pixels_with definitions d) ≡ true = grind (arith, nat_tests) in t)

  pub within_budget : pixels_with definitions d ≤ budget → first_standing (define_screen_tests budget definitions d) ≡ None
  within_budget within = budget_alone ∙ ap (λ b. first_standing ((b, fault.PixelBudget) ∷ [])) (let t : nat_lt budget (pixels_with definitions d) ≡ false = grind (arith, nat_tests) in t)

  -- such a definition has its sides in range
  pub defines : IsDefinition d.id d
  defines = record { name = refl; width = side d.width (both (is_side d.width) (is_side d.height) sides).0; height = side d.height (both (is_side d.width) (is_side d.height) sides).1 }

pub no_screen : (definitions : ℕ → Option ScreenDef) (id : ℕ) (o : Option ScreenDef) → id ≤ 15 → definitions id ≡ o → is_none o ≡ true → first_standing (destroy_screen_tests definitions id) ≡ Some fault.NoScreen
no_screen definitions id o small is none =
    let high : nat_le id 15 ≡ true = grind (arith, nat_tests) in
    (λ i. first_standing ((high i && is_none (is i), fault.NoScreen) ∷ (nat_lt 15 id, fault.ScreenId) ∷ []))
    ∙ ap (λ b. first_standing ((b, fault.NoScreen) ∷ (nat_lt 15 id, fault.ScreenId) ∷ [])) none

pub some_screen : (definitions : ℕ → Option ScreenDef) (id : ℕ) (o : Option ScreenDef) → id ≤ 15 → definitions id ≡ o → is_none o ≡ false → first_standing (destroy_screen_tests definitions id) ≡ None
some_screen definitions id o small is some =
    let low : nat_lt 15 id ≡ false = grind (arith, nat_tests) in
    let high : nat_le id 15 ≡ true = grind (arith, nat_tests) in
    (λ i. first_standing ((high i && is_none (is i), fault.NoScreen) ∷ (low i, fault.ScreenId) ∷ []))
    ∙ ap (λ b. first_standing ((b, fault.NoScreen) ∷ (false, fault.ScreenId) ∷ [])) some
