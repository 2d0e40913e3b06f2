-- What contracts see of the screens of a device.
use Rattle.std.specs.Prelude.{ℕ, refl}
use Rattle.std.specs.Coded.{Coded, code_by, coded×, coded_ℕ}
use Rattle.svga_model.specs.Screens.{Screens, coded_screens}

-- the screens, and how many pixels they may have in all
pub record ScreenSet : Type 0 where
  pub budget : ℕ
  pub screens : Screens

abbrev pub coded_screen_set : Coded ScreenSet
coded_screen_set = code_by (ℕ × Screens) (coded× coded_ℕ coded_screens) (λ s. (s.budget, s.screens))
    (λ p. record { budget = p.0; screens = p.1 }) (λ _. refl)
