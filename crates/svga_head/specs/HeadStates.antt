-- What contracts see of a head.
use Rattle.std.specs.Prelude.{ℕ, Option, refl}
use Rattle.std.specs.Coded.{Coded, code_by, coded×, coded_option, coded_ℕ}
use Rattle.svga_model.specs.Pictures.{Pictures, coded_pictures}

-- a head: its pictures, where it tells them, how often it has failed, and how often it was refused memory
pub record HeadState : Type 0 where
  pub pictures : Option Pictures
  pub faults : ℕ
  pub refusals : ℕ

-- the codes of heads, by which a type that is seen as them tells its values apart
abbrev pub coded_head_state : Coded HeadState
coded_head_state = code_by (Option Pictures × (ℕ × ℕ))
    (coded× (coded_option coded_pictures) (coded× coded_ℕ coded_ℕ))
    (λ h. (h.pictures, (h.faults, h.refusals)))
    (λ p. record { pictures = p.0; faults = p.1.0; refusals = p.1.1 })
    (λ _. refl)
