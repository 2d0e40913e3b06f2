-- The worked blit at a corner of a screen.
use Rattle.std.proofs.Common.{◌≡◌, ℕ, zero, suc, ◌+◌, ◌*◌, ◌<◌, ◌≤◌, ◌∙◌, ◌⊎◌, inl, inr, false, ◌∷◌, Option, Some, None}
use Rattle.std.proofs.Common.{pos, arith, refl, ap}
use Rattle.std.specs.Prelude.{if◌then◌else◌, unsigned_abs, unwrap_or}
use Rattle.std.proofs.lemmas.Bool.Decides.{nat_tests}
use Rattle.svga_cmd.specs.declared.command.Command.TheVariants.{BlitToScreen}
use Rattle.svga_cmd.specs.declared.format.Format.TheVariants.{Bgrx32}
use Rattle.svga_cmd.specs.declared.page.PageKey.{PageKey}
use Rattle.svga_cmd.specs.declared.screen.ScreenDef.{ScreenDef}
use Rattle.svga_model.proofs.WorkedBlits.{set_up_after, shown_pixel}
use Rattle.svga_model.proofs.WorkedRules.{is_far, near_blit}
use Rattle.svga_model.specs.Acts.{Do}
use Rattle.svga_model.specs.BlitEffects.{blit_colour, colour_at}
use Rattle.svga_model.specs.BlitExamples.{corner_blit, gmrfb, one_screen, screen_def}
use Rattle.svga_model.specs.BlitFaults.{some_byte}
use Rattle.svga_model.specs.BlitPixels.{blit_offset, is_in_rect}
use Rattle.svga_model.specs.Faults.{IsAdmissible}
use Rattle.svga_model.specs.Memories.{region_byte}
use Rattle.svga_model.specs.Regions.{Places}
use Rattle.svga_model.specs.Screens.{definitions_of}
use Rattle.svga_model.specs.States.{State}
use Rattle.svga_model.specs.Worked.{IsSetUp, after_corner, colour_from, shown_at}

-- the screen of 4 by 4 pixels
abbrev pub wide_screen : ScreenDef
wide_screen = screen_def 0 4 4 (pos 0) (pos 0)

-- what the blit gives to a pixel, by the region's bytes
abbrev pub corner_colour : (ℕ → ℕ) → ℕ → ℕ → Option ℕ
corner_colour bytes x y = blit_colour bytes gmrfb corner_blit 0 wide_screen x y

-- the four pixels in the rectangle
pub four_given : (bytes : ℕ → ℕ) (x y : ℕ) → x < 2 → y < 2
    → corner_colour bytes x y ≡ Some (colour_from bytes (100 * (y + 1) + 4 * (x + 1)))
four_given bytes zero zero wide high = refl
four_given bytes (suc zero) zero wide high = refl
four_given bytes zero (suc zero) wide high = refl
four_given bytes (suc zero) (suc zero) wide high = refl
four_given bytes (suc (suc x)) y wide high = absurd (omega (arith, wide))
four_given bytes zero (suc (suc y)) wide high = absurd (omega (arith, high))
four_given bytes (suc zero) (suc (suc y)) wide high = absurd (omega (arith, high))

-- the test of the rectangle at the others
off : (x y : ℕ) → (2 ≤ x) ⊎ (2 ≤ y) → is_in_rect corner_blit.rect (pos (0 + x)) (pos (0 + y)) ≡ false
off x y (inl past) = grind (arith, nat_tests)
off x y (inr past) = grind (arith, nat_tests)

others_left : (bytes : ℕ → ℕ) (x y : ℕ) → (2 ≤ x) ⊎ (2 ≤ y) → corner_colour bytes x y ≡ None
others_left bytes x y past = ap (λ t. if t then Some colour else None) (off x y past) where
  colour : ℕ
  colour = colour_at bytes Bgrx32 (unsigned_abs (blit_offset gmrfb corner_blit (pos (0 + x)) (pos (0 + y))))

module _ (s : State) (places : Places) where
  abbrev pub bytes : ℕ → ℕ
  bytes = region_byte s.memory places

  -- a pixel of the screen after the blit
  corner_pixel : (x y : ℕ) → IsSetUp s gmrfb places one_screen → x < 4 → y < 4
      → shown_at (after_corner s) 0 x y ≡ unwrap_or (corner_colour bytes x y) (shown_at s 0 x y)
  corner_pixel x y set_up wide high =
      shown_pixel s gmrfb places one_screen set_up corner_blit 0 wide_screen (omega arith) refl x y wide high

  pub corner_painted : (x y : ℕ) → IsSetUp s gmrfb places one_screen → x < 2 → y < 2
      → shown_at (after_corner s) 0 x y ≡ colour_from bytes (100 * (y + 1) + 4 * (x + 1))
  corner_painted x y set_up wide high = corner_pixel x y set_up (omega arith) (omega arith)
      ∙ ap (λ o. unwrap_or o (shown_at s 0 x y)) (four_given bytes x y wide high)

  pub corner_others : (x y : ℕ) → IsSetUp s gmrfb places one_screen → x < 4 → y < 4 → (2 ≤ x) ⊎ (2 ≤ y)
      → shown_at (after_corner s) 0 x y ≡ shown_at s 0 x y
  corner_others x y set_up wide high past = corner_pixel x y set_up wide high
      ∙ ap (λ o. unwrap_or o (shown_at s 0 x y)) (others_left bytes x y past)

  -- no screen is defined anew
  pub corner_definitions : IsSetUp s gmrfb places one_screen → definitions_of (after_corner s).kept.screens ≡ one_screen
  corner_definitions set_up = (set_up_after s gmrfb places one_screen set_up corner_blit none).screens where
    none : (id : ℕ) → 16 ≤ id → one_screen id ≡ None
    none id past = grind (arith, nat_tests)

-- the blit's bytes lie on the region's first place
corner_near : some_byte one_screen gmrfb corner_blit is_far ≡ false
unfolding some_byte
corner_near = refl

pub corner_admissible : (s : State) (key : PageKey) (places : Places) → IsSetUp s gmrfb (Some key ∷ places) one_screen
    → IsAdmissible s (Do (BlitToScreen corner_blit))
corner_admissible s key places set_up =
    (near_blit one_screen gmrfb corner_blit corner_near refl refl refl s key places set_up).to_screen
