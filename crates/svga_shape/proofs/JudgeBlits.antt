-- What a blit is refused with that has no pixels, where there is a GMRFB and a region for it.
use Rattle.std.proofs.Common.{◌≡◌, ℕ, ◌∙◌, refl, ap, sym, length, [], ◌∷◌, Bool, true, false, not, ◌&&◌, ◌==◌, nat_le, nat_lt, int_lt, ℤ, Option, Some, None, is_none, option_map, arith}
use Rattle.std.proofs.lemmas.Bool.Decides.{nat_tests}
use Rattle.std.specs.List.{list_any, range_with_len}
use Rattle.std.specs.Prelude.{IsSome, ◌+ℤ◌, pos}
use Rattle.svga_cmd.specs.Limits.{frame_page_count}
use Rattle.svga_cmd.specs.declared.blit.Blit.{Blit}
use Rattle.svga_cmd.specs.declared.constants.TheConstants.{SVGA_ID_INVALID}
use Rattle.svga_cmd.specs.declared.fault.Fault.{Fault}
use Rattle.svga_cmd.specs.declared.fault.Fault.TheVariants.{Unmapped, NoScreen, ScreenId, NegativeSide, BeyondRegion}
use Rattle.svga_cmd.specs.declared.gmrfb.Gmrfb.{Gmrfb}
use Rattle.svga_cmd.specs.declared.screen.ScreenDef.{ScreenDef}
use Rattle.svga_model.proofs.PaintedTests.{both}
use Rattle.svga_model.proofs.PixelsNone.{pixels-negative, pixels-no_screen, pixels-screen_id}
use Rattle.svga_model.proofs.WorkedRules.{blit_rules}
use Rattle.svga_model.specs.BlitFaults.{blit_tests, gmrfb_places, is_negative, is_on_unmapped, is_outside, some_byte}
use Rattle.svga_model.specs.BlitPixels.{blit_pixels}
use Rattle.svga_model.specs.Colours.{pixel_length}
use Rattle.svga_model.specs.Regions.{Places, Regions, places_of}
use Rattle.svga_model.specs.Standing.{first_standing}
use Rattle.svga_model.specs.States.{Shape}
use Rattle.svga_shape.proofs.JudgeReading.{has_places}

-- the rules on the screens and the rectangle of a blit
abbrev screen_rules : Bool → Bool → Bool → Option Fault
screen_rules lacks wrong negative =
    first_standing ((lacks, NoScreen) ∷ (wrong, ScreenId) ∷ (negative, NegativeSide) ∷ [])

module _ (definitions : ℕ → Option ScreenDef) (g : Gmrfb) (b : Blit) where
  abbrev lacks : Bool
  lacks = nat_le b.screen 15 && is_none (definitions b.screen)

  abbrev is_wrong : Bool
  is_wrong = nat_lt 15 b.screen && not (b.screen == SVGA_ID_INVALID)

  -- without pixels no byte passes a test
  no_byte : (test : ℤ → Bool) → blit_pixels definitions g b ≡ [] → some_byte definitions g b test ≡ false
  unfolding some_byte
  no_byte test none = ap
      (list_any (λ p. list_any (λ j. test (p.offset +ℤ pos j)) (range_with_len 0 (pixel_length g.format)))) none

  -- so the rules on bytes don't stand
  without_pixels : (places : Option Places) → IsSome places → blit_pixels definitions g b ≡ []
      → first_standing (blit_rules definitions (Some g) places b) ≡ screen_rules lacks is_wrong (is_negative b.rect)
  without_pixels None h none = absurd (cc)
  without_pixels (Some places) h none =
      let u = no_byte (is_on_unmapped places) none in
      let o = no_byte (is_outside places) none in
      λ i. first_standing ((u i, Unmapped) ∷ (lacks, NoScreen) ∷ (is_wrong, ScreenId)
      ∷ (is_negative b.rect, NegativeSide) ∷ (o i, BeyondRegion) ∷ [])

  -- a screen that isn't defined has none
  missing : lacks ≡ true → blit_pixels definitions g b ≡ []
  missing h =
      let tests = both (nat_le b.screen 15) (is_none (definitions b.screen)) h in
      let low : nat_le b.screen 15 ≡ true = tests.0 in
      pixels-no_screen definitions g b (λ e. grind (arith, nat_tests)) (is_missing (definitions b.screen) tests.1)
    where
      is_missing : (o : Option ScreenDef) → is_none o ≡ true → o ≡ None
      is_missing None e = refl
      is_missing (Some d) e = absurd (cc)

  -- nor has an id that no screen can have
  misnamed : is_wrong ≡ true → blit_pixels definitions g b ≡ []
  misnamed h =
      let tests = both (nat_lt 15 b.screen) (not (b.screen == SVGA_ID_INVALID)) h in
      let high : nat_lt 15 b.screen ≡ true = tests.0 in
      let other : not (b.screen == SVGA_ID_INVALID) ≡ true = tests.1 in
      pixels-screen_id definitions g b (grind (arith, nat_tests)) (λ e. grind (arith, nat_tests))

  -- nor a rectangle with a negative side
  negative : is_negative b.rect ≡ true → blit_pixels definitions g b ≡ []
  negative h = pixels-negative definitions g b (int_lt b.rect.right b.rect.left) (int_lt b.rect.bottom b.rect.top)
      refl refl h

-- The rules on a blit, where there is a GMRFB and the length of its region is told.
module _ (frame : ℕ) (regions : Regions) (g : Gmrfb) (definitions : ℕ → Option ScreenDef) (b : Blit) (told : Option ℕ)
    (length_is : told ≡ option_map length (places_of frame regions g.region)) (is_told : IsSome told) (s : Shape)
    (regions_are : s.regions ≡ regions) (frame_is : frame_page_count s.limits ≡ frame) (gmrfb_is : s.gmrfb ≡ Some g)
    (definitions_are : s.definitions ≡ definitions)
  where
    -- without pixels the rules on screens and the rectangle are all
    refused : blit_pixels definitions g b ≡ [] → first_standing (blit_tests s b)
        ≡ screen_rules (lacks definitions g b) (is_wrong definitions g b) (is_negative b.rect)
    refused none =
        (λ i. first_standing (blit_rules (definitions_are i) (gmrfb_is i)
        (gmrfb_places (frame_is i) (regions_are i) (gmrfb_is i)) b))
        ∙ without_pixels definitions g b (places_of frame regions g.region)
        (has_places (places_of frame regions g.region) told length_is is_told) none

    -- it is refused for the first of these rules that stands
    pub lacks_screen : true ≡ lacks definitions g b → Some NoScreen ≡ first_standing (blit_tests s b)
    lacks_screen h = (λ i. screen_rules (h i) (is_wrong definitions g b) (is_negative b.rect))
        ∙ sym (refused (missing definitions g b (sym h)))

    pub has_no_screen_id : false ≡ lacks definitions g b → true ≡ is_wrong definitions g b
        → Some ScreenId ≡ first_standing (blit_tests s b)
    has_no_screen_id l h = (λ i. screen_rules (l i) (h i) (is_negative b.rect))
        ∙ sym (refused (misnamed definitions g b (sym h)))

    pub has_negative_side : false ≡ lacks definitions g b → false ≡ is_wrong definitions g b → true ≡ is_negative b.rect
        → Some NegativeSide ≡ first_standing (blit_tests s b)
    has_negative_side l w h = (λ i. screen_rules (l i) (w i) (h i)) ∙ sym (refused (negative definitions g b (sym h)))
