-- That the worked blits may be done.
use Rattle.std.proofs.Common.{suc, ◌≡◌, ℕ, ◌<◌, ◌/◌, ◌∙◌, Bool, true, false, List, [], ◌∷◌, Option, Some, None}
use Rattle.std.proofs.Common.{suc, slice_index_or, arith, refl, ap}
use Rattle.std.specs.Prelude.{if◌then◌else◌, ℤ, pos, ◌+ℤ◌, int_lt, unsigned_abs}
use Rattle.std.specs.Prelude.{nat_lt, nat_le, ◌==◌, ◌&&◌, ◌||◌, not, is_none, is_some}
use Rattle.std.specs.List.{list_any, range_with_len}
use Rattle.std.proofs.lemmas.Bool.Decides.{nat_tests}
use Rattle.svga_cmd.specs.declared.blit.Blit.{Blit}
use Rattle.svga_cmd.specs.declared.command.Command.TheVariants.{BlitToGmrfb, BlitToScreen}
use Rattle.svga_cmd.specs.declared.constants.TheConstants.{PAGE_SIZE, SVGA_ID_INVALID}
use Rattle.svga_cmd.specs.declared.fault.Fault.{Fault}
use Rattle.svga_cmd.specs.declared.fault.Fault.TheVariants as fault
use Rattle.svga_cmd.specs.declared.gmrfb.Gmrfb.{Gmrfb}
use Rattle.svga_cmd.specs.declared.page.PageKey.{PageKey}
use Rattle.svga_cmd.specs.declared.screen.ScreenDef.{ScreenDef}
use Rattle.svga_model.specs.Acts.{Act, Do}
use Rattle.svga_model.specs.BlitFaults.{blit_tests, gmrfb_places, is_negative, is_on_unmapped, is_outside}
use Rattle.svga_model.specs.BlitFaults.{some_byte, some_gmrfb_byte}
use Rattle.svga_model.specs.BlitPixels.{blit_pixels}
use Rattle.svga_model.specs.Colours.{pixel_length}
use Rattle.svga_model.specs.Faults.{IsAdmissible, fault_of}
use Rattle.svga_model.specs.RegionBytes.{is_beyond, page_of_byte}
use Rattle.svga_model.specs.Regions.{Places}
use Rattle.svga_model.specs.Runs.{done}
use Rattle.svga_model.specs.Screens.{definitions_of}
use Rattle.svga_model.specs.Standing.{least_standing}
use Rattle.svga_model.specs.States.{State, frame_pages, shape_of}
use Rattle.svga_model.specs.Steps.{step}
use Rattle.svga_model.specs.Worked.{IsSetUp}

-- a run that goes on
pub done_more : (s : State) (act : Act) (acts : List Act) (n : ℕ) → IsAdmissible s act → done (step s act) acts ≡ n
    → done s (act ∷ acts) ≡ suc n
done_more s act acts n allowed rest = ap (λ o. if is_none o then suc (done (step s act) acts) else 0) allowed
    ∙ ap suc rest

-- the rules on a blit, for this GMRFB, its places and these screens
abbrev pub blit_rules : (ℕ → Option ScreenDef) → Option Gmrfb → Option Places → Blit → List (Bool × Fault)
blit_rules definitions gmrfb places b =
    (is_some gmrfb && is_none places, fault.NoRegion)
    ∷ (some_gmrfb_byte definitions gmrfb places b is_on_unmapped, fault.Unmapped)
    ∷ (is_none gmrfb, fault.NoGmrfb)
    ∷ (nat_le b.screen 15 && is_none (definitions b.screen), fault.NoScreen)
    ∷ (nat_lt 15 b.screen && not (b.screen == SVGA_ID_INVALID), fault.ScreenId)
    ∷ (is_negative b.rect, fault.NegativeSide)
    ∷ (some_gmrfb_byte definitions gmrfb places b is_outside, fault.BeyondRegion) ∷ []

-- both kinds of this blit may be done
pub record MayBlit (s : State) (b : Blit) : Type 0 where
  pub to_screen : IsAdmissible s (Do (BlitToScreen b))
  pub to_gmrfb : IsAdmissible s (Do (BlitToGmrfb b))

-- a blit that none of the rules refuses may be done
pub may_blit : (s : State) (g : Gmrfb) (places : Places) (definitions : ℕ → Option ScreenDef) (b : Blit)
    → IsSetUp s g places definitions → least_standing (blit_rules definitions (Some g) (Some places) b) ≡ None → MayBlit s b
unfolding fault_of
may_blit s g places definitions b set_up allowed = record { to_screen = same ∙ allowed; to_gmrfb = same ∙ allowed } where
  standing : (ℕ → Option ScreenDef) → Option Gmrfb → Option Places → Option Fault
  standing f o p = least_standing (blit_rules f o p b)

  same : least_standing (blit_tests (shape_of s.kept) b) ≡ least_standing (blit_rules definitions (Some g) (Some places) b)
  same = ap (λ o. standing (definitions_of s.kept.screens) o (gmrfb_places (frame_pages s.kept) s.kept.regions o)) set_up.gmrfb
      ∙ ap (standing (definitions_of s.kept.screens) (Some g)) set_up.region
      ∙ ap (λ f. standing f (Some g) (Some places)) set_up.screens

-- where one test fails wherever another does, it fails on a whole list if the other does
none_of : {X : Type 0} (t u : X → Bool) → ((x : X) → u x ≡ false → t x ≡ false) → (xs : List X) → list_any u xs ≡ false
    → list_any t xs ≡ false
none_of t u less [] e = refl
none_of t u less (x ∷ xs) e = neither (t x) (list_any t xs) (less x (or_left (u x) (list_any u xs) e))
    (none_of t u less xs (or_right (u x) (list_any u xs) e))
  where
    neither : (p q : Bool) → p ≡ false → q ≡ false → (p || q) ≡ false
    neither p q first second = rw (first, second) refl

    or_left : (p q : Bool) → (p || q) ≡ false → p ≡ false
    or_left true q e = e
    or_left false q e = refl

    or_right : (p q : Bool) → (p || q) ≡ false → q ≡ false
    or_right true q e = absurd (cc e)
    or_right false q e = e

-- byte i isn't one of a region's first place
abbrev pub is_far : ℤ → Bool
is_far i = int_lt i (pos 0) || nat_le PAGE_SIZE (unsigned_abs i)

near_inside : (place : Option PageKey) (places : Places) (i : ℤ) → is_far i ≡ false → is_outside (place ∷ places) i ≡ false
near_inside place places i near = grind (arith, nat_tests)

near_mapped : (key : PageKey) (places : Places) (i : ℤ) → is_far i ≡ false → is_on_unmapped (Some key ∷ places) i ≡ false
near_mapped key places i near = last_false (not (int_lt i (pos 0))) (not (is_beyond (Some key ∷ places) n))
    (is_none (page_of_byte (Some key ∷ places) n))
    (ap (λ k. is_none (slice_index_or (Some key ∷ places) k None)) first)
  where
    n : ℕ
    n = unsigned_abs i

    below : is_far i ≡ false → n < PAGE_SIZE
    below near = grind (arith, nat_tests)

    first : n / PAGE_SIZE ≡ 0
    first = let low : n < PAGE_SIZE = below near in omega arith

    last_false : (p q r : Bool) → r ≡ false → (p && (q && r)) ≡ false
    last_false true true r e = e
    last_false true false r e = refl
    last_false false q r e = refl

module _ (definitions : ℕ → Option ScreenDef) (g : Gmrfb) (b : Blit) (near : some_byte definitions g b is_far ≡ false) where
  abbrev pub byte_numbers : List ℕ
  byte_numbers = range_with_len 0 (pixel_length g.format)

  -- a test that no byte of the first place passes
  none_passes : (test : ℤ → Bool) → ((i : ℤ) → is_far i ≡ false → test i ≡ false) → some_byte definitions g b test ≡ false
  unfolding some_byte
  none_passes test less = none_of (λ p. list_any (λ j. test (p.offset +ℤ pos j)) byte_numbers)
      (λ p. list_any (λ j. is_far (p.offset +ℤ pos j)) byte_numbers)
      (λ p. none_of (λ j. test (p.offset +ℤ pos j)) (λ j. is_far (p.offset +ℤ pos j))
      (λ j. less (p.offset +ℤ pos j)) byte_numbers)
      (blit_pixels definitions g b) near

  -- a blit may be done if its bytes lie on the region's first place, and that is a page
  pub near_blit : (nat_le b.screen 15 && is_none (definitions b.screen)) ≡ false
      → (nat_lt 15 b.screen && not (b.screen == SVGA_ID_INVALID)) ≡ false → is_negative b.rect ≡ false
      → (s : State) (key : PageKey) (places : Places) → IsSetUp s g (Some key ∷ places) definitions → MayBlit s b
  near_blit there id sides s key places set_up = may_blit s g (Some key ∷ places) definitions b set_up
      (rw (
        none_passes (is_on_unmapped (Some key ∷ places)) (near_mapped key places),
        there,
        id,
        sides,
        none_passes (is_outside (Some key ∷ places)) (near_inside (Some key) places),
      ) refl)
