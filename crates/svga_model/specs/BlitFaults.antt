-- When a blit between the screens and the GMRFB is refused.
use Rattle.std.specs.Prelude.{ℕ, ℤ, pos, ◌+ℤ◌, int_lt, unsigned_abs, List, [], ◌∷◌, Bool, false, nat_lt, nat_le, ◌==◌, ◌&&◌, ◌||◌, not, is_some, is_none, Option, Some, None, option_and_then}
use Rattle.std.specs.List.{range_with_len, list_any}
use Rattle.svga_cmd.specs.Limits.{frame_page_count}
use Rattle.svga_cmd.specs.declared.blit.Blit.{Blit}
use Rattle.svga_cmd.specs.declared.blit.Rect.{Rect}
use Rattle.svga_cmd.specs.declared.constants.TheConstants.{MAX_SCREEN_ID, SVGA_ID_INVALID}
use Rattle.svga_cmd.specs.declared.fault.Fault.{Fault}
use Rattle.svga_cmd.specs.declared.fault.Fault.TheVariants as fault
use Rattle.svga_cmd.specs.declared.gmrfb.Gmrfb.{Gmrfb}
use Rattle.svga_cmd.specs.declared.screen.ScreenDef.{ScreenDef}
use Rattle.svga_model.specs.BlitPixels.{blit_pixels}
use Rattle.svga_model.specs.Colours.{pixel_length}
use Rattle.svga_model.specs.RegionBytes.{is_beyond, is_unmapped}
use Rattle.svga_model.specs.Regions.{Places, Regions, places_of}
use Rattle.svga_model.specs.States.{Shape}

-- right is less than left, or bottom less than top
abbrev pub is_negative : Rect → Bool
is_negative r = int_lt r.right r.left || int_lt r.bottom r.top

-- a whole number that no byte of the region has: below 0, or at or past the end
abbrev pub is_outside : Places → ℤ → Bool
is_outside places i = int_lt i (pos 0) || is_beyond places (unsigned_abs i)

-- the byte with this number lies on an unmapped place
abbrev pub is_on_unmapped : Places → ℤ → Bool
is_on_unmapped places i = not (int_lt i (pos 0)) && is_unmapped places (unsigned_abs i)

-- some byte of a pixel of the blit passes this test of byte numbers
unfoldable pub some_byte : (ℕ → Option ScreenDef) → Gmrfb → Blit → (ℤ → Bool) → Bool
some_byte definitions g b test =
    list_any (λ p. list_any (λ j. test (p.offset +ℤ pos j)) (range_with_len 0 (pixel_length g.format)))
    (blit_pixels definitions g b)

-- the places of the GMRFB's region
abbrev pub gmrfb_places : ℕ → Regions → Option Gmrfb → Option Places
gmrfb_places frame regions gmrfb = option_and_then (λ g. places_of frame regions g.region) gmrfb

-- a test of the bytes of a blit, false where there is no GMRFB or no region for it
abbrev pub some_gmrfb_byte : (ℕ → Option ScreenDef) → Option Gmrfb → Option Places → Blit
    → (Places → ℤ → Bool) → Bool
some_gmrfb_byte definitions (Some g) (Some places) b test = some_byte definitions g b (test places)
some_gmrfb_byte definitions (Some g) None b test = false
some_gmrfb_byte definitions None places b test = false

-- The rules on both blits. A blit that another rule refuses has no pixel, or its pixels no bytes, so that the
-- rules on bytes don't stand beside it.
abbrev pub blit_tests : Shape → Blit → List (Bool × Fault)
blit_tests s b =
    let places = gmrfb_places (frame_page_count s.limits) s.regions s.gmrfb in
    (is_some s.gmrfb && is_none places, fault.NoRegion)
    ∷ (some_gmrfb_byte s.definitions s.gmrfb places b is_on_unmapped, fault.Unmapped)
    ∷ (is_none s.gmrfb, fault.NoGmrfb)
    ∷ (nat_le b.screen MAX_SCREEN_ID && is_none (s.definitions b.screen), fault.NoScreen)
    ∷ (nat_lt MAX_SCREEN_ID b.screen && not (b.screen == SVGA_ID_INVALID), fault.ScreenId)
    ∷ (is_negative b.rect, fault.NegativeSide)
    ∷ (some_gmrfb_byte s.definitions s.gmrfb places b is_outside, fault.BeyondRegion) ∷ []
