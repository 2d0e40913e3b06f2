-- Rows of pixels as they are read, and one screen that gets new colours among others.
use Rattle.std.specs.Prelude.{◌≡◌, ◌≢◌, ℕ, ◌+◌, ◌*◌, List, map as map_list, nat_lt, if◌then◌else◌, Option, None, option_map}
use Rattle.std.specs.FinMap as map
use Rattle.std.specs.List.{range_with_len}
use Rattle.svga_cmd.specs.declared.format.Format.{Format}
use Rattle.svga_cmd.specs.declared.screen.ScreenDef.{ScreenDef}
use Rattle.svga_model.specs.BlitEffects.{colour_at, repainted}
use Rattle.svga_model.specs.Colours.{pixel_length}
use Rattle.svga_screen.specs.ScreenSet.{ScreenSet}

-- the colours of so many pixels that stand one behind another from byte i of a region on
abbrev pub colours_from : (ℕ → ℕ) → Format → ℕ → ℕ → List ℕ
colours_from bytes format i count =
    map_list (λ k. colour_at bytes format (i + k * pixel_length format)) (range_with_len 0 count)

-- the screen with this id has its new colours, and the others are as they were
pub record IsRepainted (colour : ScreenDef → ℕ → ℕ → Option ℕ) (id : ℕ) (old new : ScreenSet) : Type 0 where
  pub budget : new.budget ≡ old.budget
  pub here : map.get new.screens id ≡ option_map (λ s. repainted (colour s.def) s) (map.get old.screens id)
  pub others : (q : ℕ) → q ≢ id → map.get new.screens q ≡ map.get old.screens q

-- the new colours above row y alone
abbrev pub above : ℕ → (ScreenDef → ℕ → ℕ → Option ℕ) → ScreenDef → ℕ → ℕ → Option ℕ
above y colour d u v = if nat_lt v y then colour d u v else None
