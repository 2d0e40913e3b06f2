-- Runs: the stretches of a blit's row that one screen is the first to show.
use Rattle.std.specs.Prelude.{◌≡◌, ℕ, ◌+◌, ◌<◌, ◌≤◌, ℤ, pos, ◌+ℤ◌, ◌≤ℤ◌, ◌<ℤ◌, List, [], ◌∷◌, Option, Some, None, IsSomeAnd}
use Rattle.svga_cmd.specs.declared.constants.TheConstants.{MAX_SCREEN_SIDE}
use Rattle.svga_cmd.specs.declared.blit.Blit.{Blit}
use Rattle.svga_cmd.specs.declared.screen.ScreenDef.{ScreenDef}
use Rattle.svga_model.specs.BlitPixels.{ScreenPixel, covers}
use Rattle.svga_transfer.specs.declared.runs.Run.{Run}

-- the covered pixel of the screen with the least id
abbrev pub first_of : List ScreenPixel → Option ScreenPixel
first_of [] = None
first_of (p ∷ ps) = Some p

-- no place of row Y from column `from` to below column `to` covers a pixel
abbrev pub IsBare : (ℕ → Option ScreenDef) → Blit → ℤ → ℤ → ℤ → Type 0
IsBare definitions b Y from to = (X : ℤ) → from ≤ℤ X → X <ℤ to → covers definitions b.screen X Y ≡ []

-- no row from one to below another has a place of the blit that covers a pixel
abbrev pub AreBare : (ℕ → Option ScreenDef) → Blit → ℤ → ℤ → Type 0
AreBare definitions b from to = (Y : ℤ) → from ≤ℤ Y → Y <ℤ to
    → IsBare definitions b Y b.rect.left b.rect.right

-- the pixels of the run are those of one screen, on a row of it, and no screen with a lower id shows them
pub record IsRun (definitions : ℕ → Option ScreenDef) (b : Blit) (Y : ℤ) (r : Run) : Type 0 where
  pub some : 0 < r.length
  pub short : r.length ≤ MAX_SCREEN_SIDE
  pub inside : (b.rect.left ≤ℤ r.from) × ((r.from +ℤ pos r.length) ≤ℤ b.rect.right)
  pub shown : IsSomeAnd (definitions r.screen) (λ d. (r.x + r.length ≤ d.width) × (r.y < d.height))
  pub first : (k : ℕ) → k < r.length → first_of (covers definitions b.screen (r.from +ℤ pos k) Y)
      ≡ Some (record { screen = r.screen; x = r.x + k; y = r.y })

-- the next run at or behind column X
pub record IsNextRun (definitions : ℕ → Option ScreenDef) (b : Blit) (X Y : ℤ) (r : Run) : Type 0 where
  pub behind : X ≤ℤ r.from
  pub bare : IsBare definitions b Y X r.from
  pub run : IsRun definitions b Y r
