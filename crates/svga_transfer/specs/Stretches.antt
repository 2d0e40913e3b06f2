-- What screens with ids from one to below another show of a blit.
use Rattle.std.specs.Prelude.{◌≡◌, ℕ, ◌+◌, ◌<◌, ◌≤◌, Bool, ℤ, pos, ◌+ℤ◌, ◌≤ℤ◌, ◌<ℤ◌, int_le, int_lt, false, ◌&&◌, if◌then◌else◌, Option, Some, None, IsSomeAnd}
use Rattle.svga_cmd.specs.declared.constants.TheConstants.{MAX_SCREEN_SIDE}
use Rattle.svga_cmd.specs.declared.blit.Blit.{Blit}
use Rattle.svga_cmd.specs.declared.screen.ScreenDef.{ScreenDef}
use Rattle.svga_model.specs.BlitPixels.{ScreenPixel, corner_x, corner_y, covered_on, is_meant}
use Rattle.svga_transfer.specs.declared.runs.Run.{Run}
use Rattle.svga_transfer.specs.declared.runs.Site.{Site}

-- where a screen so defined lies, in the coordinates of a blit to this screen or to all
abbrev pub site_on : ℕ → ScreenDef → Site
site_on screen d = record {
  x = corner_x screen d;
  y = corner_y screen d;
  width = d.width;
  height = d.height;
}

-- the same of the screen with this id, if it is defined and meant
abbrev pub site_of : Option ScreenDef → ℕ → ℕ → Option Site
site_of None screen id = None
site_of (Some d) screen id = if is_meant screen id then Some (site_on screen d) else None

-- its sides are no longer than those of a screen
pub record IsShort (s : Site) : Type 0 where
  pub width : s.width ≤ MAX_SCREEN_SIDE
  pub height : s.height ≤ MAX_SCREEN_SIDE

-- how far a place is behind the first of so many: 0 before it, and their count past the end
pub record IsSteps (start : ℤ) (count : ℕ) (place : ℤ) (n : ℕ) : Type 0 where
  pub within : n ≤ count
  pub before : place ≤ℤ start → n ≡ 0
  pub between : start ≤ℤ place → place ≤ℤ (start +ℤ pos count) → place ≡ start +ℤ pos n
  pub past : (start +ℤ pos count) ≤ℤ place → n ≡ count

-- the screen has column X, or row Y
abbrev pub is_column : Site → ℤ → Bool
is_column s X = int_le s.x X && int_lt X (s.x +ℤ pos s.width)

abbrev pub is_row : Site → ℤ → Bool
is_row s Y = int_le s.y Y && int_lt Y (s.y +ℤ pos s.height)

-- it has none from one to below another
abbrev pub HasNoColumn : Site → ℤ → ℤ → Type 0
HasNoColumn s from to = (X : ℤ) → from ≤ℤ X → X <ℤ to → is_column s X ≡ false

abbrev pub HasNoRow : Site → ℤ → ℤ → Type 0
HasNoRow s from to = (Y : ℤ) → from ≤ℤ Y → Y <ℤ to → is_row s Y ≡ false

-- all pixels of the screen on row Y from column `from` to below column `to`
pub record IsStretch (s : Site) (id : ℕ) (from to Y : ℤ) (r : Run) : Type 0 where
  pub screen : r.screen ≡ id
  pub some : 0 < r.length
  pub behind : from ≤ℤ r.from
  pub before : (r.from +ℤ pos r.length) ≤ℤ to
  pub wide : r.x + r.length ≤ s.width
  pub high : r.y < s.height
  pub column : r.from ≡ s.x +ℤ pos r.x
  pub row : Y ≡ s.y +ℤ pos r.y
  pub bare : HasNoColumn s from r.from

-- pixel k of a run
abbrev pub run_pixel : Run → ℕ → ScreenPixel
run_pixel r k = record { screen = r.screen; x = r.x + k; y = r.y }

-- no place of row Y from column `from` to below column `to` is on one of the screens
abbrev pub IsBareOf : (ℕ → Option ScreenDef) → Blit → ℕ → ℕ → ℤ → ℤ → ℤ → Type 0
IsBareOf definitions b low high Y from to =
    (id : ℕ) → low ≤ id → id < high → (X : ℤ) → from ≤ℤ X → X <ℤ to
    → covered_on (definitions id) id b.screen X Y ≡ None

-- no row from one to below another has a place of the blit that is on one of the screens
abbrev pub AreBareOf : (ℕ → Option ScreenDef) → Blit → ℕ → ℕ → ℤ → ℤ → Type 0
AreBareOf definitions b low high from to =
    (Y : ℤ) → from ≤ℤ Y → Y <ℤ to → IsBareOf definitions b low high Y b.rect.left b.rect.right

-- The next run of the screens from column `from` to below column `to` of row Y. Of these screens none with
-- a lower id shows one of its places.
pub record IsFirstOf (definitions : ℕ → Option ScreenDef) (b : Blit) (low high : ℕ) (from to Y : ℤ)
    (r : Run) : Type 0 where
  pub some : 0 < r.length
  pub short : r.length ≤ MAX_SCREEN_SIDE
  pub screen : (low ≤ r.screen) × (r.screen < high)
  pub behind : from ≤ℤ r.from
  pub before : (r.from +ℤ pos r.length) ≤ℤ to
  pub shown : IsSomeAnd (definitions r.screen) (λ d. (r.x + r.length ≤ d.width) × (r.y < d.height))
  pub bare : IsBareOf definitions b low high Y from r.from
  pub pixels : (k : ℕ) → k < r.length
      → covered_on (definitions r.screen) r.screen b.screen (r.from +ℤ pos k) Y ≡ Some (run_pixel r k)
  pub alone : IsBareOf definitions b low r.screen Y r.from (r.from +ℤ pos r.length)

-- the next run, or none where the screens show no place there
abbrev pub IsNextOf : (ℕ → Option ScreenDef) → Blit → ℕ → ℕ → ℤ → ℤ → ℤ → Option Run → Type 0
IsNextOf definitions b low high from to Y None = IsBareOf definitions b low high Y from to
IsNextOf definitions b low high from to Y (Some r) = IsFirstOf definitions b low high from to Y r

-- where a run begins, or another column where there is none
abbrev pub column_of : Option Run → ℤ → ℤ
column_of None right = right
column_of (Some r) right = r.from
