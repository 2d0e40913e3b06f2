-- The rows of a picture's pixels.
use Rattle.std.proofs.Common.{◌≡◌, ℕ, ◌+◌, ◌-◌, ◌*◌, ◌<◌, ◌≤◌, ap, subst, ◌∙◌, List, [], ◌++◌, length, arith, take, replicate, Bool, true, if◌then◌else◌}
use Rattle.std.proofs.lemmas.Grind.{common_steps}
use Rattle.svga_head.specs.Changes.{IsOnRows, painted_rows}
use Rattle.svga_model.specs.Screens.{painted_row}
use Rattle.svga_screen.proofs.PixelLaws.{get_or-rows_from, inside, length-row, length-rows_from, rows_from-with_values}
use Rattle.svga_screen.specs.Kept.{rows_from}

module _ (w h : ℕ) (px : List ℕ) (x y : ℕ) (cs : List ℕ) (sized : length px ≡ w * h) (on : IsOnRows x y (length cs) (rows_from w h px)) where
  high : y < h
  high = subst (λ n. y < n) (length-rows_from w h px) on.high

  wide : x + length cs ≤ w
  wide = subst (λ n. x + length cs ≤ n) (ap length (get_or-rows_from w h px y [] high) ∙ length-row w h px y sized high) on.wide

  -- what lies on a row lies on its pixels
  pub on_pixels : y * w + x + length cs ≤ length px
  on_pixels = inside w h px x y cs sized high wide

  pub rows_from-painted : rows_from w h (painted_row px (y * w + x) cs) ≡ painted_rows x y cs (rows_from w h px)
  rows_from-painted = rows_from-with_values w h px x y cs sized high wide

-- an empty list that grows is filled with what is appended
pub grown_from_nothing : (fits : Bool) (n len : ℕ) (xs : List ℕ) → fits ≡ true → xs ≡ [] → len ≡ 0 → (if fits then take n xs ++ replicate (n - len) 0 else xs) ≡ replicate n 0
grown_from_nothing fits n len xs e f g = grind (arith, common_steps)
