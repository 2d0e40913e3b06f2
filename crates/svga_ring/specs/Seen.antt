-- How many fences a value of the register FENCE shows.
use Rattle.std.specs.Prelude.{◌≡◌, ℕ, ◌≤◌}
use Rattle.svga_model.specs.Fences.{register_after}

-- the register shows j fences: at least those that were seen before, at most those that were sent
pub record IsSeen (first seen emitted register j : ℕ) : Type 0 where
  pub least : seen ≤ j
  pub most : j ≤ emitted
  pub shown : register ≡ register_after first j
