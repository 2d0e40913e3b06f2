-- What is sound of the fences.
use Rattle.std.specs.Prelude.{◌≡◌, ℕ, ◌+◌, ◌<◌, ◌≤◌, List, length, slice_index, Bool, true}
use Rattle.svga_cmd.specs.Spelling.{Spells}
use Rattle.svga_cmd.specs.declared.command.Command.{Command}
use Rattle.svga_cmd.specs.declared.command.Command.TheVariants.{Fence}
use Rattle.svga_cmd.specs.declared.constants.TheConstants.{FENCE_WINDOW}
use Rattle.svga_model.specs.Fences.{fences, number_of_fence, register_after}
use Rattle.svga_ring.specs.Committed.{fences_passed}

-- Fences have their numbers in order; the register shows how many have passed, and the driver has seen no
-- more than that.
pub record AreFencesInOrder (first : ℕ) (cs : List Command) (done : ℕ) (read : List ℕ) (stored : Bool)
    (register seen last : ℕ) : Type 0 where
  pub numbered : (j : ℕ) → j < length (fences cs) → slice_index (fences cs) j ≡ number_of_fence first j
  pub window : length (fences cs) ≤ seen + FENCE_WINDOW
  pub register_is : register ≡ register_after first (fences_passed cs done stored)
  pub seen_passed : seen ≤ fences_passed cs done stored
  -- only of a fence in hand a number is stored ahead of STOP
  pub in_hand : stored ≡ true → (value : ℕ) × Spells (Fence value) read
  -- the last value loaded of FENCE shows what was seen
  pub last_is : last ≡ register_after first seen
