-- The numbers of fences, the register FENCE, and when a fence has passed.
use Rattle.std.specs.Prelude.{ℕ, ◌+◌, ◌-◌, ◌%◌, ◌^◌, ◌<◌, ◌≤◌, List, filter_map, ◌==◌, if◌then◌else◌, Option, Some, None}
use Rattle.svga_cmd.specs.declared.command.Command.{Command}
use Rattle.svga_cmd.specs.declared.command.Command.TheVariants.{Fence}
use Rattle.svga_cmd.specs.declared.constants.TheConstants.{FENCE_WINDOW}

-- a number that a fence can have: 1 to 2 ^ 32 - 1, since 0 is none
pub record IsFenceNumber (n : ℕ) : Type 0 where
  pub least : 1 ≤ n
  pub most : n < 2 ^ 32

-- The number of fence k, counted from 0, where the first fence has the
-- number first. Behind 2 ^ 32 - 1 comes 1.
abbrev pub number_of_fence : ℕ → ℕ → ℕ
number_of_fence first k = 1 + (first - 1 + k) % (2 ^ 32 - 1)

-- the register FENCE after so many fences: the number of the last one, and at first the number below first
abbrev pub register_after : ℕ → ℕ → ℕ
register_after first fences = if fences == 0 then first - 1 else number_of_fence first (fences - 1)

-- Fence k has passed where more than k fences were seen, whatever their numbers are.
abbrev pub HasPassed : ℕ → ℕ → Type 0
HasPassed seen k = k < seen

-- a - b modulo 2 ^ 32, of two words
abbrev pub difference : ℕ → ℕ → ℕ
difference a b = (a + (2 ^ 32 - b)) % 2 ^ 32

-- The signed test: by its number alone the fence looks passed.
abbrev pub LooksPassed : ℕ → ℕ → Type 0
LooksPassed register fence = difference register fence < 2 ^ 31

-- two fences, counted from 0, or a count of fences and one of them, that are at most 65,536 apart
pub record AreNear (j k : ℕ) : Type 0 where
  pub ahead : j ≤ k + FENCE_WINDOW
  pub behind : k ≤ j + FENCE_WINDOW

-- the number that a FENCE sends
abbrev pub fence_value : Command → Option ℕ
fence_value (Fence value) = Some value
fence_value c = None

-- the numbers of the fences among commands, in order
abbrev pub fences : List Command → List ℕ
fences cs = filter_map fence_value cs
