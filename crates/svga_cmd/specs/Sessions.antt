-- With which numbers a session may open.
use Rattle.std.specs.Prelude.{◌≡◌, ℕ, ◌%◌}
use Rattle.svga_cmd.specs.declared.constants.TheConstants.{MAX_FENCE, MAX_RING_END, MIN_FIRST_FENCE, MIN_RING_END}
use Rattle.svga_cmd.specs.declared.limits.Limits.{Limits}
use Rattle.svga_cmd.specs.Limits.{AreLimits, IsBetween}

-- the ring ends behind a whole word, the device is within its limits, and the first fence is not 0
pub record IsSession (ring : ℕ) (limits : Limits) (first : ℕ) : Type 0 where
  pub ring_end : IsBetween MIN_RING_END MAX_RING_END ring
  pub whole_words : ring % 4 ≡ 0
  pub device : AreLimits limits
  pub first_fence : IsBetween MIN_FIRST_FENCE MAX_FENCE first
