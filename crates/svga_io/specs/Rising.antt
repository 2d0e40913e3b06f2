-- How a count of faults goes up.
use Rattle.std.specs.Prelude.{ℕ, ◌+◌, ◌-◌, ◌^◌, ◌≤◌, min}

-- a count in a u64 after one more; it stays at the type's end
abbrev pub one_more : ℕ → ℕ
one_more count = min (count + 1) (2 ^ 64 - 1)

-- The count rose, or it stands at the end of its type.
abbrev pub Rises : ℕ → ℕ → Type 0
Rises before now = one_more before ≤ now
