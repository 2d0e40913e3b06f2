-- What contracts see of the adapters over std.
use Rattle.std.specs.Prelude.{ℕ}

-- A reader or a writer, and its faults so far.
pub record Counted (T : Type 0) : Type 0 where
  pub inner : T
  pub faults : ℕ
