-- The status of a race.
use Rattle.std.specs.Prelude.{ℕ, Option, Some, None, if◌then◌else◌}
use Rattle.svga_pair.specs.declared.raced.Raced.{Raced}
use Rattle.svga_pair.specs.declared.raced.Refusal.{Refusal}

-- 1 where an act was refused
abbrev pub refused_status : Option Refusal → ℕ
refused_status None = 0
refused_status (Some r) = 1

-- 5 where writing failed
abbrev pub race_status : Raced → ℕ
race_status r = if r.write_fault then 5 else refused_status r.refused
