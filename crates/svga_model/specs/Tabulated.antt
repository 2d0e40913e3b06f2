-- Finite maps from the numbers below a bound.
use Rattle.std.specs.Prelude.{ℕ, zero, suc, Option, Some, None}
use Rattle.std.specs.FinMap as map
use Rattle.std.specs.FinMap.{FinMap}
use Rattle.std.specs.Ordering.{nat_cmp}

-- the map with a value at n, if there is one
abbrev pub with_optional : {X : Type 0} → FinMap nat_cmp X → ℕ → Option X → FinMap nat_cmp X
with_optional m n None = m
with_optional m n (Some x) = map.insert m n x

-- the map that has f at each number below the bound, where f gives a value
unfoldable pub tabulated : {X : Type 0} → ℕ → (ℕ → Option X) → FinMap nat_cmp X
tabulated zero f = map.empty
tabulated (suc n) f = with_optional (tabulated n f) n (f n)
