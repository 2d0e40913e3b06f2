-- Turns of a waiter in a row.
use Rattle.std.proofs.Common.{◌≡◌, List, refl, ◌∙◌, Option}
use Rattle.atomic_table.specs.Seated.{TableId}
use Rattle.svga_head.specs.PlugStates.{PlugState}
use Rattle.svga_pair.specs.Waiting.{StepsOn}

module _ {W : Type 0} {table : W → Option TableId} {shows : W → List PlugState → Type 0} where
  pub none_taken : (w : W) → StepsOn table shows w w
  none_taken w = record { table_is = refl; still = λ first s. s }

  pub taken_then : (a b c : W) → StepsOn table shows a b → StepsOn table shows b c → StepsOn table shows a c
  taken_then a b c m n =
      record { table_is = n.table_is ∙ m.table_is; still = λ first s. n.still first (m.still first s) }

  pub one_taken : (a b c : W) → StepsOn table shows a b → table c ≡ table b
      → ((first : List PlugState) → shows b first → shows c first) → StepsOn table shows a c
  one_taken a b c m same still = taken_then a b c m (record { table_is = same; still = still })
