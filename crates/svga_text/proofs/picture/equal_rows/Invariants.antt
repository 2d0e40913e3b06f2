-- The rows so far equal the first.
use Rattle.std.proofs.Common.{◌≡◌, ◌<◌, ◌≤◌, ◌-◌, ℕ, true, [], get_or}
use Rattle.svga_text.specs.Pictures.{same_row}
use Rattle.svga_text.specs.Rows.{rows_of}
use Rattle.svga_text.proofs.picture.equal_rows.Given as goal

abbrev pub invariant-loop-end : goal.invariant-loop-end
invariant-loop-end l = (l.first < l.end) × (l.end ≤ l.height) × ((k : ℕ) → l.first < k → k < l.end
    → same_row (get_or (rows_of l.screens.screens l.id) k [])
    (get_or (rows_of l.screens.screens l.id) l.first []) ≡ true)

abbrev pub decreases-loop-end : goal.decreases-loop-end
decreases-loop-end l = l.height - l.end
