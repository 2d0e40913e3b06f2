-- The items so far equal the first.
use Rattle.std.proofs.Common.{◌≡◌, ◌<◌, ◌≤◌, ◌-◌, ℕ, true, length, get_or}
use Rattle.svga_text.proofs.runs.run_length.Given as goal

abbrev pub invariant-loop-count : goal.invariant-loop-count
invariant-loop-count g l = (0 < l.count) × (l.count ≤ length l.items) × ((k : ℕ) (d : _) → 0 < k → k < l.count
    → g.T.PartialEq.eq (get_or l.items k d) (get_or l.items 0 d) ≡ true)

abbrev pub decreases-loop-count : goal.decreases-loop-count
decreases-loop-count g l = length l.items - l.count
