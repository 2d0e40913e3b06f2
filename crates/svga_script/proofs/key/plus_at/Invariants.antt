use Rattle.std.proofs.Common.{◌≢◌, ℕ, ◌<◌, slice_index}
use Rattle.svga_script.proofs.key.plus_at.Given as goal

abbrev pub invariant-loop-i : goal.invariant-loop-i
invariant-loop-i l = (k : ℕ) → k < l.i → slice_index l.letters k ≢ 43
