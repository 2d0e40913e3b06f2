use Rattle.std.proofs.Common.{◌≡◌, ◌+◌, ◌++◌}
use Rattle.arrayvec.specs.ArrayVec.{array_vec_len}
use Rattle.std.specs.List.{range_with_len}
use Rattle.svga_pair.proofs.page_numbers.add_run.Given as goal

abbrev pub invariant-loop-k : goal.invariant-loop-k
invariant-loop-k l =
    (l.numbers.items ≡ l.initial.numbers.items ++ range_with_len l.run.first l.k)
    × (array_vec_len l.numbers ≡ array_vec_len l.initial.numbers + l.k)
