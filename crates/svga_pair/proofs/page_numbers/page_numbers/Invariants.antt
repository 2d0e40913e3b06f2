use Rattle.std.proofs.Common.{◌≡◌, take, map}
use Rattle.arrayvec.specs.ArrayVec.{array_vec_len}
use Rattle.svga_model.specs.ClientActs.{runs_numbers}
use Rattle.svga_model.specs.ScriptBounds.{pages_in}
use Rattle.svga_script.specs.Acts.{run_of}
use Rattle.svga_pair.proofs.page_numbers.page_numbers.Given as goal

abbrev pub invariant-loop-run : goal.invariant-loop-run
invariant-loop-run l =
    (l.numbers.items ≡ runs_numbers (map run_of (take l.run-index l.runs)))
    × (array_vec_len l.numbers ≡ pages_in (map run_of (take l.run-index l.runs)))
