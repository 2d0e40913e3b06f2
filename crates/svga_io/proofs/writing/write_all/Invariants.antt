-- The sink has grown by the bytes before the rest.
use Rattle.std.proofs.Common.{◌≡◌, ℕ, List, ◌++◌, length}
use Rattle.svga_io.specs.Growing.{Grows}
use Rattle.svga_io.proofs.writing.write_all.Given as goal

abbrev pub invariant-loop-rest : goal.invariant-loop-rest
invariant-loop-rest g l = record {
  done : List ℕ;
  whole : l.bytes ≡ done ++ l.rest;
  grown : Grows g.K.Sink.held g.K.Sink.faults l.initial.sink l.sink done;
}

abbrev pub decreases-loop-rest : goal.decreases-loop-rest
decreases-loop-rest g l = length l.rest
