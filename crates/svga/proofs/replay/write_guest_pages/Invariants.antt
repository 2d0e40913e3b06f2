-- The pages so far are written.
use Rattle.std.proofs.Common.{flat_map}
use Rattle.std.specs.List.{range_with_len}
use Rattle.svga.specs.Mapped.{mapped_page}
use Rattle.svga_io.specs.Growing.{Grows}
use Rattle.svga.proofs.replay.write_guest_pages.Given as goal

abbrev pub invariant-loop-p : goal.invariant-loop-p
invariant-loop-p g l = Grows g.K.Sink.held g.K.Sink.faults l.initial.sink l.sink
    (flat_map (mapped_page l.pages l.mapped) (range_with_len 0 l.p))
