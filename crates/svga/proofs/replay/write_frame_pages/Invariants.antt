-- The pages so far are written.
use Rattle.std.proofs.Common.{flat_map}
use Rattle.std.specs.List.{range_with_len}
use Rattle.svga.specs.ReplayTexts.{shown_page}
use Rattle.svga_cmd.specs.declared.page.PageKey.TheVariants.{Frame}
use Rattle.svga_io.specs.Growing.{Grows}
use Rattle.svga.proofs.replay.write_frame_pages.Given as goal

abbrev pub invariant-loop-number : goal.invariant-loop-number
invariant-loop-number g l = Grows g.K.Sink.held g.K.Sink.faults l.initial.sink l.sink
    (flat_map (λ n. shown_page l.pages (Frame n)) (range_with_len 0 l.number))
