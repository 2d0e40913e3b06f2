-- The entries so far are on their way.
use Rattle.std.proofs.Common.{take, map}
use Rattle.std.specs.Fmt.{decimal}
use Rattle.svga_cmd.specs.Lent.{entries_of}
use Rattle.svga_text.specs.CommandLines.{entry_numbers}
use Rattle.svga_text.specs.Lines.{spaced}
use Rattle.svga_text.specs.Passing.{Passes}
use Rattle.svga_text.proofs.render.Render.entries.Given as goal

abbrev pub invariant-loop-i : goal.invariant-loop-i
invariant-loop-i g l = Passes g.K.Sink.held g.K.Sink.faults l.initial.sink l.sink l.initial.self.pending l.self.pending (spaced (take l.i (map decimal (entry_numbers (entries_of l.entries)))))
