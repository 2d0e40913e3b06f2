-- So many words were read, none of them the last of a command.
use Rattle.std.proofs.Common.{◌≡◌, ◌+◌}
use Rattle.svga_ring.specs.Core.{read_count}
use Rattle.svga_device.specs.Reading.{IsReading, with_words}
use Rattle.svga_device.proofs.reading.read_command.Given as goal

abbrev pub invariant-loop-k : goal.invariant-loop-k
invariant-loop-k l = record {
  left : l.end ≡ with_words l.initial.end l.end.view.read;
  reading : IsReading l.end.view l.decoder;
  read : read_count l.end.view ≡ read_count l.initial.end.view + l.k;
}
