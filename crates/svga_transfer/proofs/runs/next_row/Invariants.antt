use Rattle.std.proofs.Common.{◌≤ℤ◌, ◌<ℤ◌}
use Rattle.svga_model.specs.Screens.{definitions_of}
use Rattle.svga_transfer.specs.Stretches.{AreBareOf}
use Rattle.svga_transfer.proofs.runs.next_row.Given as goal

abbrev pub invariant-loop-id : goal.invariant-loop-id
invariant-loop-id l = record {
  within : l.row ≤ℤ l.blit.rect.bottom;
  from : l.row <ℤ l.blit.rect.bottom → l.y ≤ℤ l.row;
  bare : AreBareOf (definitions_of l.screens.screens) l.blit 0 l.id l.y l.row;
}
