use Rattle.svga_model.specs.Screens.{definitions_of}
use Rattle.svga_transfer.specs.Stretches.{IsNextOf}
use Rattle.svga_transfer.proofs.runs.next_run.Given as goal

abbrev pub invariant-loop-id : goal.invariant-loop-id
invariant-loop-id l = IsNextOf (definitions_of l.screens.screens) l.blit 0 l.id l.x l.blit.rect.right l.y l.next
