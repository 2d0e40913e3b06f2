use Rattle.std.proofs.Common.{rules}
use Rattle.svga_machine.proofs.PartsLaws.{opened_parts}
use Rattle.svga_machine.proofs.machine.Machine.opened.Goals as goal

pub invariant_of-result : goal.invariant_of-result
invariant_of-result c = (
  opened_parts c.args.limits c.args.regions c.opened-shape.result c.in_ok-screens.screens c.args.fence c.requires.limits
      c.requires.guest c.requires.frame c.opened-shape.ensures c.in_ok-screens.ensures,
  search rules,
)
