use Rattle.std.proofs.Common.{arith}
use Rattle.svga_link.proofs.ClosingSteps.{fence_looked, kept_looked, looks}
use Rattle.svga_link.proofs.closing.last_fence.Goals as goal

pub load-requires : goal.load-requires
load-requires c = (c.requires.table, omega (arith, c.requires.words), looks _ _ _ _ _ c.requires.role)

pub returns-clause-fence : goal.returns-clause-fence
returns-clause-fence c = fence_looked _ _ _ _ c.load.ensures.2.1

pub returns-clause-kept : goal.returns-clause-kept
returns-clause-kept c = kept_looked _ _ _ _ _ c.load.ensures.2.1
