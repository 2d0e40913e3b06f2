use Rattle.std.proofs.Common.{arith}
use Rattle.svga_model.proofs.WorkedCorner.{corner_admissible, corner_definitions, corner_others, corner_painted}
use Rattle.svga_model.proofs.examples.blit_at_a_corner.Goals as goal

pub returns-clause-first : goal.returns-clause-first
returns-clause-first c = λ s places set_up. corner_painted s places 0 0 set_up (omega arith) (omega arith)

pub returns-clause-painted : goal.returns-clause-painted
returns-clause-painted c = corner_painted

pub returns-clause-others : goal.returns-clause-others
returns-clause-others c = corner_others

pub returns-clause-definitions : goal.returns-clause-definitions
returns-clause-definitions c = corner_definitions

pub returns-clause-admissible : goal.returns-clause-admissible
returns-clause-admissible c = corner_admissible
