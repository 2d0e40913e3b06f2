use Rattle.svga_model.proofs.WorkedRegions.{empty_admissible, empty_same}
use Rattle.svga_model.proofs.examples.empty_region.Goals as goal

pub returns-clause-admissible : goal.returns-clause-admissible
returns-clause-admissible c = empty_admissible

pub returns-clause-same : goal.returns-clause-same
returns-clause-same c = empty_same
