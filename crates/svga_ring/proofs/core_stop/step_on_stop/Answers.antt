-- A store of STOP behind a command that is served.
use Rattle.svga_ring.proofs.Steps.Stop.{kept_step, known_admits, read_admits, settled_step}
use Rattle.svga_ring.proofs.core_stop.step_on_stop.Goals as goal

pub returns-clause-settled : goal.returns-clause-settled
returns-clause-settled c = settled_step

pub returns-clause-kept : goal.returns-clause-kept
returns-clause-kept c = kept_step

pub returns-clause-admissible : goal.returns-clause-admissible
returns-clause-admissible c = read_admits

pub returns-clause-judged : goal.returns-clause-judged
returns-clause-judged c = known_admits
