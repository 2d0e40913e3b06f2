use Rattle.svga_model.proofs.StandingLaws.{first_is_least, first_least}
use Rattle.svga_model.proofs.faults.least_fault.Goals as goal

pub returns-clause-first : goal.returns-clause-first
returns-clause-first c = first_is_least 0

pub returns-clause-least : goal.returns-clause-least
returns-clause-least c = first_least 0
