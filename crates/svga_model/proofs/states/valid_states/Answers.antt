-- Every state is valid.
use Rattle.svga_model.proofs.ValidMemory.{opening_has}
use Rattle.svga_model.proofs.ValidRuns.{run_good}
use Rattle.svga_model.proofs.ValidStateLaws.{opening_good, step_good, step_keys, step_limits}
use Rattle.svga_model.proofs.states.valid_states.Goals as goal

pub returns-clause-opening : goal.returns-clause-opening
returns-clause-opening c = opening_good

pub returns-clause-all_pages : goal.returns-clause-all_pages
returns-clause-all_pages c = λ l first. opening_has l

pub returns-clause-step : goal.returns-clause-step
returns-clause-step c = step_good

pub returns-clause-run : goal.returns-clause-run
returns-clause-run c = run_good

pub returns-clause-limits : goal.returns-clause-limits
returns-clause-limits c = step_limits

pub returns-clause-keys : goal.returns-clause-keys
returns-clause-keys c = step_keys
