use Rattle.svga_model.proofs.TouchPuts.{put_fault, put_step, put_touches}
use Rattle.svga_model.proofs.touches.puts_commute.Goals as goal

pub returns-clause-fault : goal.returns-clause-fault
returns-clause-fault c = put_fault

pub returns-clause-touched : goal.returns-clause-touched
returns-clause-touched c = put_touches

pub returns-clause-step : goal.returns-clause-step
returns-clause-step c = put_step
