use Rattle.svga_model.proofs.RunLaws.{done_most, run_ended, run_front, run_refused, run_whole}
use Rattle.svga_model.proofs.runs.run_in_parts.Goals as goal

pub returns-clause-whole : goal.returns-clause-whole
returns-clause-whole c = run_whole

pub returns-clause-ended : goal.returns-clause-ended
returns-clause-ended c = run_ended

pub returns-clause-most : goal.returns-clause-most
returns-clause-most c = done_most

pub returns-clause-front : goal.returns-clause-front
returns-clause-front c = run_front

pub returns-clause-refused : goal.returns-clause-refused
returns-clause-refused c = run_refused
