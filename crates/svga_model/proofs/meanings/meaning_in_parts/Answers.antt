use Rattle.svga_model.proofs.MeaningLaws.{meaning_ends, meaning_goes_on, meaning_run, script_fence}
use Rattle.svga_model.proofs.meanings.meaning_in_parts.Goals as goal

pub returns-clause-whole : goal.returns-clause-whole
returns-clause-whole c = meaning_goes_on

pub returns-clause-ended : goal.returns-clause-ended
returns-clause-ended c = meaning_ends

pub returns-clause-run : goal.returns-clause-run
returns-clause-run c = λ client calls. (meaning_run client calls).0

pub returns-clause-done : goal.returns-clause-done
returns-clause-done c = λ client calls. (meaning_run client calls).1

pub returns-clause-fence : goal.returns-clause-fence
returns-clause-fence c = script_fence
