use Rattle.svga_model.proofs.WorkedOverlap.{all_done, kept_back, memory_written, shown_on_both, shown_on_inner, written_back}
use Rattle.svga_model.proofs.examples.overlapping_screens.Goals as goal

pub returns-clause-both : goal.returns-clause-both
returns-clause-both c = shown_on_both

pub returns-clause-inner : goal.returns-clause-inner
returns-clause-inner c = shown_on_inner

pub returns-clause-back : goal.returns-clause-back
returns-clause-back c = written_back

pub returns-clause-memory : goal.returns-clause-memory
returns-clause-memory c = memory_written

pub returns-clause-rest : goal.returns-clause-rest
returns-clause-rest c = kept_back

pub returns-clause-admissible : goal.returns-clause-admissible
returns-clause-admissible c = all_done
