-- The same of words alone.
use Rattle.svga_ring.proofs.Sessions.OpensInWords.{opens}
use Rattle.svga_ring.proofs.Steps.OnWords.{words_event}
use Rattle.svga_ring.proofs.core_steps.steps_keep_words.Goals as goal

pub returns-clause-opening : goal.returns-clause-opening
returns-clause-opening c = opens

pub returns-clause-each : goal.returns-clause-each
returns-clause-each c = words_event
