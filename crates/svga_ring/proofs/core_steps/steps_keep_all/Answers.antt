-- A session opens sound, and each step keeps that.
use Rattle.svga_ring.proofs.Sessions.Opens.{opened}
use Rattle.svga_ring.proofs.Steps.Each.{keeps_event}
use Rattle.svga_ring.proofs.core_steps.steps_keep_all.Goals as goal

pub returns-clause-opening : goal.returns-clause-opening
returns-clause-opening c = opened

pub returns-clause-each : goal.returns-clause-each
returns-clause-each c = keeps_event
