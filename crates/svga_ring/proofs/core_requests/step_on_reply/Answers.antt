-- A store of the reply behind a chain that is served.
use Rattle.svga_ring.proofs.Requests.Replies.{asked_admits, kept_reply, known_admits, settled_reply}
use Rattle.svga_ring.proofs.core_requests.step_on_reply.Goals as goal

pub returns-clause-settled : goal.returns-clause-settled
returns-clause-settled c = settled_reply

pub returns-clause-kept : goal.returns-clause-kept
returns-clause-kept c = kept_reply

pub returns-clause-admissible : goal.returns-clause-admissible
returns-clause-admissible c = asked_admits

pub returns-clause-judged : goal.returns-clause-judged
returns-clause-judged c = known_admits
