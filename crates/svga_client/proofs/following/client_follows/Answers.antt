use Rattle.svga_client.proofs.CallLaws.{call_commit, call_describe, call_lend, call_take, call_write}
use Rattle.svga_client.proofs.FollowLaws.{follows_known}
use Rattle.svga_client.proofs.OpeningLaws.{follows_opening, follows_relend}
use Rattle.svga_client.proofs.following.client_follows.Goals as goal

pub returns-clause-opening : goal.returns-clause-opening
returns-clause-opening c = follows_opening

pub returns-clause-commit : goal.returns-clause-commit
returns-clause-commit c = λ l client k command o none. call_commit o command none

pub returns-clause-describe : goal.returns-clause-describe
returns-clause-describe c = λ l client k id first o none. call_describe o id first none

pub returns-clause-write : goal.returns-clause-write
returns-clause-write c = λ l client k key offset bytes o none. call_write o key offset bytes none

pub returns-clause-lend : goal.returns-clause-lend
returns-clause-lend c = λ l client k key o none. call_lend o key none

pub returns-clause-take : goal.returns-clause-take
returns-clause-take c = λ l client k key o none behind. call_take o key none behind

pub returns-clause-known : goal.returns-clause-known
returns-clause-known c = λ l client k passed seen o of_passed of_seen low.
    follows_known o passed seen of_passed of_seen low

pub returns-clause-again : goal.returns-clause-again
returns-clause-again c = λ l client k key o is. follows_relend key o is
