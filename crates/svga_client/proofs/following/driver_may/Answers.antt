use Rattle.svga_client.proofs.CallLaws.{asked, granted, taken_free}
use Rattle.svga_client.proofs.FollowLaws.{chain_admits, chain_touches, command_admits, command_touches}
use Rattle.svga_client.proofs.following.driver_may.Goals as goal

pub returns-clause-commit : goal.returns-clause-commit
returns-clause-commit c = λ l client k command o none. command_admits o command (granted client command none)

pub returns-clause-touches : goal.returns-clause-touches
returns-clause-touches c = λ l client k command key o none touched.
    command_touches o command key (granted client command none) touched

pub returns-clause-describe : goal.returns-clause-describe
returns-clause-describe c = λ l client k id first o none. chain_admits o id first (asked o id first none)

pub returns-clause-reads : goal.returns-clause-reads
returns-clause-reads c = λ l client k id first key o none touched.
    chain_touches o id first key (asked o id first none) touched

pub returns-clause-take : goal.returns-clause-take
returns-clause-take c = λ l client k key n o behind low touched. taken_free o key behind n low touched
