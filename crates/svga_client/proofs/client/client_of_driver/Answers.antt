use Rattle.svga_client.proofs.CallLaws.{commit_judged}
use Rattle.svga_client.proofs.ClientOfLaws.{all_pages, client_is, is_with_own, lent_reads, own_reads}
use Rattle.svga_client.proofs.FollowLaws.{limits_are}
use Rattle.svga_client.proofs.client.client_of_driver.Goals as goal

pub returns-clause-client : goal.returns-clause-client
returns-clause-client c = λ l client k o. client_is o

pub returns-clause-with_own : goal.returns-clause-with_own
returns-clause-with_own c = is_with_own

pub returns-clause-limits : goal.returns-clause-limits
returns-clause-limits c = λ l client k o. limits_are o

pub returns-clause-refused : goal.returns-clause-refused
returns-clause-refused c = λ l client k command o named. commit_judged o command named

pub returns-clause-own : goal.returns-clause-own
returns-clause-own c = λ l client k key bytes o own. own_reads o key bytes own

pub returns-clause-lent : goal.returns-clause-lent
returns-clause-lent c = λ l client k key o lent. lent_reads o key lent

pub returns-clause-all_pages : goal.returns-clause-all_pages
returns-clause-all_pages c = λ l client k all o lent own. all_pages o all lent own
