-- Each session by its lemma.
use Rattle.svga_ring.proofs.Sessions.ChainRead.{with_chain}
use Rattle.svga_ring.proofs.Sessions.Closes.{can_close}
use Rattle.svga_ring.proofs.Sessions.PageServed.{page_served}
use Rattle.svga_ring.proofs.Sessions.Written.{by_reservation, can_ask, dword_by_dword}
use Rattle.svga_ring.proofs.core_sessions.sessions_happen.Goals as goal

pub returns-clause-by_reservation : goal.returns-clause-by_reservation
returns-clause-by_reservation c = by_reservation

pub returns-clause-dword_by_dword : goal.returns-clause-dword_by_dword
returns-clause-dword_by_dword c = dword_by_dword

pub returns-clause-with_chain : goal.returns-clause-with_chain
returns-clause-with_chain c = with_chain

pub returns-clause-region_goes : goal.returns-clause-region_goes
returns-clause-region_goes c = can_ask

pub returns-clause-closes : goal.returns-clause-closes
returns-clause-closes c = can_close

pub returns-clause-with_page : goal.returns-clause-with_page
returns-clause-with_page c = page_served
