-- Each step keeps what is sound of words, with no help of what is sound of pages, requests and stopping.
use Rattle.std.proofs.Common.{refl, subst, arith, rules}
use Rattle.svga_cmd.specs.Pages.{IsKey}
use Rattle.svga_cmd.specs.declared.session.Session.{Session}
use Rattle.svga_model.proofs.PutLaws.{put_admissible}
use Rattle.svga_model.specs.Acts.{Put, Chain}
use Rattle.svga_ring.proofs.Requests.Asks.{asked_in}
use Rattle.svga_ring.proofs.Requests.Words.{words_store_reserved}
use Rattle.svga_ring.proofs.Steps.Beside.{words_act, words_asked, words_beside}
use Rattle.svga_ring.proofs.Steps.Joining.{words_join, words_split}
use Rattle.svga_ring.proofs.Steps.LoadsAndCells.{words_load_fence, words_load_next, words_load_stop}
use Rattle.svga_ring.proofs.Words.FenceOrder.{words_store_fence}
use Rattle.svga_ring.proofs.Words.Moves.{words_commit, words_load_cell, words_send_more, words_store_cell, words_store_stop}
use Rattle.svga_ring.specs.Conditions.{Can}
use Rattle.svga_ring.specs.Core.{Commit, Core, Event, Give, GiveBack, HeldSlotHome, HeldSlotOut, Hold, Join, LoadCell, LoadConfig, LoadFence, LoadNext, LoadReply, LoadRequest, LoadStop, SendMore, SlotHome, SlotOut, Split, StoreCell, StoreConfig, StoreFence, StoreReply, StoreRequest, StoreReserved, StoreStop, Take, TakeJoined, after}
use Rattle.svga_ring.specs.SharedTable.{config_word, page_word, reply_word, request_word}
use Rattle.svga_ring.specs.Sound.{IsSoundOfWords}
use Rattle.svga_ring.specs.Views.{Terms}

words_load_config : (k : Session) (c : Core) → IsSoundOfWords k c → IsSoundOfWords k (after LoadConfig c)
words_load_config k c o = search rules

pub words_event : (k : Session) (event : Event) (c : Core) → IsSoundOfWords k c → Can event c
    → IsSoundOfWords k (after event c)
words_event k Split c o can = words_split k c o can
words_event k LoadStop c o can = words_load_stop k c o
words_event k (StoreCell word) c o can = words_store_cell k c word o can
words_event k (Commit command) c o can = words_commit k c command o can
words_event k SendMore c o can = words_send_more k c o can
words_event k LoadNext c o can = words_load_next k c o
words_event k LoadCell c o can = words_load_cell k c o can
words_event k (StoreStop command) c o can = words_store_stop k c command o can
words_event k LoadFence c o can = words_load_fence k c o
words_event k (StoreFence value) c o can = words_store_fence k c value o can
words_event k (Give key bytes) c o can =
    let is = subst (λ (t : Terms). IsKey t.limits key) o.session.of_driver can.1.1 in
    words_beside (page_word c.driver.terms.limits key) 1 (omega arith)
    (words_act k c (Put key bytes) refl (is, can.1.2) (put_admissible _ key bytes) o)
words_event k (Take key) c o can = words_beside (page_word c.driver.terms.limits key) 3
    (omega arith) o
words_event k (SlotOut key) c o can = words_beside (page_word c.driver.terms.limits key) 3
    (omega arith) o
words_event k (SlotHome key) c o can = words_beside (page_word c.driver.terms.limits key) 0
    (omega arith) o
words_event k (Hold key act) c o can = words_beside (page_word c.device.terms.limits key) 4
    (omega arith) o
words_event k (GiveBack key bytes) c o can =
    words_beside (page_word c.device.terms.limits key) 1 (omega arith) o
words_event k (HeldSlotOut key) c o can = words_beside (page_word c.device.terms.limits key) 4
    (omega arith) o
words_event k (HeldSlotHome key) c o can = words_beside (page_word c.device.terms.limits key) 2
    (omega arith) o
words_event k (StoreReserved value) c o can = words_store_reserved k c value o
words_event k (StoreRequest id first) c o can =
    let asked = asked_in k c.driver.terms c.driver.acts id first c.driver.lent o.session.of_driver
    can.1.admissible
    can.1.pages_lent in
    words_beside request_word _ (omega arith) (words_asked (words_act k c (Chain id first) refl tt asked.0 o))
words_event k LoadReply c o can = words_asked o
words_event k LoadRequest c o can = words_asked o
words_event k StoreReply c o can = words_beside reply_word c.device.wanted.number (omega arith)
    (words_asked o)
words_event k StoreConfig c o can = words_beside config_word 0 (omega arith) o
words_event k LoadConfig c o can = words_load_config k c o
words_event k Join c o can = words_join k c o
words_event k (TakeJoined key) c o can = words_beside (page_word c.driver.terms.limits key) 3
    (omega arith) o
