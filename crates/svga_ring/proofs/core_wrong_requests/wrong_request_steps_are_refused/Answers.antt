-- The sentence of a sound state that the step breaks.
use Rattle.std.proofs.Common.{ap, arith, get_or-set_other, refl, sym}
use Rattle.std.specs.FinMap as map
use Rattle.svga_ring.proofs.Pages.DeviceSteps.{held_noted}
use Rattle.svga_ring.proofs.Acts.InHand.{none_out}
use Rattle.svga_ring.proofs.Wrong.OnPages.{still_held}
use Rattle.svga_ring.proofs.Wrong.OnRequests.{not_behind, not_sent_ahead}
use Rattle.svga_ring.specs.Requests.{Request}
use Rattle.svga_ring.specs.SharedTable.{page_word, reply_word}
use Rattle.svga_ring.proofs.core_wrong_requests.wrong_request_steps_are_refused.Goals as goal

pub returns-clause-next_before_cell : goal.returns-clause-next_before_cell
returns-clause-next_before_cell c = not_sent_ahead

pub returns-clause-reserved_early : goal.returns-clause-reserved_early
returns-clause-reserved_early c = λ k core way some left. left.reserving.while_pending way some refl

pub returns-clause-ask_under_way : goal.returns-clause-ask_under_way
returns-clause-ask_under_way c = λ k core id first few left.
    let low = left.runs.chains_done core.driver.acts _ id first refl in omega (arith, few, low)

pub returns-clause-early_reply : goal.returns-clause-early_reply
returns-clause-early_reply c = λ k core key noted sound is same read held left.
    let before = sound.pages.each key is in
    let after = left.pages.each key is in
    let still = still_held (sound.pages.location key) (left.pages.location key) _ _ _ _ held before.held_is
    before.word_is
    (get_or-set_other core.words reply_word (page_word k.limits key) _ 0 (λ q. omega arith)) after.word_is
    after.held_is in
    let off = none_out core.driver.request core.device.wanted.number
    (ap (λ (r : Request). r.number) (sym same)) in
    not_behind read (λ out. cc (off, out)) (left.runs.noted_touched key
    (held_noted (map.get noted key) still))
