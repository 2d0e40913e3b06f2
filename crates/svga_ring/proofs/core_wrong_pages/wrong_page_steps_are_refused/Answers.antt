-- The sentence of a sound state that the step breaks.
use Rattle.std.proofs.Common.{arith, get_or-set_other}
use Rattle.std.specs.FinMap as map
use Rattle.svga_ring.proofs.Pages.DeviceSteps.{held_noted}
use Rattle.svga_ring.proofs.Pages.Locations.{out_here}
use Rattle.svga_ring.proofs.Wrong.OnPages.{none_in_hand, still_held}
use Rattle.svga_ring.proofs.Acts.Settled.{all_before_chain}
use Rattle.svga_ring.specs.SharedTable.{page_word}
use Rattle.svga_ring.proofs.core_wrong_pages.wrong_page_steps_are_refused.Goals as goal

pub returns-clause-early_stop : goal.returns-clause-early_stop
returns-clause-early_stop c = λ k core command key noted sound is held left.
    let before = sound.pages.each key is in
    let after = left.pages.each key is in
    let still = still_held (sound.pages.location key) (left.pages.location key) _ _ _ _ held before.held_is
    before.word_is
    (get_or-set_other core.words 3 (page_word k.limits key) _ 0 (λ q. omega arith)) after.word_is
    after.held_is in
    none_in_hand (λ out.
    let last = sound.requests.out_is_last_chain out in
    let all = all_before_chain core.driver.request core.driver.acts core.device.done last
    sound.runs.chains_done in
    let more = left.of_words.order.done_low in
    omega (arith, all, more))
    (left.runs.noted_touched key (held_noted (map.get noted key) still))

pub returns-clause-any_fence : goal.returns-clause-any_fence
returns-clause-any_fence c = λ k core key n le touched left.
    let lent = left.clear.with_driver_free n key le touched in
    let out = out_here core.driver.lent key in
    cc (lent, out)
