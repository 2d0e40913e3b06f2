-- The sentence of a sound state that the step breaks.
use Rattle.std.proofs.Common.{◌≤◌, length, arith}
use Rattle.svga_ring.proofs.Words.FenceOrder.{stored_is_read}
use Rattle.svga_ring.proofs.Words.NextCommand.{well_formed}
use Rattle.svga_ring.proofs.Wrong.OnWords.{not_in_ring, read_whole}
use Rattle.svga_ring.proofs.core_wrong.wrong_steps_are_refused.Goals as goal

pub returns-clause-past_max : goal.returns-clause-past_max
returns-clause-past_max c = λ k core word sound past other left.
    let order = sound.order in
    let behind : length core.device.taken ≤ length core.driver.sent =
    omega (arith, order.read_known, order.known_sent) in
    not_in_ring core.driver sound.session.one_layout sound.session.layout sound.ring behind past other
    left.ring

pub returns-clause-early_start : goal.returns-clause-early_start
returns-clause-early_start c = λ k core claimed sound none left.
    let read = read_whole (well_formed k.limits core.driver.acts sound.acts.each) sound.order left.order in
    none read.0 read.1

pub returns-clause-early_fence : goal.returns-clause-early_fence
returns-clause-early_fence c = λ k core value sound none left. none (stored_is_read sound left.fences)
