-- What loads tell, by the sentences of a sound state.
use Rattle.std.proofs.Common.{◌≡◌, ◌∙◌, ap, length, slice_index, subst, sym}
use Rattle.svga_ring.proofs.Words.FenceOrder.{passed_in, seen_is}
use Rattle.svga_ring.proofs.Words.Told.{commands_told, next_tells, stop_tells}
use Rattle.svga_ring.proofs.Words.NextCommand.{well_formed}
use Rattle.svga_model.specs.Fences.{fences}
use Rattle.svga_ring.specs.Committed.{commands, fences_passed}
use Rattle.svga_ring.specs.Layouts.{word_address}
use Rattle.svga_ring.specs.Seen.{IsSeen}
use Rattle.svga_ring.specs.SharedTable.{fence_word}
use Rattle.svga_ring.specs.Views.{Terms}
use Rattle.svga_ring.proofs.core_loads.loads_tell.Goals as goal

pub returns-clause-stop : goal.returns-clause-stop
returns-clause-stop c = λ k core n sound least most e.
    let one : core.device.layout ≡ core.driver.layout = sym sound.session.one_layout in
    stop_tells sound.order sound.ring n least most (ap (λ lay. word_address lay n) one ∙ e)

pub returns-clause-passed : goal.returns-clause-passed
returns-clause-passed c = λ k core m sound within e.
    let all = well_formed k.limits core.driver.acts sound.acts.each in
    sym (commands_told (commands core.driver.acts) core.device.done m all sound.order.done_low within
    (sym (ap length sound.order.taken_whole) ∙ e))

pub returns-clause-next : goal.returns-clause-next
returns-clause-next c = λ k core n sound. next_tells sound.order sound.ring n

pub returns-clause-fence : goal.returns-clause-fence
returns-clause-fence c = λ k core j sound seen. seen_is sound.fences.window seen (passed_in sound)

pub returns-clause-fence_fits : goal.returns-clause-fence_fits
returns-clause-fence_fits c = λ k core sound. passed_in sound

pub returns-clause-fence_by_view : goal.returns-clause-fence_by_view
returns-clause-fence_by_view c = λ k core j sound seen.
    seen_is sound.fences.window
    (subst (λ (t : Terms). IsSeen t.first core.driver.seen (length (fences (commands core.driver.acts)))
    (slice_index core.words fence_word) j) sound.session.of_driver seen)
    (passed_in sound)

pub returns-clause-fence_fits_by_view : goal.returns-clause-fence_fits_by_view
returns-clause-fence_fits_by_view c = λ k core sound.
    subst (λ (t : Terms). IsSeen t.first core.driver.seen (length (fences (commands core.driver.acts)))
    (slice_index core.words fence_word)
    (fences_passed (commands core.driver.acts) core.device.done core.device.stored))
    (sym sound.session.of_driver)
    (passed_in sound)
