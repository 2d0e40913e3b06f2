-- What the joined seat knows.
use Rattle.std.proofs.Common.{◌∙◌, ap, length, sym}
use Rattle.svga_model.specs.Fences.{fences, register_after}
use Rattle.svga_model.specs.Runs.{run}
use Rattle.svga_model.specs.States.{opening_state}
use Rattle.svga_ring.proofs.Steps.Joining.{joined_kept, joined_page, joined_page_known, joined_words}
use Rattle.svga_ring.specs.Committed.{commands}
use Rattle.svga_ring.specs.Views.{Terms}
use Rattle.svga_ring.proofs.core_closing.joined_seat_knows.Goals as goal

pub returns-clause-words : goal.returns-clause-words
returns-clause-words c = joined_words

pub returns-clause-kept : goal.returns-clause-kept
returns-clause-kept c = joined_kept

pub returns-clause-taken : goal.returns-clause-taken
returns-clause-taken c = joined_page

pub returns-clause-taken_by_view : goal.returns-clause-taken_by_view
returns-clause-taken_by_view c = joined_page_known

pub returns-clause-fence_by_view : goal.returns-clause-fence_by_view
returns-clause-fence_by_view c = λ k core o seats.
    (joined_words k core o seats).3
    ∙ ap (λ (t : Terms). register_after t.first (length (fences (commands core.driver.acts))))
    (sym o.of_words.session.of_driver)

pub returns-clause-kept_by_view : goal.returns-clause-kept_by_view
returns-clause-kept_by_view c = λ k core o seats.
    joined_kept k core o seats
    ∙ ap (λ (t : Terms). (run (opening_state t.limits t.first) core.driver.acts).kept)
    (sym o.of_words.session.of_driver)
