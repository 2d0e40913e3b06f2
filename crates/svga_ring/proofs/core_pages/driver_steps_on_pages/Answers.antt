-- What lies in the slot, by its lemma.
use Rattle.svga_ring.proofs.Pages.DriverSteps.{gives_run, slot_empty, slot_empty_known, taken_known}
use Rattle.svga_ring.proofs.core_pages.driver_steps_on_pages.Goals as goal

pub returns-clause-taken : goal.returns-clause-taken
returns-clause-taken c = gives_run

pub returns-clause-taken_by_view : goal.returns-clause-taken_by_view
returns-clause-taken_by_view c = taken_known

pub returns-clause-empty : goal.returns-clause-empty
returns-clause-empty c = slot_empty

pub returns-clause-empty_by_view : goal.returns-clause-empty_by_view
returns-clause-empty_by_view c = slot_empty_known
