-- What lies in the slot, by its lemma.
use Rattle.std.specs.FinMap as map
use Rattle.svga_ring.proofs.Pages.DeviceSteps.{held_noted, held_slot_empty, held_slot_empty_known, hold_finds, hold_finds_known}
use Rattle.svga_ring.proofs.core_pages.device_steps_on_pages.Goals as goal

pub returns-clause-found : goal.returns-clause-found
returns-clause-found c = hold_finds

pub returns-clause-found_by_view : goal.returns-clause-found_by_view
returns-clause-found_by_view c = hold_finds_known

pub returns-clause-empty : goal.returns-clause-empty
returns-clause-empty c = held_slot_empty

pub returns-clause-empty_by_view : goal.returns-clause-empty_by_view
returns-clause-empty_by_view c = held_slot_empty_known

pub returns-clause-touched : goal.returns-clause-touched
returns-clause-touched c = λ k core key o held.
    o.runs.noted_touched key (held_noted (map.get core.device.noted key) held)
