-- Each seat's steps, by its lemma.
use Rattle.svga_ring.proofs.Table.SeatSteps.{device_step, driver_step, joined_look, joined_step}
use Rattle.svga_ring.proofs.core_table.steps_are_allowed.Goals as goal

pub returns-clause-driver : goal.returns-clause-driver
returns-clause-driver c = driver_step

pub returns-clause-device : goal.returns-clause-device
returns-clause-device c = device_step

pub returns-clause-joined : goal.returns-clause-joined
returns-clause-joined c = joined_step

pub returns-clause-looks : goal.returns-clause-looks
returns-clause-looks c = joined_look
