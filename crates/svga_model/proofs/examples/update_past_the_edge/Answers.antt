use Rattle.svga_model.proofs.WorkedUpdate.{update_admissible, updated_definitions, updated_rows}
use Rattle.svga_model.proofs.examples.update_past_the_edge.Goals as goal

pub returns-clause-rows : goal.returns-clause-rows
returns-clause-rows c = λ s bytes small page. updated_rows s small bytes page

pub returns-clause-definitions : goal.returns-clause-definitions
returns-clause-definitions c = updated_definitions

pub returns-clause-admissible : goal.returns-clause-admissible
returns-clause-admissible c = update_admissible
