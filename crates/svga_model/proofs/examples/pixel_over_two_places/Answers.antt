use Rattle.svga_model.proofs.WorkedSplit.{split_done, split_shown, twice}
use Rattle.svga_model.proofs.examples.pixel_over_two_places.Goals as goal

pub returns-clause-places : goal.returns-clause-places
returns-clause-places c = twice

pub returns-clause-colour : goal.returns-clause-colour
returns-clause-colour c = split_shown

pub returns-clause-admissible : goal.returns-clause-admissible
returns-clause-admissible c = split_done
