use Rattle.svga_model.proofs.WorkedRemaps.{own_admissible, own_others, own_places, own_wide_places}
use Rattle.svga_model.proofs.examples.remap_of_its_own_numbers.Goals as goal

pub returns-clause-places : goal.returns-clause-places
returns-clause-places c = own_places

pub returns-clause-wide_places : goal.returns-clause-wide_places
returns-clause-wide_places c = own_wide_places

pub returns-clause-others : goal.returns-clause-others
returns-clause-others c = own_others

pub returns-clause-admissible : goal.returns-clause-admissible
returns-clause-admissible c = own_admissible
