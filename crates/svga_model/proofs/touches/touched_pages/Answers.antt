use Rattle.svga_model.proofs.TouchLaws.{other_pages, same_fault, same_kept, same_pages, same_touches}
use Rattle.svga_model.proofs.touches.touched_pages.Goals as goal

pub returns-clause-fault : goal.returns-clause-fault
returns-clause-fault c = same_fault

pub returns-clause-touched : goal.returns-clause-touched
returns-clause-touched c = same_touches

pub returns-clause-kept : goal.returns-clause-kept
returns-clause-kept c = same_kept

pub returns-clause-pages : goal.returns-clause-pages
returns-clause-pages c = same_pages

pub returns-clause-others : goal.returns-clause-others
returns-clause-others c = other_pages
