use Rattle.svga_client.proofs.MarkLaws.{mark_kept, mark_last, mark_unfenced, touching_is_none}
use Rattle.svga_client.proofs.marks.fences_behind.Goals as goal

pub returns-clause-last : goal.returns-clause-last
returns-clause-last c = mark_last

pub returns-clause-touching : goal.returns-clause-touching
returns-clause-touching c = touching_is_none

pub returns-clause-kept : goal.returns-clause-kept
returns-clause-kept c = mark_kept

pub returns-clause-unfenced : goal.returns-clause-unfenced
returns-clause-unfenced c = mark_unfenced
