-- The pages of the regions so far are marked.
use Rattle.svga.specs.Mapped.{AreMarked, in_first}
use Rattle.svga.proofs.mapped.mark_regions.Given as goal

abbrev pub invariant-loop-id : goal.invariant-loop-id
invariant-loop-id l = AreMarked (in_first l.regions.regions l.id) l.initial.mapped l.mapped
