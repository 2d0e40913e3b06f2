-- The pages of the places so far are marked.
use Rattle.svga.proofs.MappedLaws.{in_places}
use Rattle.svga.specs.Mapped.{AreMarked, defined_list}
use Rattle.svga.proofs.mapped.mark_region.Given as goal

abbrev pub invariant-loop-k : goal.invariant-loop-k
invariant-loop-k l = AreMarked (in_places (defined_list l.regions.regions l.id) l.k) l.initial.mapped l.mapped
