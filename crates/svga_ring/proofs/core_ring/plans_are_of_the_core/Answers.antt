-- The ring of a sound core.
use Rattle.svga_ring.proofs.Sessions.TableWords.{opening_is_layout}
use Rattle.svga_ring.proofs.Words.Pieces.{address_is, advance_is, free_is, plan_means, ring_is}
use Rattle.svga_ring.proofs.core_ring.plans_are_of_the_core.Goals as goal

pub returns-clause-ring : goal.returns-clause-ring
returns-clause-ring c = ring_is

pub returns-clause-plan : goal.returns-clause-plan
returns-clause-plan c = λ k core bytes planned o. plan_means k core o bytes planned

pub returns-clause-free : goal.returns-clause-free
returns-clause-free c = free_is

pub returns-clause-advance : goal.returns-clause-advance
returns-clause-advance c = λ k core bytes o. advance_is k core o bytes

pub returns-clause-address : goal.returns-clause-address
returns-clause-address c = address_is

pub returns-clause-session : goal.returns-clause-session
returns-clause-session c = opening_is_layout
