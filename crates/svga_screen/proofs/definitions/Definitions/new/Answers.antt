-- A new set has no definition, and its slots are empty.
use Rattle.std.proofs.Common.{ap}
use Rattle.svga_screen.proofs.DefinitionLaws.{are_screen_definitions, no_definitions, screens_in-none}
use Rattle.svga_screen.proofs.definitions.Definitions.new.Goals as goal

pub invariant_of-result : goal.invariant_of-result
invariant_of-result c = no_definitions c.args.budget

pub returns-clause-empty : goal.returns-clause-empty
returns-clause-empty c = ap (λ screens. record { budget = c.args.budget; screens = screens }) screens_in-none

pub returns-clause-valid : goal.returns-clause-valid
returns-clause-valid c = are_screen_definitions c.args.budget _ (no_definitions c.args.budget)
