-- The slot of an id has what the map has there.
use Rattle.std.proofs.Common.{sym, ap, subst, ◌∙◌}
use Rattle.std.specs.FinMap as map
use Rattle.svga_model.proofs.TabulatedLaws.{get-tabulated_past}
use Rattle.svga_screen.proofs.DefinitionLaws.{are_screen_definitions, gets, slot_at}
use Rattle.svga_screen.specs.Definitions.{AreScreenDefinitions}
use Rattle.svga_screen.proofs.definitions.Definitions.def.Goals as goal

pub returns-then-id-lt16-clause-def : goal.returns-then-id-lt16-clause-def
returns-then-id-lt16-clause-def c = c.as_ref.ensures.value
    ∙ sym (gets c.self.inside.slots c.self.invariant.count c.args.id)
    ∙ ap (λ s. map.get s.screens c.args.id) c.self.view_is

pub returns-then-id-lt16-clause-valid : goal.returns-then-id-lt16-clause-valid
returns-then-id-lt16-clause-valid c = subst AreScreenDefinitions c.self.view_is
    (are_screen_definitions c.self.inside.budget c.self.inside.slots c.self.invariant)

pub returns-else-id-lt16-clause-def : goal.returns-else-id-lt16-clause-def
returns-else-id-lt16-clause-def c =
    sym (get-tabulated_past 16 (slot_at c.self.inside.slots) c.args.id c.if-id-lt16.false)
    ∙ ap (λ s. map.get s.screens c.args.id) c.self.view_is

pub returns-else-id-lt16-clause-valid : goal.returns-else-id-lt16-clause-valid
returns-else-id-lt16-clause-valid c = subst AreScreenDefinitions c.self.view_is
    (are_screen_definitions c.self.inside.budget c.self.inside.slots c.self.invariant)
