-- The slots after a removal are those of the map without it.
use Rattle.std.proofs.Common.{◌≡◌, sym, ap, subst, ◌∙◌, None}
use Rattle.std.specs.FinMap as map
use Rattle.svga_model.specs.Screens.{destroy_screen_tests}
use Rattle.svga_model.specs.Standing.{first_standing}
use Rattle.svga_screen.proofs.DefinitionLaws.{are_screen_definitions, are_destroyed, screens_in-destroyed}
use Rattle.svga_screen.proofs.definitions.Definitions.destroy.Goals as goal

pub invariant_of-self : goal.invariant_of-self
invariant_of-self c = are_destroyed c.self.inside.budget c.self.inside.slots c.self.invariant c.args.id
    (subst (λ s. first_standing (destroy_screen_tests (map.get s.screens) c.args.id) ≡ None)
    (sym c.self.view_is) c.requires)

pub returns-clause-removed : goal.returns-clause-removed
returns-clause-removed c = ap (λ screens. record { budget = c.self.inside.budget; screens = screens })
    (screens_in-destroyed c.self.inside.budget c.self.inside.slots c.self.invariant c.args.id
    (subst (λ s. first_standing (destroy_screen_tests (map.get s.screens) c.args.id) ≡ None)
    (sym c.self.view_is) c.requires))
    ∙ ap (λ s. record { budget = s.budget; screens = map.remove s.screens c.args.id }) c.self.view_is

pub returns-clause-valid : goal.returns-clause-valid
returns-clause-valid c = are_screen_definitions c.self.inside.budget _ (invariant_of-self c)
