-- The slots after a definition are those of the map with it.
use Rattle.std.proofs.Common.{◌≡◌, sym, ap, subst, ◌∙◌, None}
use Rattle.std.specs.FinMap as map
use Rattle.svga_model.specs.Screens.{define_screen_tests}
use Rattle.svga_model.specs.Standing.{first_standing}
use Rattle.svga_screen.proofs.DefinitionLaws.{are_screen_definitions, are_defined, screens_in-defined}
use Rattle.svga_screen.proofs.definitions.Definitions.define.Goals as goal

pub invariant_of-self : goal.invariant_of-self
invariant_of-self c = are_defined c.self.inside.budget c.self.inside.slots c.self.invariant c.args.def.now
    (subst (λ s. first_standing (define_screen_tests s.budget (map.get s.screens) c.args.def.now) ≡ None)
    (sym c.self.view_is) c.requires)

pub returns-clause-defined : goal.returns-clause-defined
returns-clause-defined c = ap (λ screens. record { budget = c.self.inside.budget; screens = screens })
    (screens_in-defined c.self.inside.budget c.self.inside.slots c.self.invariant c.args.def.now
    (subst (λ s. first_standing (define_screen_tests s.budget (map.get s.screens) c.args.def.now) ≡ None)
    (sym c.self.view_is) c.requires))
    ∙ ap (λ s. record { budget = s.budget; screens = map.insert s.screens c.args.def.now.id c.args.def.now })
    c.self.view_is

pub returns-clause-valid : goal.returns-clause-valid
returns-clause-valid c = are_screen_definitions c.self.inside.budget _ (invariant_of-self c)
