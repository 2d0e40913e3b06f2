use Rattle.std.proofs.Common.{ap, subst, sym, ◌∙◌}
use Rattle.svga_model.specs.Screens.{AreScreens, definitions_of}
use Rattle.svga_screen.proofs.ScreenLaws.{are_screens, definitions_of-screens_from}
use Rattle.svga_screen.proofs.screens.Screens.def.Goals as goal

pub returns-clause-def : goal.returns-clause-def
returns-clause-def c = c.def.ensures.def
    ∙ ap (λ defs. defs c.args.id)
    (sym (definitions_of-screens_from c.self.inside.defs c.self.inside.pictures.lists c.self.invariant.definitions))
    ∙ ap (λ r. definitions_of r.screens c.args.id) c.self.view_is

pub returns-clause-valid : goal.returns-clause-valid
returns-clause-valid c = subst (λ r. AreScreens r.budget r.screens) c.self.view_is
    (are_screens c.self.inside.defs c.self.inside.pictures.lists c.self.inside.pictures.room c.self.invariant)
