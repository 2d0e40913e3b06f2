-- The definitions are those that the screens have.
use Rattle.std.proofs.Common.{◌∙◌}
use Rattle.svga_model.specs.Screens.{define_screen_tests}
use Rattle.svga_model.specs.Standing.{first_standing}
use Rattle.svga_screen.proofs.ScreenLaws.{as_kept}
use Rattle.svga_screen.proofs.screens.Screens.may_define.Goals as goal

pub returns : goal.returns
returns c = c.may_define.ensures
    ∙ as_kept c.self.inside.defs c.self.inside.pictures.lists c.self.inside.pictures.room c.args.self.now c.self.invariant c.self.view_is
    (λ budget defs. first_standing (define_screen_tests budget defs c.args.def.now))
