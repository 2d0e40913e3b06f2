-- The definitions are those that the screens have.
use Rattle.std.proofs.Common.{◌∙◌}
use Rattle.svga_model.specs.Screens.{destroy_screen_tests}
use Rattle.svga_model.specs.Standing.{first_standing}
use Rattle.svga_screen.proofs.ScreenLaws.{as_kept}
use Rattle.svga_screen.proofs.screens.Screens.may_destroy.Goals as goal

pub returns : goal.returns
returns c = c.may_destroy.ensures
    ∙ as_kept c.self.inside.defs c.self.inside.pictures.lists c.self.inside.pictures.room c.args.self.now c.self.invariant c.self.view_is
    (λ budget defs. first_standing (destroy_screen_tests defs c.args.id))
