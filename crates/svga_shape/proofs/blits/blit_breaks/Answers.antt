-- A byte of a blit's pixels breaks a rule where one of the blit's part on some screen does.
use Rattle.std.proofs.Common.{◌∙◌}
use Rattle.std.specs.FinMap as map
use Rattle.svga_model.specs.Regions.{region_places}
use Rattle.svga_shape.proofs.BlitLaws.{blit_screens}
use Rattle.svga_shape.specs.Spans.{breaks}
use Rattle.svga_shape.proofs.blits.blit_breaks.Goals as goal

pub returns : goal.returns
returns c =
    let places = region_places c.args.regions.now.frame c.args.regions.now.regions c.args.gmrfb.now.region in
    c.screens_break.ensures
    ∙ blit_screens (breaks c.args.rule places) c.args.gmrfb.now c.args.blit.now (map.get c.args.screens.now.screens)
