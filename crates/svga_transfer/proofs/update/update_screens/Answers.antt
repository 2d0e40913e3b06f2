use Rattle.std.proofs.Common.{◌≡◌, subst}
use Rattle.svga_model.specs.BlitEffects.{repainted_screens}
use Rattle.svga_model.specs.Screens.{definitions_of}
use Rattle.svga_transfer.specs.Areas.{ArePainted}
use Rattle.svga_transfer.proofs.UpdateColours.{same_colours}
use Rattle.svga_transfer.proofs.UpdateMapped.{update_is_mapped}
use Rattle.svga_transfer.proofs.update.update_screens.Goals as goal

pub blit_to_screens-requires-clause-mapped : goal.blit_to_screens-requires-clause-mapped
blit_to_screens-requires-clause-mapped g c =
    update_is_mapped (definitions_of c.args.screens.now.screens) c.args.regions.now.frame c.args.regions.now.regions
    c.args.limits c.args.extent.x c.args.extent.y c.args.extent.width c.args.extent.height
    c.frame_as_gmrfb-gmrfb.result c.update_as_blit-blit.result c.requires.frame c.frame_as_gmrfb-gmrfb.ensures
    c.update_as_blit-blit.ensures

pub returns-clause-painted : goal.returns-clause-painted
returns-clause-painted g c =
    let same = same_colours (g.P.PageStore.pages c.args.store.now) c.args.regions.now.frame c.args.regions.now.regions
    c.args.limits c.args.extent.x c.args.extent.y c.args.extent.width c.args.extent.height
    c.frame_as_gmrfb-gmrfb.result c.update_as_blit-blit.result c.frame_as_gmrfb-gmrfb.ensures
    c.update_as_blit-blit.ensures in
    subst (λ colour. c.blit_to_screens.new.screens ≡ record {
      budget = c.args.screens.now.budget;
      screens = repainted_screens colour c.args.screens.now.screens;
    }) same c.blit_to_screens.ensures.painted

pub returns-clause-areas : goal.returns-clause-areas
returns-clause-areas g c =
    let same = same_colours (g.P.PageStore.pages c.args.store.now) c.args.regions.now.frame c.args.regions.now.regions
    c.args.limits c.args.extent.x c.args.extent.y c.args.extent.width c.args.extent.height
    c.frame_as_gmrfb-gmrfb.result c.update_as_blit-blit.result c.frame_as_gmrfb-gmrfb.ensures
    c.update_as_blit-blit.ensures in
    subst (λ colour. ArePainted colour (definitions_of c.args.screens.now.screens) c.blit_to_screens.result.items) same
    c.blit_to_screens.ensures.areas
