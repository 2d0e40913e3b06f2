-- The rows above the one that comes next have their new colours.
use Rattle.svga_model.specs.BlitEffects.{blit_colour}
use Rattle.svga_model.specs.Memories.{region_byte}
use Rattle.svga_model.specs.Regions.{region_places}
use Rattle.svga_transfer.specs.Painting.{IsRepainted, above}
use Rattle.svga_transfer.proofs.paint.paint_rows.Given as goal

abbrev pub invariant-loop-row : goal.invariant-loop-row
invariant-loop-row g l =
    let places = region_places l.regions.frame l.regions.regions l.gmrfb.region in
    let colour = blit_colour (region_byte (g.P.PageStore.pages l.store) places) l.gmrfb l.blit l.area.screen in
    IsRepainted (above l.row colour) l.area.screen l.initial.screens l.screens
