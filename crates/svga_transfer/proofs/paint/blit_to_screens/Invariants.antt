-- The screens with lower ids have their new colours, and their areas are there.
use Rattle.std.proofs.Common.{◌≡◌, ℕ, ◌<◌, ◌≤◌, None}
use Rattle.std.specs.FinMap as map
use Rattle.svga_model.specs.BlitEffects.{blit_colour}
use Rattle.svga_model.specs.Memories.{region_byte}
use Rattle.svga_model.specs.Screens.{definitions_of}
use Rattle.svga_model.specs.Regions.{region_places}
use Rattle.svga_transfer.proofs.AreaLaws.{AreAreas}
use Rattle.svga_transfer.proofs.PaintScreens.{AreRepainted}
use Rattle.svga_transfer.proofs.paint.blit_to_screens.Given as goal

abbrev pub invariant-loop-id : goal.invariant-loop-id
invariant-loop-id g l =
    let places = region_places l.regions.frame l.regions.regions l.gmrfb.region in
    let colour = blit_colour (region_byte (g.P.PageStore.pages l.store) places) l.gmrfb l.blit in
    record {
      painted : AreRepainted colour l.id l.initial.screens l.screens;
      areas : AreAreas colour (definitions_of l.initial.screens.screens) l.id l.areas.items;
      ids : 0 < l.id → (q : ℕ) → 16 ≤ q → map.get l.initial.screens.screens q ≡ None;
    }
