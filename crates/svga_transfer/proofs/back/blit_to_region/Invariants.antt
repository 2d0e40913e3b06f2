-- What is left of the blit gives the whole of it.
use Rattle.std.proofs.Common.{◌≡◌, ◌≤ℤ◌}
use Rattle.std.specs.Int.{int_gap}
use Rattle.svga_model.specs.Memories.{written}
use Rattle.svga_model.specs.Regions.{region_places}
use Rattle.svga_transfer.specs.Backs.{writes_down}
use Rattle.svga_transfer.specs.Reach.{HasPages}
use Rattle.svga_transfer.proofs.back.blit_to_region.Given as goal

abbrev pub invariant-loop-from : goal.invariant-loop-from
invariant-loop-from g l =
    let places = region_places l.regions.frame l.regions.regions l.gmrfb.region in
    let left = writes_down l.screens.screens l.gmrfb l.blit in
    record {
      below : l.blit.rect.top ≤ℤ l.from;
      there : HasPages (g.P.PageStore.pages l.store) places;
      left : written places (g.P.PageStore.pages l.store) (left l.from l.blit.rect.bottom)
          ≡ written places (g.P.PageStore.pages l.initial.store) (left l.blit.rect.top l.blit.rect.bottom);
      rest : g.P.PageStore.rest l.store ≡ g.P.PageStore.rest l.initial.store;
    }

abbrev pub decreases-loop-from : goal.decreases-loop-from
decreases-loop-from g l = int_gap l.from l.blit.rect.bottom
