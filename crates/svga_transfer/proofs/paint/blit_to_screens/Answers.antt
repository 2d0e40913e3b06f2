-- Screen by screen the new colours are shown, and the areas named.
use Rattle.std.proofs.Common.{◌≡◌, ◌∙◌, ℕ, ◌+◌, ◌++◌, ◌<◌, [], ◌∷◌, ap, sym, subst, IsSomeAnd, None, Some, arith}
use Rattle.svga_cmd.specs.declared.screen.ScreenDef.{ScreenDef}
use Rattle.svga_model.specs.BlitEffects.{blit_colour}
use Rattle.svga_model.specs.Memories.{region_byte}
use Rattle.svga_model.specs.Screens.{definitions_of}
use Rattle.svga_model.specs.Regions.{region_places}
use Rattle.svga_transfer.proofs.AreaLaws.{AreAreas, more_areas, same_areas}
use Rattle.svga_transfer.proofs.PaintScreens.{AreRepainted, all_repainted, one_more, same_definitions}
use Rattle.svga_transfer.specs.Areas.{IsPainted}
use Rattle.svga_transfer.proofs.paint.blit_to_screens.Goals as goal
use Rattle.svga_transfer.proofs.paint.blit_to_screens.Goals.{in-Some, in_default}

pub loop-id-preserved : goal.loop-id-preserved
loop-id-preserved g c =
    let places = region_places c.args.regions.now.frame c.args.regions.now.regions c.args.gmrfb.now.region in
    let colour = blit_colour (region_byte (g.P.PageStore.pages c.args.store.now) places) c.args.gmrfb.now
    c.args.blit.now in
    let old = c.args.screens.now in
    let id = c.loop-id.id in
    let before = c.loop-id.invariant in
    let same = same_definitions colour old id c.loop-id.screens before.painted in
    record {
      painted = one_more colour old id c.loop-id.screens c.paint_screen.new.screens before.painted
          c.paint_screen.ensures.painted;
      areas = elim c.match-paint_screen.branch
          as (λ _. AreAreas colour (definitions_of old.screens) (id + 1) c.match-paint_screen.areas.items) [
            | in-Some w ↦
                let area = w.in-Some.area in
                let of_screen = w.in-Some.ensures.some in
                let painted = subst (λ definitions. IsSomeAnd (definitions id) (λ d. IsPainted (colour id d) d area))
                same of_screen.1 in
                let items : c.match-paint_screen.areas.items ≡ c.loop-id.areas.items ++ area ∷ [] =
                ap (λ v. v.items) w.areas-is ∙ w.push.ensures.items in
                subst (AreAreas colour (definitions_of old.screens) (id + 1)) (sym items)
                (more_areas colour (definitions_of old.screens) id c.loop-id.areas.items before.areas area of_screen.0
                painted)
            | in_default w ↦
                let none = subst (λ definitions. (d : ScreenDef) (x y : ℕ) → definitions id ≡ Some d → x < d.width
                → y < d.height → colour id d x y ≡ None) same w.in_default.ensures.none in
                subst (λ v. AreAreas colour (definitions_of old.screens) (id + 1) v.items) (sym w.areas-is)
                (same_areas colour (definitions_of old.screens) id c.loop-id.areas.items before.areas none)
          ];
      ids = λ l q high. sym (before.painted.from q (omega arith)) ∙ c.paint_screen.ensures.ids q high;
    }

pub returns-clause-painted : goal.returns-clause-painted
returns-clause-painted g c =
    let places = region_places c.args.regions.now.frame c.args.regions.now.regions c.args.gmrfb.now.region in
    let colour = blit_colour (region_byte (g.P.PageStore.pages c.args.store.now) places) c.args.gmrfb.now
    c.args.blit.now in
    let old = c.args.screens.now in
    let end : c.loop-id.id ≡ 16 = omega arith in
    all_repainted colour old (c.loop-id.invariant.ids (omega arith)) c.loop-id.screens
    (subst (λ n. AreRepainted colour n old c.loop-id.screens) end c.loop-id.invariant.painted)
