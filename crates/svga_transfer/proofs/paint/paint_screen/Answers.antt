-- A screen of which no pixel gets a colour stays, and else its area is painted.
use Rattle.std.proofs.Common.{◌∙◌, ap, sym, subst, IsSomeAnd}
use Rattle.svga_model.specs.BlitEffects.{blit_colour}
use Rattle.svga_model.specs.Memories.{region_byte}
use Rattle.svga_model.specs.Screens.{IsDefinition, definitions_of}
use Rattle.svga_model.specs.Regions.{region_places}
use Rattle.svga_transfer.proofs.PaintScreen.{nothing_new}
use Rattle.svga_transfer.specs.Areas.{IsPainted}
use Rattle.svga_transfer.specs.Painting.{IsRepainted}
use Rattle.svga_transfer.proofs.paint.paint_screen.Goals as goal

pub returns-in_err-area-clause-painted : goal.returns-in_err-area-clause-painted
returns-in_err-area-clause-painted g c =
    let places = region_places c.args.regions.now.frame c.args.regions.now.regions c.args.gmrfb.now.region in
    let bytes = region_byte (g.P.PageStore.pages c.args.store.now) places in
    nothing_new (blit_colour bytes c.args.gmrfb.now c.args.blit.now c.args.id) c.args.id c.in_ok-def.field-0.now
    c.args.screens.now c.in_ok-def.ensures.valid (sym c.in_ok-def.ensures.def)
    (c.in_err-area.ensures.none bytes c.args.gmrfb.now)

pub paint_rows-requires-clause-definition : goal.paint_rows-requires-clause-definition
paint_rows-requires-clause-definition g c =
    let of_screen = c.in_ok-area.ensures.some (λ i. i) c.args.gmrfb.now in
    subst (λ id. IsDefinition id c.in_ok-def.field-0.now) (sym of_screen.0) c.in_ok-def.ensures.shaped

pub paint_rows-requires-clause-defined : goal.paint_rows-requires-clause-defined
paint_rows-requires-clause-defined g c =
    let of_screen = c.in_ok-area.ensures.some (λ i. i) c.args.gmrfb.now in
    ap (definitions_of c.args.screens.now.screens) of_screen.0 ∙ sym c.in_ok-def.ensures.def

pub paint_rows-requires-clause-area : goal.paint_rows-requires-clause-area
paint_rows-requires-clause-area g c =
    let places = region_places c.args.regions.now.frame c.args.regions.now.regions c.args.gmrfb.now.region in
    let bytes = region_byte (g.P.PageStore.pages c.args.store.now) places in
    let of_screen = c.in_ok-area.ensures.some bytes c.args.gmrfb.now in
    let d = c.in_ok-def.field-0.now in
    subst (λ id. IsPainted (blit_colour bytes c.args.gmrfb.now c.args.blit.now id d) d c.in_ok-area.area)
    (sym of_screen.0) of_screen.1

pub returns-clause-painted : goal.returns-clause-painted
returns-clause-painted g c =
    let places = region_places c.args.regions.now.frame c.args.regions.now.regions c.args.gmrfb.now.region in
    let bytes = region_byte (g.P.PageStore.pages c.args.store.now) places in
    let of_screen = c.in_ok-area.ensures.some bytes c.args.gmrfb.now in
    subst (λ id. IsRepainted (blit_colour bytes c.args.gmrfb.now c.args.blit.now id) id c.args.screens.now
    c.paint_rows.new.screens) of_screen.0 c.paint_rows.ensures

pub returns-clause-some : goal.returns-clause-some
returns-clause-some g c =
    let places = region_places c.args.regions.now.frame c.args.regions.now.regions c.args.gmrfb.now.region in
    let bytes = region_byte (g.P.PageStore.pages c.args.store.now) places in
    let of_screen = c.in_ok-area.ensures.some bytes c.args.gmrfb.now in
    let colour = blit_colour bytes c.args.gmrfb.now c.args.blit.now c.args.id in (
      of_screen.0,
      subst (λ o. IsSomeAnd o (λ d. IsPainted (colour d) d c.in_ok-area.area)) c.in_ok-def.ensures.def
          of_screen.1,
    )
