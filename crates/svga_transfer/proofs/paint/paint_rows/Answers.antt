-- Row by row the area gets its new colours.
use Rattle.std.proofs.Common.{◌≡◌, ◌+◌, subst, to_z, of_z, w64, arith}
use Rattle.std.proofs.lemmas.Int.{ints}
use Rattle.svga_model.specs.BlitEffects.{blit_colour}
use Rattle.svga_model.specs.Memories.{region_byte}
use Rattle.svga_model.specs.Regions.{region_places}
use Rattle.svga_transfer.proofs.PaintScreen.{on_screen, row_bytes, row_within, rows_end, rows_more, rows_top}
use Rattle.svga_transfer.specs.Painting.{IsRepainted, above}
use Rattle.svga_transfer.proofs.paint.paint_rows.Goals as goal

pub loop-row-init : goal.loop-row-init
loop-row-init g c =
    let places = region_places c.args.regions.now.frame c.args.regions.now.regions c.args.gmrfb.now.region in
    let bytes = region_byte (g.P.PageStore.pages c.args.store.now) places in
    rows_top bytes c.args.gmrfb.now c.args.blit.now _ _ _ _ c.requires.valid c.requires.defined c.requires.area

pub paint_row-requires-clause-on_screen : goal.paint_row-requires-clause-on_screen
paint_row-requires-clause-on_screen g c =
    let places = region_places c.args.regions.now.frame c.args.regions.now.regions c.args.gmrfb.now.region in
    let bytes = region_byte (g.P.PageStore.pages c.args.store.now) places in
    on_screen bytes c.args.gmrfb.now c.args.blit.now _ _ _ _ c.requires.valid c.requires.defined c.requires.area _ _
    c.loop-row.row c.loop-row.invariant (omega arith)

pub first_byte-from-requires-clause-within : goal.first_byte-from-requires-clause-within
first_byte-from-requires-clause-within g c =
    row_within _ _ _ _ _ _ _ c.requires.valid c.requires.defined c.requires.area c.loop-row.row (omega arith)
    (omega arith) (to_z w64 (of_z w64 c.place-left.result)) (to_z w64 (of_z w64 c.place.result))
    (omega (arith, ints, c.corner_of-corner.ensures.x)) (omega (arith, ints, c.corner_of-corner.ensures.y)) _
    c.requires.mapped

pub paint_row-requires-clause-there : goal.paint_row-requires-clause-there
paint_row-requires-clause-there g c =
    row_bytes _ _ _ _ _ _ _ c.requires.valid c.requires.defined c.requires.area c.loop-row.row (omega arith)
    (omega arith) (to_z w64 (of_z w64 c.place-left.result)) (to_z w64 (of_z w64 c.place.result))
    (omega (arith, ints, c.corner_of-corner.ensures.x)) (omega (arith, ints, c.corner_of-corner.ensures.y)) _
    c.requires.mapped _ _ c.requires.there c.first_byte-from.ensures

pub loop-row-preserved : goal.loop-row-preserved
loop-row-preserved g c =
    rows_more _ _ _ _ _ _ _ c.requires.valid c.requires.defined c.requires.area c.loop-row.row (omega arith)
    (omega arith) (to_z w64 (of_z w64 c.place-left.result)) (to_z w64 (of_z w64 c.place.result))
    (omega (arith, ints, c.corner_of-corner.ensures.x)) (omega (arith, ints, c.corner_of-corner.ensures.y)) _
    c.requires.mapped c.loop-row.screens _ _ c.loop-row.invariant c.first_byte-from.ensures c.paint_row.ensures

pub returns : goal.returns
returns g c =
    let places = region_places c.args.regions.now.frame c.args.regions.now.regions c.args.gmrfb.now.region in
    let bytes = region_byte (g.P.PageStore.pages c.args.store.now) places in
    let colour = blit_colour bytes c.args.gmrfb.now c.args.blit.now c.args.area.screen in
    let end : c.loop-row.row ≡ c.args.area.top + c.args.area.height = omega arith in
    rows_end bytes c.args.gmrfb.now c.args.blit.now _ _ _ _ c.requires.valid c.requires.defined c.requires.area
    c.loop-row.screens (subst (λ y. IsRepainted (above y colour) c.args.area.screen c.args.screens.now
    c.loop-row.screens) end c.loop-row.invariant)
