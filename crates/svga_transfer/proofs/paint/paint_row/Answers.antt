-- The colours of the bytes that are shown.
use Rattle.std.proofs.Common.{◌≡◌, ◌*◌, ◌∙◌, ap, length, map as map_list, subst, sym}
use Rattle.std.proofs.lemmas.List.FromFn.{length-map-range_with_len}
use Rattle.std.specs.List.{range_with_len}
use Rattle.svga_model.specs.Colours.{colour_of, pixel_at, row_colours}
use Rattle.svga_model.specs.Screens.{IsOnScreen, definitions_of, painted}
use Rattle.svga_transfer.proofs.PaintBytes.{colours_read}
use Rattle.svga_transfer.specs.Painting.{colours_from}
use Rattle.svga_transfer.specs.Reach.{byte_in}
use Rattle.svga_transfer.proofs.paint.paint_row.Goals as goal

pub row_facts-requires : goal.row_facts-requires
row_facts-requires g c =
    let bytes = byte_in (g.P.PageStore.pages c.args.store.now) c.args.regions.now c.args.gmrfb.now.region in
    ap length c.bytes_together-bytes.ensures
    ∙ length-map-range_with_len bytes c.args.from (c.args.area.width * c.pixel_length.result)
    ∙ ap (λ n. c.args.area.width * n) c.pixel_length.ensures

pub invariant_of-pixels : goal.invariant_of-pixels
invariant_of-pixels g c =
    let bytes = byte_in (g.P.PageStore.pages c.args.store.now) c.args.regions.now c.args.gmrfb.now.region in
    record {
      whole = ap length c.bytes_together-bytes.ensures
          ∙ length-map-range_with_len bytes c.args.from (c.args.area.width * c.pixel_length.result)
          ∙ ap (λ n. c.args.area.width * n) c.pixel_length.ensures;
    }

pub fill-requires-clause-count : goal.fill-requires-clause-count
fill-requires-clause-count g c =
    let format = c.args.gmrfb.now.format in
    sym (length-map-range_with_len (λ k. colour_of format (pixel_at format c.bytes_together-bytes.result.now k)) 0 c.args.area.width)

pub fill-requires-clause-on_screen : goal.fill-requires-clause-on_screen
fill-requires-clause-on_screen g c =
    let format = c.args.gmrfb.now.format in
    subst (λ n. IsOnScreen (definitions_of c.args.screens.now.screens c.args.area.screen) c.args.area.left c.args.row n)
    (sym (length-map-range_with_len (λ k. colour_of format (pixel_at format c.bytes_together-bytes.result.now k)) 0 c.args.area.width))
    c.requires.on_screen

pub returns : goal.returns
returns g c =
    let screens = c.args.screens.now in
    let format = c.args.gmrfb.now.format in
    let width = c.args.area.width in
    let bytes = byte_in (g.P.PageStore.pages c.args.store.now) c.args.regions.now c.args.gmrfb.now.region in
    let colours : row_colours format width c.bytes_together-bytes.result.now ≡ colours_from bytes format c.args.from width =
    ap (λ read. row_colours format width read) (c.bytes_together-bytes.ensures ∙ ap (λ n. map_list bytes (range_with_len c.args.from (width * n))) c.pixel_length.ensures)
    ∙ colours_read format bytes c.args.from width in
    c.fill.ensures
    ∙ ap (λ shown. record { budget = screens.budget; screens = painted screens.screens c.args.area.screen c.args.area.left c.args.row shown }) colours
