use Rattle.std.proofs.Common.{◌≡◌, ◌*◌, ◌∙◌, ap, length, sym}
use Rattle.std.proofs.lemmas.List.FromFn.{length-map-range_with_len}
use Rattle.svga_model.specs.Colours.{colour_of, pixel_at, pixel_length, row_colours}
use Rattle.svga_transfer.proofs.pixel_row.PixelRowFillU32.fill.Goals as goal

pub read_row-requires : goal.read_row-requires
read_row-requires c =
    let row = c.args.self.now in
    let many : length c.args.part.now ≡ row.count = c.requires ∙ length-map-range_with_len (λ k. colour_of row.format (pixel_at row.format row.bytes.now k)) 0 row.count in
    row.whole ∙ ap (λ n. n * pixel_length row.format) (sym many)

pub returns : goal.returns
returns c =
    let row = c.args.self.now in
    let many : length c.args.part.now ≡ row.count = c.requires ∙ length-map-range_with_len (λ k. colour_of row.format (pixel_at row.format row.bytes.now k)) 0 row.count in
    c.read_row.ensures.colours ∙ ap (λ n. row_colours row.format n row.bytes.now) many
