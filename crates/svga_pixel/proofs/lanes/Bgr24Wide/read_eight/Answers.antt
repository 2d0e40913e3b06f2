use Rattle.std.proofs.Common.{◌≡◌, ◌∙◌, ap, drop, sym}
use Rattle.svga_cmd.specs.declared.format.Format.TheVariants.{Bgr24}
use Rattle.svga_model.specs.Colours.{row_colours}
use Rattle.svga_pixel.proofs.LanesOf.{eight_lanes}
use Rattle.svga_pixel.proofs.MorePixels.{rest_of, row_parts}
use Rattle.svga_pixel.proofs.Pixels.{colours_small}
use Rattle.svga_pixel.proofs.lanes.Bgr24Wide.read_eight.Goals as goal

pub returns-clause-colours : goal.returns-clause-colours
returns-clause-colours c =
    let bytes = c.args.bytes.now in
    let back : c.four-2.result ≡ row_colours Bgr24 4 (drop 12 bytes) = c.four-2.ensures ∙ ap (λ bs. row_colours Bgr24 4 bs) (rest_of bytes 12) in
    rw (c.four.ensures, back, eight_lanes c.args.colours.now c.requires.eight) (sym (row_parts Bgr24 bytes 4 4))

pub returns-clause-in_range : goal.returns-clause-in_range
returns-clause-in_range c = rw (returns-clause-colours c) (colours_small Bgr24 c.args.bytes.now c.type_inv.bytes 8)
