use Rattle.std.proofs.Common.{◌≡◌, ◌∙◌, ap, length, map, sym}
use Rattle.std.proofs.lemmas.Simd.{put_chunk_whole}
use Rattle.svga_cmd.specs.declared.format.Format.TheVariants.{Rgb555}
use Rattle.svga_model.specs.Colours.{colour_in_555, row_colours}
use Rattle.svga_pixel.proofs.Pixels.{colours_small}
use Rattle.svga_pixel.proofs.lanes.Rgb555Wide.read_eight.Goals as goal

pub returns-clause-colours : goal.returns-clause-colours
returns-clause-colours c =
    let is : c.colours_of_555.result ≡ row_colours Rgb555 8 c.args.bytes.now = c.colours_of_555.ensures ∙ ap (λ words. map colour_in_555 words) c.words.ensures in
    put_chunk_whole c.args.colours.now c.colours_of_555.result (c.requires.eight ∙ sym (ap length is)) ∙ is

pub returns-clause-in_range : goal.returns-clause-in_range
returns-clause-in_range c = rw (returns-clause-colours c) (colours_small Rgb555 c.args.bytes.now c.type_inv.bytes 8)
