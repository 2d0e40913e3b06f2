use Rattle.svga_pixel.proofs.Pixels.{eight_words}
use Rattle.svga_pixel.proofs.lanes.words.Goals as goal

pub returns : goal.returns
returns c = eight_words c.args.bytes.now c.requires c.type_inv.bytes
