use Rattle.svga_pixel.proofs.Pixels.{four_pixels}
use Rattle.svga_pixel.proofs.lanes.four.Goals as goal

pub returns : goal.returns
returns c = four_pixels c.args.bytes.now _ c.requires c.type_inv.bytes
