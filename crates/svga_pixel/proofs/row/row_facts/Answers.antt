use Rattle.svga_pixel.proofs.Pixels.{colours_small}
use Rattle.svga_pixel.proofs.row.row_facts.Goals as goal

pub returns : goal.returns
returns c = record { in_range = colours_small c.args.format c.args.bytes.now c.type_inv.bytes c.args.count }
