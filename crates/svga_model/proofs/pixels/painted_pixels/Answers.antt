use Rattle.svga_model.proofs.PaintedFirst.{alone, least}
use Rattle.svga_model.proofs.PaintedPixels.{covered_by_pixel, painted}
use Rattle.svga_model.proofs.pixels.painted_pixels.Goals as goal

pub returns-clause-painted : goal.returns-clause-painted
returns-clause-painted c = painted

pub returns-clause-covered : goal.returns-clause-covered
returns-clause-covered c = covered_by_pixel

pub returns-clause-least : goal.returns-clause-least
returns-clause-least c = least

pub returns-clause-alone : goal.returns-clause-alone
returns-clause-alone c = alone
