use Rattle.std.proofs.Common.{◌≡◌, ap, ◌∙◌, ◌*◌, replicate, rules}
use Rattle.svga_head.proofs.picture.Picture.black.Goals as goal
use Rattle.svga_screen.proofs.PixelLaws.{rows_from-replicate}
use Rattle.svga_screen.specs.Kept.{rows_from}

pub returns : goal.returns
returns c =
    let all_black : c.in_ok-pixels.pixels.items ≡ replicate (c.args.width * c.args.height) 0 = search rules in
    ap (rows_from c.args.width c.args.height) all_black ∙ rows_from-replicate c.args.width c.args.height 0
