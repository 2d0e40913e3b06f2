use Rattle.std.proofs.Common.{◌≡◌, ap, ◌∙◌, ◌*◌, replicate, rules, true}
use Rattle.std.specs.Prelude.{is_ok}
use Rattle.svga_head.proofs.PixelRows.{grown_from_nothing}
use Rattle.svga_head.proofs.picture.Picture.blacken.Goals as goal
use Rattle.svga_screen.proofs.PixelLaws.{rows_from-replicate}
use Rattle.svga_screen.specs.Kept.{rows_from}

pub returns-clause-ok : goal.returns-clause-ok
returns-clause-ok c =
    let has_room : is_ok c.resize.result ≡ true = search rules in
    let all_black : c.resize.new.self.items ≡ replicate (c.args.width * c.args.height) 0 =
    c.resize.ensures.items ∙ grown_from_nothing _ _ _ _ has_room c.clear.ensures.items c.clear.ensures.len in
    ap (rows_from c.args.width c.args.height) all_black ∙ rows_from-replicate c.args.width c.args.height 0
