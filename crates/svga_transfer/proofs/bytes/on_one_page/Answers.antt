use Rattle.std.proofs.Common.{◌≡◌, ◌+◌, ◌-◌, ◌∙◌, ap, drop, take, arith, length}
use Rattle.svga_transfer.proofs.ByteReads.{piece_read}
use Rattle.svga_transfer.proofs.bytes.on_one_page.Goals as goal

pub returns : goal.returns
returns g c =
    let start = c.locate-key.result.1 in
    let at = c.locate-key.ensures.start in
    let copied : start + c.args.count - start ≡ c.args.count = omega arith in
    (λ i. take (copied i) (drop (at i) (c.bytes-page.ensures.bytes i)))
    ∙ piece_read _ _ _ _ _ _
    (omega (arith, ap length c.bytes-page.ensures.bytes, c.bytes-page.ensures.length))
    (omega (arith, at, c.is_on_one_page.ensures))
    c.locate-key.ensures.page c.page.ensures
