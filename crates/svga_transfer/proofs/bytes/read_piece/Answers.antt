use Rattle.std.proofs.Common.{◌≡◌, ◌+◌, ◌-◌, ◌∙◌, ◌++◌, ap, drop, take, arith, length}
use Rattle.svga_transfer.proofs.ByteReads.{piece_read}
use Rattle.svga_transfer.proofs.bytes.read_piece.Goals as goal

pub returns-clause-read : goal.returns-clause-read
returns-clause-read g c =
    let count = c.min-count.result in
    let start = c.locate-key.result.1 in
    let at = c.locate-key.ensures.start in
    let copied : start + count - start ≡ count = omega arith in
    ap (λ bytes. bytes ++ drop count c.args.bytes.now)
    (c.copy_from_slice.ensures.after
    ∙ (λ i. take (copied i) (drop (at i) (c.bytes-page.ensures.bytes i)))
    ∙ piece_read _ _ _ _ _ _
    (omega (arith, ap length c.bytes-page.ensures.bytes, c.bytes-page.ensures.length))
    (omega (arith, at, c.min-count.ensures, c.bytes-page.ensures.length))
    c.locate-key.ensures.page c.page.ensures)
