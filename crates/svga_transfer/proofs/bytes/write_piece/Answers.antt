use Rattle.std.proofs.Common.{◌≡◌, ◌+◌, ◌-◌, ◌∙◌, ap, sym, is_some, take, arith, length, length-take}
use borrow.Rule.Slice.PartMut.{put_mid}
use Rattle.std.specs.FinMap as map
use Rattle.svga_transfer.proofs.ByteWrites.{piece_written}
use Rattle.svga_transfer.proofs.bytes.write_piece.Goals as goal

pub returns-clause-written : goal.returns-clause-written
returns-clause-written g c =
    let m = g.P.PageStore.pages c.args.store.now in
    let key = c.locate-key.result.0 in
    let count = c.min-count.result in
    let piece = take count c.args.bytes.now in
    let size : length piece ≡ count = omega (arith, length-take count c.args.bytes.now, c.min-count.ensures) in
    let copied : c.locate-key.result.1 + count - c.locate-key.result.1 ≡ length piece = omega (arith, size) in
    let start = c.locate-key.ensures.start in
    let put = put_mid c.locate-key.result.1 (c.locate-key.result.1 + count - c.locate-key.result.1)
    c.bytes_mut-page.result.now c.copy_from_slice.new.self in
    g.met.P.PageStore.pages_with c.args.store.now key put (ap is_some c.page_mut.ensures.page)
    ∙ (λ i. map.insert m key
    (put_mid (start i) (copied i) (c.bytes_mut-page.ensures.bytes i) (c.copy_from_slice.ensures.after i)))
    ∙ sym (piece_written _ _ _ c.locate-key.ensures.page m _ piece
    (omega (arith, ap length c.bytes_mut-page.ensures.bytes, c.bytes_mut-page.ensures.length))
    (omega (arith, start, size, c.min-count.ensures, c.bytes_mut-page.ensures.length))
    c.page_mut.ensures.page)
