use Rattle.std.proofs.Common.{◌≡◌, ◌+◌, ◌-◌, ◌∙◌, ap, sym, is_some, arith, length}
use borrow.Rule.Slice.PartMut.{put_mid}
use Rattle.std.specs.FinMap as map
use Rattle.svga_model.specs.Colours.{row_bytes}
use Rattle.svga_transfer.proofs.BackWrites.{length-row_bytes}
use Rattle.svga_transfer.proofs.ByteWrites.{piece_written}
use Rattle.svga_transfer.proofs.colours.write_there.Goals as goal

pub returns-clause-written : goal.returns-clause-written
returns-clause-written g c =
    let m = g.P.PageStore.pages c.args.store.now in
    let key = c.locate-key.result.0 in
    let count = c.args.count in
    let piece = row_bytes c.args.gmrfb.now.format c.args.colours.now in
    let size : length piece ≡ count = length-row_bytes c.args.gmrfb.now.format c.args.colours.now ∙ sym c.requires.count in
    let copied : c.locate-key.result.1 + count - c.locate-key.result.1 ≡ length piece = omega (arith, size) in
    let start = c.locate-key.ensures.start in
    let put = put_mid c.locate-key.result.1 (c.locate-key.result.1 + count - c.locate-key.result.1)
    c.bytes_mut-page.result.now c.write_row.new.bytes in
    g.met.P.PageStore.pages_with c.args.store.now key put (ap is_some c.page_mut.ensures.page)
    ∙ (λ i. map.insert m key
    (put_mid (start i) (copied i) (c.bytes_mut-page.ensures.bytes i) (c.write_row.ensures i)))
    ∙ sym (piece_written _ _ _ c.locate-key.ensures.page m _ piece
    (omega (arith, ap length c.bytes_mut-page.ensures.bytes, c.bytes_mut-page.ensures.length))
    (omega (arith, start, size, c.requires.one_page.1))
    c.page_mut.ensures.page)
