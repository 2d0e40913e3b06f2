use Rattle.std.proofs.Common.{◌-◌, ◌≤◌, ◌∙◌, arith, drop, length, length-take, take}
use Rattle.svga_model.specs.Memories.{writes_from}
use Rattle.svga_transfer.proofs.ByteKeys.{written_bytes_keep}
use Rattle.svga_transfer.proofs.ByteWrites.{written_more}
use Rattle.svga_transfer.proofs.bytes.write_bytes.Goals as goal

pub write_piece-done-requires-clause-there : goal.write_piece-done-requires-clause-there
write_piece-done-requires-clause-there g c = λ i low high.
    let bytes = c.args.bytes.now in
    let done = c.loop-done.done in
    written_bytes_keep _ _ _ (writes_from c.args.from (take done bytes)) _ _ c.loop-done.invariant.pages
    c.requires.there i (omega (arith, low))
    (omega (arith, high, length-take (length bytes - done) (drop done bytes), c.loop-done.invariant.within))

pub loop-done-preserved : goal.loop-done-preserved
loop-done-preserved g c =
    let bytes = c.args.bytes.now in
    let done = c.loop-done.done in
    let left = take (length bytes - done) (drop done bytes) in
    let most : length left ≤ length bytes - done =
    omega (arith, length-take (length bytes - done) (drop done bytes)) in
    record {
      within = omega (arith, c.write_piece-done.ensures.count, most, c.loop-done.invariant.within);
      pages = written_more _ _ _ _ _ _ _ _ c.loop-done.invariant.within c.loop-done.invariant.pages
          c.write_piece-done.ensures.written;
      rest = c.write_piece-done.ensures.rest ∙ c.loop-done.invariant.rest;
    }
