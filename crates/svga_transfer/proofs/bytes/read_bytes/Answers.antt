use Rattle.std.proofs.Common.{◌-◌, ◌≤◌, arith, drop, length, length-take, take}
use Rattle.svga_transfer.proofs.ByteReads.{read_more}
use Rattle.svga_transfer.proofs.bytes.read_bytes.Goals as goal

pub loop-done-preserved : goal.loop-done-preserved
loop-done-preserved g c =
    let bytes = c.loop-done.bytes in
    let done = c.loop-done.done in
    let left = take (length bytes - done) (drop done bytes) in
    let most : length left ≤ length bytes - done =
    omega (arith, length-take (length bytes - done) (drop done bytes)) in
    record {
      within = omega (
        arith,
        c.read_piece-done.ensures.count,
        most,
        c.loop-done.auto.bytes,
        c.loop-done.invariant.within,
      );
      read = read_more _ _ _ _ _ _ _ c.loop-done.invariant.read c.read_piece-done.ensures.read;
    }
