use Rattle.std.proofs.Common.{◌∷◌, [], sym, ap, ◌∙◌, arith, length-append}
use Rattle.svga_link.specs.Ends.{DeviceSeen}
use Rattle.svga_link.specs.Told.{with_read}
use Rattle.svga_ring.specs.Core.{read_count}
use Rattle.svga_ring.specs.Views.{DeviceView}
use Rattle.svga_device.specs.Reading.{with_words}
use Rattle.svga_device.proofs.reading.read_command.Goals as goal

pub read_word-requires-clause-known : goal.read_word-requires-clause-known
read_word-requires-clause-known c =
    let same = ap (λ (d : DeviceSeen). d.view.next) c.loop-k.invariant.left in
    omega (arith, c.loop-k.invariant.read, same, c.known-count.ensures, c.loop-k-test.true)

pub loop-k-preserved : goal.loop-k-preserved
loop-k-preserved c =
    let first : DeviceSeen = c.args.end.now in
    let e : DeviceView = c.loop-k.end.view in
    let t = c.read_word.ensures.left in
    let read = ap (λ (d : DeviceSeen). d.view.read) t.1 in
    let count = ap (λ (d : DeviceSeen). read_count d.view) t.1 in
    record {
      left = t.1 ∙ ap (λ (d : DeviceSeen). record d { view = with_read d.view t.0 }) c.loop-k.invariant.left
          ∙ ap (λ ws. with_words first ws) (sym read);
      reading = c.read_word.ensures.more c.if-read_word.false;
      read = omega (arith, count, length-append e.read (t.0 ∷ []), c.loop-k.invariant.read);
    }
