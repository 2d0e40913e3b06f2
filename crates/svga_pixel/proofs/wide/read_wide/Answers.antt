use Rattle.std.proofs.Common.{◌≡◌, ◌+◌, ◌-◌, ◌∙◌, ◌++◌, ◌<◌, ap, arith, drop, length, length-drop, length-take, refl, take}
use borrow.Rule.Slice.PartMut.{put_mid}
use Rattle.std.proofs.lemmas.List.Elements.{All-append}
use Rattle.std.proofs.lemmas.Slice.{take-put_mid}
use Rattle.svga_cmd.specs.declared.constants.TheConstants.{COLOURS}
use Rattle.svga_model.specs.Colours.{row_colours}
use Rattle.svga_pixel.proofs.MorePixels.{colours_of_rest, length_put, put_tail}
use Rattle.svga_pixel.proofs.wide.read_wide.Goals as goal

pub loop-k-preserved : goal.loop-k-preserved
loop-k-preserved g c =
    let k = c.loop-k.k in
    let colours = c.loop-k.colours in
    let eight = c.read_eight.new.colours in
    let many : length eight ≡ 8 = ap length c.read_eight.ensures.colours in
    let whole : length (put_mid k (k + 8 - k) colours eight) ≡ length colours = length_put k (k + 8 - k) colours eight (omega arith) (omega (arith, many)) in
    let front : take (k + 8) (put_mid k (k + 8 - k) colours eight) ≡ take k colours ++ eight = take-put_mid k (k + 8 - k) colours eight (k + 8) (omega (arith, many)) c.loop-k.invariant.within in
    record {
      within = omega (arith, whole);
      length = whole ∙ c.loop-k.invariant.length;
      colours = front
          ∙ ap (λ xs. xs ++ eight) c.loop-k.invariant.colours
          ∙ colours_of_rest g.L.Layout.format c.args.bytes.now eight k c.length-length.result 8 8 c.length-length.ensures refl c.read_eight.ensures.colours;
      in_range = rw front (All-append (λ c. c < COLOURS) (take k colours) eight c.loop-k.invariant.in_range c.read_eight.ensures.in_range);
    }

pub returns-clause-colours : goal.returns-clause-colours
returns-clause-colours g c =
    let k = c.loop-k.k in
    let colours = c.loop-k.colours in
    let format = g.L.Layout.format in
    let count : length (take (length colours - k) (drop k colours)) ≡ length colours - k = omega (arith, length-take (length colours - k) (drop k colours), length-drop k colours) in
    put_tail k colours c.read.new.colours
    ∙ ap (λ xs. xs ++ c.read.new.colours) c.loop-k.invariant.colours
    ∙ colours_of_rest format c.args.bytes.now c.read.new.colours k c.length-length.result _ (length colours - k) c.length-length.ensures count c.read.ensures.colours
    ∙ ap (λ n. row_colours format n c.args.bytes.now) (omega (arith, c.loop-k.invariant.length, c.loop-k.invariant.within))
