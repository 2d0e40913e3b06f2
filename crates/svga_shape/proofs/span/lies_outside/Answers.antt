-- A span lies outside where it begins below 0 or ends past the region's end.
use Rattle.std.proofs.Common.{◌≡◌, ◌*◌, ◌∙◌, length, sym, false, pos, ◌+ℤ◌, ◌*ℤ◌, int_lt, to_z, of_z, arith}
use Rattle.std.proofs.lemmas.Int.{ints}
use Rattle.std.specs.Int.{w128}
use Rattle.svga_model.specs.BlitFaults.{is_outside}
use Rattle.svga_shape.proofs.SpanLaws.{below, ends_past, no_bytes}
use Rattle.svga_shape.proofs.span.lies_outside.Goals as goal

pub returns-then-count-eq0 : goal.returns-then-count-eq0
returns-then-count-eq0 c = λ list e. sym (no_bytes (is_outside list) c.args.from c.args.count c.if-count-eq0.true)

pub returns-then-from-lt0 : goal.returns-then-from-lt0
returns-then-from-lt0 c = λ list e. sym (below list c.args.from c.args.count c.if-count-eq0.false (grind (arith, ints)))

pub returns-else-from-lt0 : goal.returns-else-from-lt0
returns-else-from-lt0 c = λ list e.
    let low : int_lt c.args.from (pos 0) ≡ false = grind (arith, ints) in
    let end : to_z w128 (of_z w128 c.end_of.result) ≡ c.args.from +ℤ pos c.args.count = omega (arith, ints) in
    let bytes : to_z w128 (of_z w128 (pos 4096 *ℤ to_z w128 (of_z w128 c.from.result))) ≡ pos (4096 * length list) =
    omega (arith, ints) in
    (λ i. int_lt (bytes i) (end i)) ∙ ends_past list c.args.from c.args.count c.if-count-eq0.false low
