-- The bytes of a span that a region has are those from the nearest to its first up to the nearest to its end.
use Rattle.std.proofs.Common.{◌≡◌, ◌∙◌, ap, sym, pos, ◌+ℤ◌, int_le, to_z, of_z, arith}
use Rattle.std.proofs.lemmas.Int.{ints}
use Rattle.std.specs.Int.{w128}
use Rattle.svga_model.specs.Regions.{region_places}
use Rattle.svga_shape.proofs.SpanLaws.{between}
use Rattle.svga_shape.proofs.span.lies_on_unmapped.Goals as goal

pub returns : goal.returns
returns c =
    let places = region_places c.args.regions.now.frame c.args.regions.now.regions c.args.id in
    let from : to_z w128 (of_z w128 c.args.from) ≡ c.args.from = omega (arith, ints) in
    let end : to_z w128 (of_z w128 c.end_of.result) ≡ c.args.from +ℤ pos c.args.count = omega (arith, ints) in
    c.touches_unmapped.ensures
    ∙ between places c.args.from c.args.count c.nearest-first.result c.nearest-end.result (omega arith)
    (λ i l. ap (λ z. int_le z (pos i)) (sym from) ∙ c.nearest-first.ensures.same i (omega arith))
    (λ i l. ap (λ z. int_le z (pos i)) (sym end) ∙ c.nearest-end.ensures.same i (omega arith))
