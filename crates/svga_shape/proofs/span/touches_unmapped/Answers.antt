-- The places that bytes lie on are all from the first's up to the last's.
use Rattle.std.proofs.Common.{◌∙◌, arith}
use Rattle.svga_model.specs.Regions.{region_places}
use Rattle.svga_shape.proofs.SpanLaws.{touched}
use Rattle.svga_shape.proofs.span.touches_unmapped.Goals as goal

pub returns : goal.returns
returns c =
    let places = region_places c.args.regions.now.frame c.args.regions.now.regions c.args.id in
    c.has_unmapped.ensures ∙ touched places c.args.first c.args.end (omega arith)
