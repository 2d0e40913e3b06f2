-- A remap by VIA_GMR is refused with the lesser of what its range and its reading are refused with.
use Rattle.std.proofs.Common.{◌≡◌, ◌∙◌, [], rules}
use Rattle.std.specs.Result.{result_err}
use Rattle.svga_model.specs.PointedNumbers.{pointed_by, pointer_tests}
use Rattle.svga_model.specs.Regions.{remap_tests}
use Rattle.svga_shape.proofs.JudgeRemaps.{pointer_least, range_least}
use Rattle.svga_shape.proofs.judging.may_remap_via.Goals as goal

pub returns-in_err-lesser-clause-fault : goal.returns-in_err-lesser-clause-fault
returns-in_err-lesser-clause-fault c =
    let guest = c.args.regions.now.guest in
    let frame = c.args.regions.now.frame in
    let regions = c.args.regions.now.regions in
    let at = pointed_by c.args.words c.args.pointer in
    let same : result_err c.from_residual.result ≡ result_err c.lesser.result = search rules in
    same ∙ c.lesser.ensures (remap_tests guest regions c.args.region c.args.offset c.args.pages [])
    (pointer_tests frame regions at c.args.pages)
    (c.may_remap_range-range.ensures ∙ range_least guest regions c.args.region c.args.offset c.args.pages [])
    (c.may_read.ensures ∙ pointer_least frame regions at c.args.pages)

pub returns-clause-fault : goal.returns-clause-fault
returns-clause-fault c =
    let guest = c.args.regions.now.guest in
    let frame = c.args.regions.now.frame in
    let regions = c.args.regions.now.regions in
    let at = pointed_by c.args.words c.args.pointer in
    c.in_ok-lesser.ensures {u = tt} (remap_tests guest regions c.args.region c.args.offset c.args.pages [])
    (pointer_tests frame regions at c.args.pages)
    (c.may_remap_range-range.ensures ∙ range_least guest regions c.args.region c.args.offset c.args.pages [])
    (c.may_read.ensures ∙ pointer_least frame regions at c.args.pages)
