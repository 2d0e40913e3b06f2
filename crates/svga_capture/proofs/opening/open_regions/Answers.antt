use Rattle.std.proofs.Common.{◌+◌, ◌-◌, ap, ◌∙◌}
use Rattle.svga_region.specs.RegionSet.{RegionSet}
use Rattle.svga_capture.proofs.OpeningRegions.{left_next, next_left, regions_first, regions_last, regions_more}
use Rattle.svga_capture.proofs.opening.open_regions.Goals as goal

pub loop-init : goal.loop-init
loop-init c = regions_first c.args.bytes.now c.args.fields.now c.args.regions.now c.requires.fields c.requires.none

pub open_region-at-requires-clause-next : goal.open_region-at-requires-clause-next
open_region-at-requires-clause-next c =
    let count = c.args.fields.now.regions.count in
    next_left c.args.bytes.now (count - (c.loop.counter + 1)) c.loop.at c.loop.regions.guest c.loop.regions.regions
    (ap (λ (s : RegionSet). s.guest) c.loop.invariant.set ∙ c.requires.guest)
    (left_next c.args.bytes.now count c.loop.counter c.loop.at c.loop.regions.regions c.loop-test.true c.loop.invariant.left)

pub loop-preserved : goal.loop-preserved
loop-preserved c =
    let count = c.args.fields.now.regions.count in
    regions_more c.args.bytes.now (count - (c.loop.counter + 1)) c.loop.at c.open_region-at.result c.args.regions.now
    c.loop.regions c.open_region-at.new.regions
    (left_next c.args.bytes.now count c.loop.counter c.loop.at c.loop.regions.regions c.loop-test.true c.loop.invariant.left)
    c.loop.invariant.set c.open_region-at.ensures.opened c.open_region-at.ensures.end

pub returns : goal.returns
returns c =
    c.loop.invariant.set
    ∙ ap (λ m. record c.args.regions.now { regions = m })
    (regions_last c.args.bytes.now c.args.fields.now.regions.count c.loop.counter c.loop.at c.loop.regions.regions c.loop-test.false
    c.loop.invariant.left)
