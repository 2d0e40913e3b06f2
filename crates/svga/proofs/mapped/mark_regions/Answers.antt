use Rattle.std.proofs.Common.{◌≡◌, subst, arith}
use Rattle.svga.proofs.MappedLaws.{marked_begin, marked_region}
use Rattle.svga.specs.Mapped.{AreMarked, in_first}
use Rattle.svga.proofs.mapped.mark_regions.Goals as goal

pub loop-id-init : goal.loop-id-init
loop-id-init c = marked_begin c.args.mapped.now c.args.regions.now.regions

pub loop-id-preserved : goal.loop-id-preserved
loop-id-preserved c = marked_region c.args.mapped.now c.loop-id.mapped c.mark_region.new.mapped
    c.args.regions.now.regions c.loop-id.id
    c.loop-id.auto.mapped c.loop-id.invariant c.mark_region.ensures

pub returns : goal.returns
returns c =
    let all : c.loop-id.id ≡ c.args.count = omega arith in
    subst (λ n. AreMarked (in_first c.args.regions.now.regions n) c.args.mapped.now c.loop-id.mapped) all
    c.loop-id.invariant
