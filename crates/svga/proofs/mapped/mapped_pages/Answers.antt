use Rattle.std.proofs.Common.{ap, subst, sym, ◌∙◌, length, replicate, false, arith}
use Rattle.svga_cmd.specs.declared.constants.TheConstants.{REGION_IDS}
use Rattle.svga.proofs.MappedLaws.{marked_mapped}
use Rattle.svga.specs.Mapped.{AreMapped, AreMarked, in_first}
use Rattle.svga_region.proofs.ChainLaws.{lent_whole}
use Rattle.svga.proofs.mapped.mapped_pages.Goals as goal

pub returns : goal.returns
returns c =
    let kept = c.args.machine.now.kept in
    let before = c.deref_mut.result.now in
    let falses = c.in_ok-mapped.ensures.items_if_clones_equal (λ y e. e) in
    let regions = ap (λ set. set.regions) c.regions.ensures.regions
    ∙ ap (λ shape. shape.regions) c.shape.ensures.shape in
    subst (AreMapped kept)
    (sym (lent_whole c.in_ok-mapped.mapped.items c.mark_regions.new.mapped c.in_ok-mapped.mapped.len
    c.in_ok-mapped.mapped.ok.0 (omega (arith, c.mark_regions.auto.mapped, ap length c.deref_mut.ensures.value))))
    (marked_mapped kept before c.mark_regions.new.mapped
    (c.deref_mut.ensures.value ∙ falses
    ∙ ap (λ l. replicate l.pages false) c.limits.ensures.limits) c.mark_regions.auto.mapped
    (subst (λ rs. AreMarked (in_first rs REGION_IDS) before c.mark_regions.new.mapped) regions c.mark_regions.ensures))
