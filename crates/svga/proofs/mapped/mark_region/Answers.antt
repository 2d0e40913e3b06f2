use Rattle.std.proofs.Common.{◌≡◌, ◌∙◌, [], ap, length, slice_index_or, None, option_map, unwrap_or, arith}
use Rattle.svga.proofs.MappedLaws.{length_none, length_some, marked_all, marked_next, marked_nowhere, places_small}
use Rattle.svga.specs.Mapped.{defined_list}
use Rattle.svga_model.specs.Regions.{defined_places}
use Rattle.svga.proofs.mapped.mark_region.Goals as goal

pub loop-k-preserved : goal.loop-k-preserved
loop-k-preserved c =
    let regions = c.args.regions.now in
    let small = places_small regions.frame regions.regions c.args.id c.requires.id in
    let count = length_some (defined_places regions.regions c.args.id) c.in-Some.count
    (c.in-Some.ensures ∙ ap (option_map length) small) in
    marked_next c.args.mapped.now c.loop-k.mapped c.mark_place.new.mapped
    (defined_list regions.regions c.args.id) c.loop-k.k c.place.result
    c.loop-k.auto.mapped (omega (arith, count, c.loop-k-test.true))
    (c.place.ensures ∙ ap (λ o. slice_index_or (unwrap_or o []) c.loop-k.k None) small)
    c.loop-k.invariant c.mark_place.ensures

pub returns-after-loop-k : goal.returns-after-loop-k
returns-after-loop-k c =
    let regions = c.args.regions.now in
    let small = places_small regions.frame regions.regions c.args.id c.requires.id in
    let count = length_some (defined_places regions.regions c.args.id) c.in-Some.count
    (c.in-Some.ensures ∙ ap (option_map length) small) in
    marked_all c.args.mapped.now c.loop-k.mapped (defined_list regions.regions c.args.id) c.loop-k.k
    (omega (arith, count, c.loop-k-test.false)) c.loop-k.invariant

pub returns-in_default : goal.returns-in_default
returns-in_default c =
    let regions = c.args.regions.now in
    let small = places_small regions.frame regions.regions c.args.id c.requires.id in
    let none : None ≡ option_map length (defined_places regions.regions c.args.id) = let e =
    ap (option_map length) small in let f = c.length.ensures in cc in
    marked_nowhere c.args.mapped.now (defined_list regions.regions c.args.id)
    (length_none (defined_places regions.regions c.args.id) none)
