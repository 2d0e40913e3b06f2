use Rattle.std.proofs.Common.{length, sym, ap, ◌∙◌, arith}
use Rattle.svga_model.specs.Regions.{define_tests}
use Rattle.svga_model.specs.Standing.{first_standing}
use Rattle.svga_region.specs.Kept.{regions_of}
use Rattle.svga_region.proofs.DefineLaws.{place_count-slots, length_in-slot, define_over, define_within}
use Rattle.svga_region.proofs.AllowedLaws.{define_deleted}
use Rattle.svga_region.proofs.regions.Regions.may_define.Goals as goal

pub returns-then-rest-pages-clause-fault : goal.returns-then-rest-pages-clause-fault
returns-then-rest-pages-clause-fault c =
    let defined = c.self.inside.defined.items in
    let lists = c.self.inside.lists.lists in
    let slots = c.self.invariant.2 in
    let count = place_count-slots defined lists slots.lists_count slots.empty in
    let len = length_in-slot defined lists c.args.id (omega arith) slots.empty in
    sym (define_over (regions_of defined lists) c.args.id c.args.pages (omega arith)
    (omega (arith, count, len, c.total.ensures.total, ap length c.list.ensures)))
    ∙ ap (λ r. first_standing (define_tests r.regions c.args.id c.args.pages)) c.self.view_is

pub returns-clause-fault : goal.returns-clause-fault
returns-clause-fault c =
    let defined = c.self.inside.defined.items in
    let lists = c.self.inside.lists.lists in
    let slots = c.self.invariant.2 in
    let count = place_count-slots defined lists slots.lists_count slots.empty in
    let len = length_in-slot defined lists c.args.id (omega arith) slots.empty in
    sym (define_within (regions_of defined lists) c.args.id c.args.pages (omega arith)
    (omega (arith, count, len, c.total.ensures.total, ap length c.list.ensures)))
    ∙ ap (λ r. first_standing (define_tests r.regions c.args.id c.args.pages)) c.self.view_is

pub returns-then-rest-pages-clause-deletion : goal.returns-then-rest-pages-clause-deletion
returns-then-rest-pages-clause-deletion c = λ none.
    let slots = c.self.inside in
    let view = ap (λ r. r.regions) c.self.view_is in
    returns-then-rest-pages-clause-fault c
    ∙ define_deleted slots.defined.items slots.lists.lists c.args.self.now.regions c.args.id c.args.pages c.self.invariant.2 view none
