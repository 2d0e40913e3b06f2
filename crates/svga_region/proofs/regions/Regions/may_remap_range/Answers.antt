use Rattle.std.proofs.Common.{length, refl, sym, ap, ◌∙◌, arith, false, []}
use Rattle.svga_model.specs.Regions.{remap_tests}
use Rattle.svga_model.specs.Standing.{first_standing}
use Rattle.svga_region.proofs.DefineLaws.{remap_none, remap_beyond, remap_by_page}
use Rattle.svga_region.proofs.PlaceLaws.{read_flag}
use Rattle.svga_region.proofs.regions.Regions.may_remap_range.Goals as goal

pub returns-then-not-index : goal.returns-then-not-index
returns-then-not-index c =
    let slots = c.self.inside in
    let flags = c.self.invariant.2.flags in
    let flag = read_flag slots.defined.items c.args.id c.index.result.now (omega (arith, flags)) c.index.ensures ∙ c.if-not-index.true in
    sym (remap_none slots.guest slots.defined.items slots.lists.lists c.args.id c.args.offset c.args.pages [] (omega arith) flag)
    ∙ ap (λ r. first_standing (remap_tests r.guest r.regions c.args.id c.args.offset c.args.pages [])) c.self.view_is

pub returns-then-offset-pages : goal.returns-then-offset-pages
returns-then-offset-pages c =
    let slots = c.self.inside in
    let flags = c.self.invariant.2.flags in
    let flag = read_flag slots.defined.items c.args.id c.index.result.now (omega (arith, flags)) c.index.ensures ∙ c.if-not-index.false in
    sym (remap_beyond slots.guest slots.defined.items slots.lists.lists c.args.id c.args.offset c.args.pages [] (omega arith) flag
    (omega (arith, ap length c.list.ensures)))
    ∙ ap (λ r. first_standing (remap_tests r.guest r.regions c.args.id c.args.offset c.args.pages [])) c.self.view_is

pub returns : goal.returns
returns c =
    let slots = c.self.inside in
    let flags = c.self.invariant.2.flags in
    let flag = read_flag slots.defined.items c.args.id c.index.result.now (omega (arith, flags)) c.index.ensures ∙ c.if-not-index.false in
    sym (remap_by_page slots.guest slots.defined.items slots.lists.lists c.args.id c.args.offset c.args.pages [] false (omega arith) flag
    (omega (arith, ap length c.list.ensures)) refl)
    ∙ ap (λ r. first_standing (remap_tests r.guest r.regions c.args.id c.args.offset c.args.pages [])) c.self.view_is
