use Rattle.std.proofs.Common.{length, sym, ap, ◌∙◌, arith, true, false, Some}
use Rattle.std.specs.Prelude.{option_map}
use Rattle.svga_model.specs.Regions.{places_of}
use Rattle.svga_region.specs.Kept.{regions_of}
use Rattle.svga_region.proofs.PlaceLaws.{length-frame_places, places_of-frame, places_of-small, slot_is, read_flag}
use Rattle.svga_region.proofs.regions.Regions.length.Goals as goal

pub returns-then-id-eq-SVGA_GMR_FRAMEBUFFER : goal.returns-then-id-eq-SVGA_GMR_FRAMEBUFFER
returns-then-id-eq-SVGA_GMR_FRAMEBUFFER c =
    ap Some (sym (length-frame_places c.self.inside.frame)) ∙ ap (option_map length) (sym (places_of-frame c.self.inside.frame (regions_of c.self.inside.defined.items c.self.inside.lists.lists) c.args.id c.if-id-eq-SVGA_GMR_FRAMEBUFFER.true))
    ∙ ap (λ r. option_map length (places_of r.frame r.regions c.args.id)) c.self.view_is

pub returns-then-not-index : goal.returns-then-not-index
returns-then-not-index c =
    let flag = read_flag c.self.inside.defined.items c.args.id c.index.result.now (omega (arith, c.self.invariant.2.flags)) c.index.ensures in
    ap (option_map length) (sym (places_of-small c.self.inside.frame c.self.inside.defined.items c.self.inside.lists.lists c.args.id (omega arith) ∙ slot_is c.self.inside.defined.items c.self.inside.lists.lists c.args.id false (flag ∙ c.if-not-index.true)))
    ∙ ap (λ r. option_map length (places_of r.frame r.regions c.args.id)) c.self.view_is

pub returns-else-not-index : goal.returns-else-not-index
returns-else-not-index c =
    let flag = read_flag c.self.inside.defined.items c.args.id c.index.result.now (omega (arith, c.self.invariant.2.flags)) c.index.ensures in
    ap (λ xs. Some (length xs)) c.list.ensures
    ∙ ap (option_map length) (sym (places_of-small c.self.inside.frame c.self.inside.defined.items c.self.inside.lists.lists c.args.id (omega arith) ∙ slot_is c.self.inside.defined.items c.self.inside.lists.lists c.args.id true (flag ∙ c.if-not-index.false)))
    ∙ ap (λ r. option_map length (places_of r.frame r.regions c.args.id)) c.self.view_is
