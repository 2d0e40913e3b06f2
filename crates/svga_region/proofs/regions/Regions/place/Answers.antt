use Rattle.std.proofs.Common.{length, sym, ap, subst, ◌∙◌, arith, None, slice_index_or, unwrap_or, []}
use Rattle.svga_model.specs.Regions.{places_of}
use Rattle.svga_region.specs.Conditions.{HasPlace}
use Rattle.svga_region.specs.Kept.{regions_of}
use Rattle.svga_region.specs.RegionSet.{RegionSet}
use Rattle.svga_region.proofs.PlaceLaws.{place_below, place-small, place-frame, place_id}
use Rattle.svga_region.proofs.regions.Regions.place.Goals as goal

pub bounds-list-k : goal.bounds-list-k
bounds-list-k c =
    let P : RegionSet → Type 0 = λ r. HasPlace (places_of r.frame r.regions c.args.id) c.args.k in
    let has = subst P (sym c.self.view_is) c.requires in
    let small = place_id c.self.inside.frame (regions_of c.self.inside.defined.items c.self.inside.lists.lists) c.args.id c.args.k c.if-id-eq-SVGA_GMR_FRAMEBUFFER.false has in
    omega (arith, place_below c.self.inside.frame c.self.inside.defined.items c.self.inside.lists.lists c.args.id c.args.k small has, ap length c.list.ensures)

pub returns-then-id-eq-SVGA_GMR_FRAMEBUFFER : goal.returns-then-id-eq-SVGA_GMR_FRAMEBUFFER
returns-then-id-eq-SVGA_GMR_FRAMEBUFFER c =
    let P : RegionSet → Type 0 = λ r. HasPlace (places_of r.frame r.regions c.args.id) c.args.k in
    place-frame c.self.inside.frame (regions_of c.self.inside.defined.items c.self.inside.lists.lists) c.args.id c.args.k c.if-id-eq-SVGA_GMR_FRAMEBUFFER.true (subst P (sym c.self.view_is) c.requires)
    ∙ ap (λ r. slice_index_or (unwrap_or (places_of r.frame r.regions c.args.id) []) c.args.k None) c.self.view_is

pub returns-else-id-eq-SVGA_GMR_FRAMEBUFFER : goal.returns-else-id-eq-SVGA_GMR_FRAMEBUFFER
returns-else-id-eq-SVGA_GMR_FRAMEBUFFER c =
    let P : RegionSet → Type 0 = λ r. HasPlace (places_of r.frame r.regions c.args.id) c.args.k in
    let has = subst P (sym c.self.view_is) c.requires in
    let small = place_id c.self.inside.frame (regions_of c.self.inside.defined.items c.self.inside.lists.lists) c.args.id c.args.k c.if-id-eq-SVGA_GMR_FRAMEBUFFER.false has in
    ap (λ xs. slice_index_or xs c.args.k None) c.list.ensures
    ∙ place-small c.self.inside.frame c.self.inside.defined.items c.self.inside.lists.lists c.args.id c.args.k small has
    ∙ ap (λ r. slice_index_or (unwrap_or (places_of r.frame r.regions c.args.id) []) c.args.k None) c.self.view_is
