use Rattle.std.proofs.Common.{◌≡◌, ◌∙◌, sym, ap, subst, arith, [], ◌∷◌, Some, slice_index_or, slice_set}
use Rattle.std.specs.Prelude.{option_map}
use Rattle.svga_cmd.specs.declared.page.PageKey.TheVariants.{Guest}
use Rattle.svga_model.specs.Regions.{guest_places, remapped, with_remap}
use Rattle.svga_region.specs.Kept.{regions_of, chain_of, AreSlots}
use Rattle.svga_region.proofs.AllowedLaws.{place_flag, place_range}
use Rattle.svga_region.proofs.DefineLaws.{regions_of-remap, slots_kept}
use Rattle.svga_region.proofs.ListLaws.{length-remapped, put_one}
use Rattle.svga_region.proofs.regions.Regions.map_place.Goals as goal

pub set-requires-clause-present : goal.set-requires-clause-present
set-requires-clause-present c =
    let slots = c.self.inside in
    let view = ap (λ r. r.regions) c.self.view_is in
    place_range slots.defined.items slots.lists.lists c.args.self.now.regions c.args.id c.args.k view c.requires.id c.requires.there

-- the lists with the place
put : (c : goal.After-set) → c.set.new.self.lists ≡ slice_set c.self.inside.lists.lists c.args.id (remapped (slice_index_or c.self.inside.lists.lists c.args.id []) c.args.k (guest_places (c.args.page ∷ [])))
put c =
    let slots = c.self.inside in
    let view = ap (λ r. r.regions) c.self.view_is in
    let range = place_range slots.defined.items slots.lists.lists c.args.self.now.regions c.args.id c.args.k view c.requires.id c.requires.there in
    c.set.ensures.lists ∙ put_one slots.lists.lists c.args.id c.args.k (Some (Guest c.args.page)) (omega (arith, c.self.invariant.2.lists_count)) range

pub invariant_of-self : goal.invariant_of-self
invariant_of-self c =
    let slots = c.self.inside in
    let view = ap (λ r. r.regions) c.self.view_is in
    let regions = c.args.self.now.regions in
    let list = slice_index_or slots.lists.lists c.args.id [] in
    let news = guest_places (c.args.page ∷ []) in
    let flag = place_flag slots.defined.items slots.lists.lists regions c.args.id c.args.k view c.requires.id c.requires.there in
    let range = place_range slots.defined.items slots.lists.lists regions c.args.id c.args.k view c.requires.id c.requires.there in
    let same = length-remapped list c.args.k news (omega arith) in (
      c.self.invariant.0,
      c.self.invariant.1,
      subst (λ ls. AreSlots slots.defined.items ls) (sym (put c))
          (slots_kept slots.defined.items slots.lists.lists c.args.id (remapped list c.args.k news) (omega arith) flag same c.self.invariant.2),
      c.set.ensures.room ∙ c.self.invariant.3,
      c.self.invariant.4,
    )

pub returns : goal.returns
returns c =
    let slots = c.self.inside in
    let view = ap (λ r. r.regions) c.self.view_is in
    let flag = place_flag slots.defined.items slots.lists.lists c.args.self.now.regions c.args.id c.args.k view c.requires.id c.requires.there in
    let chain = option_map (chain_of slots.runs.items) slots.chain in
    let same = ap (regions_of slots.defined.items) (put c)
    ∙ regions_of-remap slots.defined.items slots.lists.lists c.args.id c.args.k (c.args.page ∷ []) (omega arith) c.self.invariant.2.flags c.self.invariant.2.lists_count flag in
    (λ i. record { guest = slots.guest; frame = slots.frame; regions = same i; chain = chain })
    ∙ ap (λ r. record { guest = r.guest; frame = r.frame; regions = with_remap r.regions c.args.id c.args.k (c.args.page ∷ []); chain = r.chain }) c.self.view_is
