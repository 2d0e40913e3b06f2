use Rattle.std.proofs.Common.{sym, ap, subst, ◌∙◌, arith, slice_index_or, []}
use Rattle.std.specs.Prelude.{option_map}
use Rattle.svga_cmd.specs.Lent.{entries_of}
use Rattle.svga_model.specs.Regions.{guest_places, named_pages, range_pages, remapped, with_remap}
use Rattle.svga_region.specs.Kept.{regions_of, chain_of, AreSlots}
use Rattle.svga_region.proofs.AllowedLaws.{remap_flag, remap_id, remap_range}
use Rattle.svga_region.proofs.DefineLaws.{regions_of-remap, slots_kept}
use Rattle.svga_region.proofs.ListLaws.{length-remapped}
use Rattle.svga_region.proofs.PutLaws.{length-guest_places, length-range_pages}
use Rattle.svga_region.proofs.regions.Regions.remap_allowed.Goals as goal

pub put_entries-requires-clause-range : goal.put_entries-requires-clause-range
put_entries-requires-clause-range c =
    let slots = c.self.inside in
    let now = c.args.self.now in
    let view = ap (λ r. r.regions) c.self.view_is in
    let judged = named_pages (entries_of c.args.entries) c.args.pages in
    let allowed = c.requires.allowed in
    remap_range now.guest slots.defined.items slots.lists.lists now.regions c.args.id c.args.offset c.args.pages judged view allowed

pub invariant_of-self : goal.invariant_of-self
invariant_of-self c =
    let defined = c.self.inside.defined.items in
    let lists = c.self.inside.lists.lists in
    let now = c.args.self.now in
    let view = ap (λ r. r.regions) c.self.view_is in
    let judged = named_pages (entries_of c.args.entries) c.args.pages in
    let allowed = c.requires.allowed in
    let small = remap_id now.guest now.regions c.args.id c.args.offset c.args.pages judged allowed in
    let flag = remap_flag now.guest defined lists now.regions c.args.id c.args.offset c.args.pages judged view allowed in
    let range = remap_range now.guest defined lists now.regions c.args.id c.args.offset c.args.pages judged view allowed in
    let list = slice_index_or lists c.args.id [] in
    let numbers = range_pages (entries_of c.args.entries) c.args.pages in
    let news = guest_places numbers in
    let many = length-range_pages (entries_of c.args.entries) c.args.pages c.requires.named c.requires.fits in
    let same = length-remapped list c.args.offset news (omega (arith, length-guest_places numbers, many, range)) in (
      c.self.invariant.0,
      c.self.invariant.1,
      subst (λ ls. AreSlots defined ls) (sym c.put_entries.ensures.lists)
          (slots_kept defined lists c.args.id (remapped list c.args.offset news) small flag same c.self.invariant.2),
      c.put_entries.ensures.room ∙ c.self.invariant.3,
      c.self.invariant.4,
    )

pub returns : goal.returns
returns c =
    let defined = c.self.inside.defined.items in
    let lists = c.self.inside.lists.lists in
    let slots = c.self.invariant.2 in
    let now = c.args.self.now in
    let view = ap (λ r. r.regions) c.self.view_is in
    let judged = named_pages (entries_of c.args.entries) c.args.pages in
    let allowed = c.requires.allowed in
    let small = remap_id now.guest now.regions c.args.id c.args.offset c.args.pages judged allowed in
    let flag = remap_flag now.guest defined lists now.regions c.args.id c.args.offset c.args.pages judged view allowed in
    let numbers = range_pages (entries_of c.args.entries) c.args.pages in
    let chain = option_map (chain_of c.self.inside.runs.items) c.self.inside.chain in
    let same = ap (regions_of defined) c.put_entries.ensures.lists
    ∙ regions_of-remap defined lists c.args.id c.args.offset numbers small slots.flags slots.lists_count flag in
    (λ i. record { guest = c.self.inside.guest; frame = c.self.inside.frame; regions = same i; chain = chain })
    ∙ ap (λ r. record { guest = r.guest; frame = r.frame; regions = with_remap r.regions c.args.id c.args.offset numbers; chain = r.chain }) c.self.view_is
