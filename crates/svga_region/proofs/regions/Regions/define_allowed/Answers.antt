use Rattle.std.proofs.Common.{◌==◌, not, sym, ap, subst, ◌∙◌, arith, slice_set}
use Rattle.std.specs.Prelude.{option_map}
use Rattle.svga_model.specs.Regions.{with_region}
use Rattle.svga_region.specs.Kept.{regions_of, chain_of, AreSlots}
use Rattle.svga_region.proofs.AllowedLaws.{define_id, define_room}
use Rattle.svga_region.proofs.DefineLaws.{regions_of-define, slots_defined, twice}
use Rattle.svga_region.proofs.regions.Regions.define_allowed.Goals as goal

pub replace-requires-clause-room : goal.replace-requires-clause-room
replace-requires-clause-room c =
    let slots = c.self.inside in
    let now = c.args.self.now.regions in
    let view = ap (λ r. r.regions) c.self.view_is in
    let allowed = c.requires in
    let room = define_room slots.defined.items slots.lists.lists now c.args.id c.args.pages c.self.invariant.2 view allowed in
    omega (arith, room, c.self.invariant.3)

pub invariant_of-self : goal.invariant_of-self
invariant_of-self c =
    let defined = c.self.inside.defined.items in
    let lists = c.self.inside.lists.lists in
    let now = c.args.self.now.regions in
    let view = ap (λ r. r.regions) c.self.view_is in
    let allowed = c.requires in
    let small = define_id now c.args.id c.args.pages allowed in
    let room = define_room defined lists now c.args.id c.args.pages c.self.invariant.2 view allowed in
    let flags = slice_set defined c.args.id (not (c.args.pages == 0)) in (
      c.self.invariant.0,
      c.self.invariant.1,
      subst (λ ls. AreSlots flags ls) (sym c.replace.ensures.lists)
          (slots_defined defined lists c.args.id c.args.pages small room c.self.invariant.2),
      c.replace.ensures.room ∙ c.self.invariant.3,
      c.self.invariant.4,
    )

pub returns : goal.returns
returns c =
    let defined = c.self.inside.defined.items in
    let lists = c.self.inside.lists.lists in
    let slots = c.self.invariant.2 in
    let flag = not (c.args.pages == 0) in
    let chain = option_map (chain_of c.self.inside.runs.items) c.self.inside.chain in
    let allowed = c.requires in
    let small = define_id c.args.self.now.regions c.args.id c.args.pages allowed in
    let same = ap (regions_of (slice_set defined c.args.id flag)) c.replace.ensures.lists
    ∙ regions_of-define defined lists c.args.id c.args.pages flag small slots.flags slots.lists_count (twice (c.args.pages == 0)) in
    (λ i. record { guest = c.self.inside.guest; frame = c.self.inside.frame; regions = same i; chain = chain })
    ∙ ap (λ r. record { guest = r.guest; frame = r.frame; regions = with_region r.regions c.args.id c.args.pages; chain = r.chain }) c.self.view_is
