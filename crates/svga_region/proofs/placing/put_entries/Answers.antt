use Rattle.std.proofs.Common.{◌≡◌, ◌∙◌, ap, refl, take, length, arith, length-take, Some, slice_set, [], ◌∷◌, ◌++◌}
use Rattle.std.proofs.lemmas.List.{take_all}
use Rattle.svga_cmd.specs.Lent.{entries_of}
use Rattle.svga_cmd.specs.declared.page.PageKey.TheVariants.{Guest}
use Rattle.svga_model.specs.Regions.{guest_places, range_pages, remapped}
use Rattle.svga_rows.specs.Rows.{list_at}
use Rattle.svga_region.proofs.ListLaws.{put_none, put_more}
use Rattle.svga_region.proofs.PutLaws.{guest_places-take, length-guest_places, length-range_pages}
use Rattle.svga_region.proofs.placing.put_entries.Goals as goal

pub loop-k-init : goal.loop-k-init
loop-k-init c = record { lists = put_none c.args.lists.now.lists c.args.slot c.args.offset; room = refl }

pub loop-k-preserved : goal.loop-k-preserved
loop-k-preserved c =
    let numbers = range_pages (entries_of c.args.entries) c.args.pages in
    let many = length-range_pages (entries_of c.args.entries) c.args.pages c.requires.named c.requires.fits in
    let done = guest_places (take c.loop-k.k numbers) in
    let is : c.loop-k.k ≡ length done = omega (arith, length-guest_places (take c.loop-k.k numbers), length-take c.loop-k.k numbers, many) in
    record {
      lists = c.set.ensures.lists
          ∙ put_more c.args.lists.now.lists c.loop-k.lists.lists c.args.slot c.args.offset c.loop-k.k done _ c.requires.within is (omega arith) c.loop-k.invariant.lists
          ∙ ap (λ t. slice_set c.args.lists.now.lists c.args.slot (remapped (list_at c.args.lists.now c.args.slot) c.args.offset t))
          (ap (λ p. done ++ Some (Guest p) ∷ []) c.entry_page-page.ensures ∙ guest_places-take numbers c.loop-k.k (omega arith));
      room = c.set.ensures.room ∙ c.loop-k.invariant.room;
    }

pub returns-clause-lists : goal.returns-clause-lists
returns-clause-lists c =
    let numbers = range_pages (entries_of c.args.entries) c.args.pages in
    let many = length-range_pages (entries_of c.args.entries) c.args.pages c.requires.named c.requires.fits in
    c.loop-k.invariant.lists ∙ ap (λ t. slice_set c.args.lists.now.lists c.args.slot (remapped (list_at c.args.lists.now c.args.slot) c.args.offset (guest_places t)))
    (take_all c.loop-k.k numbers (omega arith))
