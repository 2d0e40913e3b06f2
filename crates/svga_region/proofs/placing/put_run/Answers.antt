use Rattle.std.proofs.Common.{◌≡◌, ◌∙◌, ap, refl, length, arith, slice_set}
use Rattle.std.proofs.lemmas.List.FromFn.{length-range_with_len}
use Rattle.std.specs.List.{range_with_len}
use Rattle.svga_model.specs.Regions.{guest_places, remapped}
use Rattle.svga_rows.specs.Rows.{list_at}
use Rattle.svga_region.proofs.ListLaws.{put_none, put_more}
use Rattle.svga_region.proofs.PutLaws.{guest_places-range, length-guest_places}
use Rattle.svga_region.proofs.placing.put_run.Goals as goal

pub loop-k-init : goal.loop-k-init
loop-k-init c = record { lists = put_none c.args.lists.now.lists c.args.slot c.args.at; room = refl }

pub loop-k-preserved : goal.loop-k-preserved
loop-k-preserved c =
    let done = guest_places (range_with_len c.args.run.page c.loop-k.k) in
    let is : c.loop-k.k ≡ length done = omega (arith, length-guest_places (range_with_len c.args.run.page c.loop-k.k), length-range_with_len c.args.run.page c.loop-k.k) in
    record {
      lists = c.set.ensures.lists
          ∙ put_more c.args.lists.now.lists c.loop-k.lists.lists c.args.slot c.args.at c.loop-k.k done _ c.requires.within is (omega arith) c.loop-k.invariant.lists
          ∙ ap (λ t. slice_set c.args.lists.now.lists c.args.slot (remapped (list_at c.args.lists.now c.args.slot) c.args.at t)) (guest_places-range c.args.run.page c.loop-k.k);
      room = c.set.ensures.room ∙ c.loop-k.invariant.room;
    }
