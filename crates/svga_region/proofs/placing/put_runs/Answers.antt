use Rattle.std.proofs.Common.{◌∙◌, sym, ap, refl, take, arith, slice_set}
use Rattle.svga_model.specs.Regions.{guest_places, remapped}
use Rattle.svga_model.specs.Walks.{run_pages}
use Rattle.svga_rows.specs.Rows.{list_at}
use Rattle.svga_region.specs.Kept.{as_descriptor, kept_pages}
use Rattle.svga_region.specs.declared.descriptor.Descriptor.{Descriptor}
use Rattle.svga_region.proofs.ListLaws.{put_none, put_on, length_put}
use Rattle.svga_region.proofs.PutLaws.{guest_places-append, kept_pages-take, length-guest_places, length-kept_pages-take, run_fits}
use Rattle.svga_region.proofs.placing.put_runs.Goals as goal

pub loop-run-init : goal.loop-run-init
loop-run-init c = record { lists = put_none c.args.lists.now.lists c.args.slot 0; room = refl; place = refl; bound = omega arith }

pub put_run-requires-clause-range : goal.put_run-requires-clause-range
put_run-requires-clause-range c =
    let none : Descriptor = record { page = 0; count = 0 } in
    let fits = run_fits c.args.runs.now c.loop-run.run-index none c.loop-run-test.true in
    let done = kept_pages (take c.loop-run.run-index c.args.runs.now) in
    let same = length_put c.args.lists.now.lists c.loop-run.lists.lists c.args.slot 0 (guest_places done) c.requires.within (omega (arith, length-guest_places done, fits)) c.loop-run.invariant.lists in
    omega (arith, fits, same)

pub loop-run-preserved : goal.loop-run-preserved
loop-run-preserved c =
    let none : Descriptor = record { page = 0; count = 0 } in
    let done = kept_pages (take c.loop-run.run-index c.args.runs.now) in
    let more = length-kept_pages-take c.args.runs.now c.loop-run.run-index none c.loop-run-test.true in
    let short = c.requires.short c.loop-run.run-index none c.loop-run-test.true in
    record {
      lists = c.put_run.ensures.lists
          ∙ put_on c.args.lists.now.lists c.loop-run.lists.lists c.args.slot c.loop-run.at (guest_places done) _ c.requires.within (omega (arith, length-guest_places done)) c.loop-run.invariant.lists
          ∙ ap (λ t. slice_set c.args.lists.now.lists c.args.slot (remapped (list_at c.args.lists.now c.args.slot) 0 t))
          (sym (ap guest_places (kept_pages-take c.args.runs.now c.loop-run.run-index none c.loop-run-test.true) ∙ guest_places-append done (run_pages (as_descriptor _))));
      room = c.put_run.ensures.room ∙ c.loop-run.invariant.room;
      place = omega (arith, more);
      bound = omega (arith, short);
    }
