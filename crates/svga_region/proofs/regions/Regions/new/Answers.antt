use Rattle.std.proofs.Common.{◌∙◌, ap, arith, None}
use Rattle.svga_region.proofs.DefineLaws.{regions_of-empty, runs_none, slots_none}
use Rattle.svga_region.specs.Kept.{regions_of}
use Rattle.svga_region.proofs.regions.Regions.new.Goals as goal

pub invariant_of-result : goal.invariant_of-result
invariant_of-result c =
    let empty = c.in_ok-lists.ensures {u = tt} in (
      c.requires.guest,
      c.requires.frame,
      slots_none c.in_ok-defined.defined.items c.in_ok-lists.lists.lists ((c.in_ok-defined.ensures {u = tt}).items_if_clones_equal (λ y e. e)) (ap (λ r. r.lists) empty),
      ap (λ r. r.room) empty,
      runs_none _ c.in_ok-runs.runs.items (omega arith) ((c.in_ok-runs.ensures {u = tt}).items_if_clones_equal (λ y e. e)),
    )

pub returns : goal.returns
returns c =
    λ i. record {
      guest = c.args.guest_pages;
      frame = c.args.frame_pages;
      regions = (ap (λ ds. regions_of ds c.in_ok-lists.lists.lists) ((c.in_ok-defined.ensures {u = tt}).items_if_clones_equal (λ y e. e)) ∙ regions_of-empty c.in_ok-lists.lists.lists) i;
      chain = None;
    }
