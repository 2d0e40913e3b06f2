-- Only the numbers are judged, since the range isn't refused.
use Rattle.std.proofs.Common.{ap, refl, sym, ◌∙◌}
use Rattle.svga_cmd.specs.Lent.{entries_of}
use Rattle.svga_model.specs.Regions.{named_pages}
use Rattle.svga_model.specs.Standing.{first_standing}
use Rattle.svga_region.specs.Numbers.{number_tests}
use Rattle.svga_shape.specs.ShapeSet.{shape_in}
use Rattle.svga_machine.proofs.RunLaws.{given_fault, not_ok, on_err_also}
use Rattle.svga_machine.proofs.ViaLaws.{named_tests}
use Rattle.svga_machine.proofs.remap.remap_read.Goals as goal

pub returns-in_err-may_name : goal.returns-in_err-may_name
returns-in_err-may_name c = record {
  fault = given_fault c.from_residual.result c.in_err-may_name.field-0.0 c.from_residual.ensures.1
      ∙ c.in_err-may_name.ensures {u = tt}
      ∙ ap (λ guest. first_standing (number_tests guest (named_pages (entries_of c.args.entries) c.args.pages)))
      (ap (λ r. r.guest) c.regions.ensures.regions ∙ c.regions.ensures.valid.guest)
      ∙ sym (named_tests (shape_in c.args.shape.now) c.args.region c.args.offset c.args.pages (entries_of c.args.entries) c.requires.admitted c.requires.named);
  ok = not_ok _ c.from_residual.result c.in_err-may_name.field-0.0 c.from_residual.ensures.1;
  err = on_err_also _ c.from_residual.result refl;
  chain = refl;
  valid = c.regions.ensures.valid;
}

pub remap_named-requires-clause-admitted : goal.remap_named-requires-clause-admitted
remap_named-requires-clause-admitted c =
    named_tests (shape_in c.args.shape.now) c.args.region c.args.offset c.args.pages (entries_of c.args.entries) c.requires.admitted c.requires.named
    ∙ ap (λ guest. first_standing (number_tests guest (named_pages (entries_of c.args.entries) c.args.pages)))
    (sym (ap (λ r. r.guest) c.regions.ensures.regions ∙ c.regions.ensures.valid.guest))
    ∙ sym (c.in_ok-may_name.ensures {u = tt})

pub returns : goal.returns
returns c = record {
  fault = c.in_ok-may_name.ensures {u = tt}
      ∙ ap (λ guest. first_standing (number_tests guest (named_pages (entries_of c.args.entries) c.args.pages)))
      (ap (λ r. r.guest) c.regions.ensures.regions ∙ c.regions.ensures.valid.guest)
      ∙ sym (named_tests (shape_in c.args.shape.now) c.args.region c.args.offset c.args.pages (entries_of c.args.entries) c.requires.admitted c.requires.named);
  ok = c.remap_named.ensures;
  err = tt;
  chain = c.remap_named.ensures.chain;
  valid = c.remap_named.ensures.valid;
}
