-- One group of fields after another, and then what follows them.
use Rattle.std.proofs.Common.{◌+◌, ◌∙◌, sym}
use Rattle.svga_capture.proofs.CaptureJudged.{ends_at, excess_wrong, fifo_wrong, header_wrong, pages_wrong, regions_wrong}
use Rattle.svga_capture.proofs.FieldLaws.{passed_on}
use Rattle.svga_capture.proofs.fields.read_fields.Goals as goal

pub returns-in_err-header-clause-wrong : goal.returns-in_err-header-clause-wrong
returns-in_err-header-clause-wrong c =
    passed_on c.from_residual.result _ _ c.from_residual.ensures.1
    (header_wrong c.args.bytes.now c.in_err-header.field-0.0 c.in_err-header.ensures.wrong)

pub returns-in_err-ring-clause-wrong : goal.returns-in_err-ring-clause-wrong
returns-in_err-ring-clause-wrong c =
    passed_on c.from_residual-in_err-ring.result _ _ c.from_residual-in_err-ring.ensures.1
    (fifo_wrong c.args.bytes.now c.in_ok-header.ensures.wrong c.in_err-ring.field-0.0 c.in_err-ring.ensures.wrong)

pub returns-in_err-judge_regions-clause-wrong : goal.returns-in_err-judge_regions-clause-wrong
returns-in_err-judge_regions-clause-wrong c =
    passed_on c.from_residual-in_err-judge_regions.result _ _ c.from_residual-in_err-judge_regions.ensures.1
    (regions_wrong c.args.bytes.now c.in_ok-header.ensures.wrong c.in_ok-ring.ensures.wrong
    c.in_err-judge_regions.field-0.0 c.in_err-judge_regions.ensures.wrong)

pub returns-in_err-end-clause-wrong : goal.returns-in_err-end-clause-wrong
returns-in_err-end-clause-wrong c =
    passed_on c.from_residual-in_err-end.result _ _ c.from_residual-in_err-end.ensures.1
    (pages_wrong c.args.bytes.now c.in_ok-header.ensures.wrong c.in_ok-ring.ensures.wrong
    c.in_ok-judge_regions.ensures.wrong c.in_err-end.field-0.0 c.in_err-end.ensures.wrong)

pub returns-in_err-holds-clause-wrong : goal.returns-in_err-holds-clause-wrong
returns-in_err-holds-clause-wrong c =
    passed_on c.from_residual-in_err-holds.result _ _ c.from_residual-in_err-holds.ensures.1
    (c.in_err-holds.ensures {u = tt}
    ∙ ends_at c.args.bytes.now c.in_ok-end.end c.in_ok-end.ensures.end c.in_ok-end.ensures.after
    ∙ sym (excess_wrong c.args.bytes.now c.in_ok-header.ensures.wrong c.in_ok-ring.ensures.wrong
    c.in_ok-judge_regions.ensures.wrong c.in_ok-end.ensures.wrong))

pub returns-clause-wrong : goal.returns-clause-wrong
returns-clause-wrong c =
    c.in_ok-holds.ensures {u = tt}
    ∙ ends_at c.args.bytes.now c.in_ok-end.end c.in_ok-end.ensures.end c.in_ok-end.ensures.after
    ∙ sym (excess_wrong c.args.bytes.now c.in_ok-header.ensures.wrong c.in_ok-ring.ensures.wrong
    c.in_ok-judge_regions.ensures.wrong c.in_ok-end.ensures.wrong)

pub returns-clause-fields : goal.returns-clause-fields
returns-clause-fields c =
    let header = c.in_ok-header.ensures.header in
    let ring = c.in_ok-ring.ensures.ring in
    let pages = c.in_ok-judge_regions.ensures.end in
    let fence = c.read_fence.ensures in
    record {
      few = c.requires;
      good = sym (returns-clause-wrong c);
      said = λ i. record {
        ring = ring i;
        fence = fence i;
        limits = (header i).limits;
        regions = record { at = 36 + (ring i).max; count = (header i).regions };
        pages = record { at = pages i; count = (header i).pages };
      };
      limits = c.in_ok-header.ensures.limits;
      ring = c.in_ok-ring.ensures.rules;
      there = c.in_ok-ring.ensures.there;
    }
