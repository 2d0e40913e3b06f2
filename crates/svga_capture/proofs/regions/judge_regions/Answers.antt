use Rattle.std.proofs.Common.{◌≡◌, ◌<◌, ap, arith}
use Rattle.svga_capture.specs.declared.regions.RegionRecord.{RegionRecord}
use Rattle.svga_capture.proofs.FieldLaws.{passed_on}
use Rattle.svga_capture.proofs.RegionLaws.{record_end, record_flaw, record_next}
use Rattle.svga_model.specs.CaptureFields.{pages_at, region_count}
use Rattle.svga_capture.proofs.regions.judge_regions.Goals as goal

pub returns-in_err-record-clause-wrong : goal.returns-in_err-record-clause-wrong
returns-in_err-record-clause-wrong c =
    let bytes = c.args.bytes.now in
    let count = c.requires.count in
    let less : c.loop.counter < region_count bytes = omega (arith, count) in
    passed_on c.from_residual.result _ _ c.from_residual.ensures.1
    (record_flaw bytes c.loop.total c.loop.last c.loop.at c.loop.counter (region_count bytes) _ less
    c.loop.invariant.0 _ (c.in_err-record.ensures {u = tt}).wrong)

pub loop-preserved : goal.loop-preserved
loop-preserved c =
    let bytes = c.args.bytes.now in
    let judged = c.in_ok-record.ensures {u = tt} in
    let count = c.requires.count in
    let end = c.end-at.ensures in
    let within = judged.within in
    let from : c.in_ok-record.record.at ≡ c.loop.at = ap (λ (r : RegionRecord). r.at) judged.said in
    let less : c.loop.counter < region_count bytes = omega (arith, count) in (
      record_next bytes c.loop.total c.loop.last c.loop.at c.loop.counter (region_count bytes) _ less
          c.loop.invariant.0 c.in_ok-record.record c.end-at.result judged.said end judged.wrong,
      record_end bytes c.loop.at c.loop.counter (region_count bytes) (pages_at bytes) c.end-at.result c.in_ok-record.record
          less judged.said end c.loop.invariant.1,
      omega (arith, end, from, within),
      judged.room,
    )
