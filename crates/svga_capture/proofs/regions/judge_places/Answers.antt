use Rattle.std.proofs.Common.{◌+◌, arith}
use Rattle.svga_capture.proofs.FieldLaws.{passed_on}
use Rattle.svga_capture.proofs.RegionLaws.{places_flaw, places_next}
use Rattle.svga_capture.proofs.regions.judge_places.Goals as goal

pub returns-in_err-judge_place-clause-wrong : goal.returns-in_err-judge_place-clause-wrong
returns-in_err-judge_place-clause-wrong c =
    passed_on c.from_residual.result _ _ c.from_residual.ensures.1
    (places_flaw c.args.bytes.now (c.args.region.now.at + 8) c.loop-k.k c.args.region.now.count c.args.guest c.place_at.result
    _ c.loop-k-test.true c.place_at.ensures c.requires.guest c.loop-k.invariant.0 _ (c.in_err-judge_place.ensures {u = tt}).wrong)

pub loop-k-preserved : goal.loop-k-preserved
loop-k-preserved c =
    let judged = c.in_ok-judge_place.ensures {u = tt} in
    let within = judged.within in
    let here = c.place_at.ensures in (
      places_next c.args.bytes.now (c.args.region.now.at + 8) c.loop-k.k c.args.region.now.count c.args.guest
          c.place_at.result _ c.loop-k-test.true c.place_at.ensures c.requires.guest c.loop-k.invariant.0 judged.wrong,
      omega (arith, within, here),
    )
