use Rattle.std.proofs.Common.{◌≡◌, ◌<◌, ◌≤◌, length, arith}
use Rattle.svga_capture.proofs.FieldLaws.{passed_on}
use Rattle.svga_capture.proofs.PageLaws.{all_passed, none_passed, one_fails, one_passed}
use Rattle.svga_model.specs.CaptureFields.{page_count, page_record_at, pages_at}
use Rattle.svga_capture.proofs.pages.judge_pages.Goals as goal

pub loop-j-init : goal.loop-j-init
loop-j-init c =
    let begin = c.requires.begin in
    let within = c.requires.within in
    let there : pages_at c.args.bytes.now ≤ length c.args.bytes.now = omega (arith, begin, within) in
    none_passed c.args.bytes.now there

pub page_record-requires : goal.page_record-requires
page_record-requires c =
    let begin = c.requires.begin in
    let within = c.loop-j.invariant.within in
    let few = c.requires.few in
    omega (arith, begin, within, few)

pub judge_record-requires-clause-within : goal.judge_record-requires-clause-within
judge_record-requires-clause-within c =
    let begin = c.requires.begin in
    let within = c.loop-j.invariant.within in
    let here = c.page_record.ensures in
    omega (arith, begin, within, here)

pub returns-in_err-judge_record-clause-wrong : goal.returns-in_err-judge_record-clause-wrong
returns-in_err-judge_record-clause-wrong c =
    let bytes = c.args.bytes.now in
    let begin = c.requires.begin in
    let count = c.requires.count in
    let is = c.page_record.ensures in
    let below : c.loop-j.j < page_count bytes = omega (arith, count) in
    let here : c.page_record.result ≡ page_record_at bytes c.loop-j.j = omega (arith, begin, is) in
    passed_on c.from_residual.result _ _ c.from_residual.ensures.1
    (one_fails bytes c.args.limits.now c.loop-j.j c.page_record.result c.loop-j.last c.requires.limits here below c.loop-j.invariant
    _ (c.in_err-judge_record.ensures {u = tt}).wrong)

pub loop-j-preserved : goal.loop-j-preserved
loop-j-preserved c =
    let bytes = c.args.bytes.now in
    let begin = c.requires.begin in
    let count = c.requires.count in
    let is = c.page_record.ensures in
    let below : c.loop-j.j < page_count bytes = omega (arith, count) in
    let here : c.page_record.result ≡ page_record_at bytes c.loop-j.j = omega (arith, begin, is) in
    let known = c.in_ok-judge_record.ensures {u = tt} in
    one_passed bytes c.args.limits.now c.loop-j.j c.page_record.result c.loop-j.last c.requires.limits here below c.loop-j.invariant
    c.in_ok-judge_record.field-0 known.wrong known.key known.after

pub page_record-requires-2 : goal.page_record-requires-2
page_record-requires-2 c =
    let begin = c.requires.begin in
    let within = c.loop-j.invariant.within in
    let few = c.requires.few in
    let past = c.loop-j-test.false in
    let end = c.loop-j.auto.j-end in
    let done : c.loop-j.j ≡ c.args.pages.now.count = omega (arith, past, end) in
    omega (arith, begin, within, few, done)

pub returns-clause-wrong : goal.returns-clause-wrong
returns-clause-wrong c =
    let past = c.loop-j-test.false in
    let end = c.loop-j.auto.j-end in
    let count = c.requires.count in
    let done : c.loop-j.j ≡ page_count c.args.bytes.now = omega (arith, past, end, count) in
    all_passed c.args.bytes.now c.loop-j.j c.loop-j.last done c.loop-j.invariant

pub returns-clause-after : goal.returns-clause-after
returns-clause-after c =
    let begin = c.requires.begin in
    let within = c.loop-j.invariant.within in
    let past = c.loop-j-test.false in
    let end = c.loop-j.auto.j-end in
    let here = c.page_record-2.ensures in
    let done : c.loop-j.j ≡ c.args.pages.now.count = omega (arith, past, end) in
    omega (arith, begin, within, done, here)
