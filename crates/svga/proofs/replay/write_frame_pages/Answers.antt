use Rattle.svga.proofs.RangeLaws.{range_fault, range_next}
use Rattle.svga.specs.ReplayTexts.{shown_page}
use Rattle.svga_cmd.specs.declared.page.PageKey.TheVariants.{Frame}
use Rattle.svga_text.proofs.PassingLaws.{at_err}
use Rattle.svga.proofs.replay.write_frame_pages.Goals as goal

pub returns-in_err-write_page : goal.returns-in_err-write_page
returns-in_err-write_page g c = at_err _ c.from_residual.result c.from_residual.ensures.0
    (range_fault (λ n. shown_page c.args.pages.now
    (Frame n)) c.loop-number.number c.args.count c.loop-number-test.true c.loop-number.invariant
    (c.in_err-write_page.ensures {u = tt}))

pub loop-number-preserved : goal.loop-number-preserved
loop-number-preserved g c = range_next
    (λ n. shown_page c.args.pages.now (Frame n)) c.loop-number.number c.loop-number.invariant
    (c.in_ok-write_page.ensures {u = tt})
