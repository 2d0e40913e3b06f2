use Rattle.std.proofs.Common.{ap, sym, ◌∙◌, flat_map}
use Rattle.std.specs.List.{range_with_len}
use Rattle.svga.proofs.ReplayLaws.{length-mapped, pages-text}
use Rattle.svga.specs.ReplayTexts.{shown_page}
use Rattle.svga_cmd.specs.Limits.{frame_page_count}
use Rattle.svga_cmd.specs.declared.page.PageKey.TheVariants.{Frame}
use Rattle.svga_io.proofs.Chains.{GrowsByPrefix-first}
use Rattle.svga_text.proofs.PassingLaws.{at_err, fault-same, Writes-behind, Writes-same}
use Rattle.svga.proofs.replay.write_pages.Goals as goal

pub write_guest_pages-requires-clause-answers : goal.write_guest_pages-requires-clause-answers
write_guest_pages-requires-clause-answers g c =
    length-mapped c.args.replayed.now.machine.kept c.args.mapped.now c.requires.mapped
    ∙ sym (ap (λ l. l.pages) c.limits-limits.ensures.limits)

pub returns-in_err-write_guest_pages : goal.returns-in_err-write_guest_pages
returns-in_err-write_guest_pages g c =
    let m = c.args.replayed.now.pages in
    let kept = c.args.replayed.now.machine.kept in
    let frames = frame_page_count kept.limits in
    at_err _ c.from_residual.result c.from_residual.ensures.0
    (fault-same (pages-text m kept c.args.mapped.now c.limits-limits.result.pages frames c.requires.mapped
    (ap (λ l. l.pages) c.limits-limits.ensures.limits) (λ i. frames))
    (GrowsByPrefix-first (flat_map (λ n. shown_page m (Frame n)) (range_with_len 0 frames))
    (c.in_err-write_guest_pages.ensures {u = tt})))

pub returns : goal.returns
returns g c =
    let m = c.args.replayed.now.pages in
    let kept = c.args.replayed.now.machine.kept in
    Writes-same g.K.Sink.held g.K.Sink.faults _ _ c.write_frame_pages.result
    (pages-text m kept c.args.mapped.now c.limits-limits.result.pages c.frame_pages.result c.requires.mapped
    (ap (λ l. l.pages) c.limits-limits.ensures.limits)
    (c.frame_pages.ensures ∙ ap frame_page_count c.limits-limits.ensures.limits))
    (Writes-behind g.K.Sink.held g.K.Sink.faults _
    (flat_map (λ n. shown_page m (Frame n)) (range_with_len 0 c.frame_pages.result)) c.write_frame_pages.result
    (c.in_ok-write_guest_pages.ensures {u = tt}) c.write_frame_pages.ensures)
