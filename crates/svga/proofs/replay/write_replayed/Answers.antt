use Rattle.std.proofs.Common.{ap}
use Rattle.svga.proofs.ReplayLaws.{grows-same}
use Rattle.svga.specs.ReplayTexts.{pages_text, region_keys, replay_end_text}
use Rattle.svga.specs.Texts.{fence_text}
use Rattle.svga_io.proofs.Chains.{Grows-then, GrowsByPrefix-first, GrowsByPrefix-then}
use Rattle.svga_text.proofs.PassingLaws.{at_err, fault-same, Writes-behind}
use Rattle.svga_text.specs.Pictures.{screens_text}
use Rattle.svga.proofs.replay.write_replayed.Goals as goal

pub returns-in_err-line : goal.returns-in_err-line
returns-in_err-line g c =
    let r = c.args.replayed.now in
    at_err _ c.from_residual.result c.from_residual.ensures.0
    (GrowsByPrefix-first (replay_end_text r.ending)
    (GrowsByPrefix-first (pages_text r.pages (region_keys r.machine.kept))
    (GrowsByPrefix-first (screens_text r.machine.kept.screens) (GrowsByPrefix-first (fence_text r.machine.kept.fence)
    c.in_err-line.ensures.fault))))

pub returns-in_err-line-2 : goal.returns-in_err-line-2
returns-in_err-line-2 g c =
    let r = c.args.replayed.now in
    at_err _ c.from_residual-in_err-line-2.result c.from_residual-in_err-line-2.ensures.0
    (GrowsByPrefix-first (replay_end_text r.ending)
    (GrowsByPrefix-first (pages_text r.pages (region_keys r.machine.kept))
    (GrowsByPrefix-first (screens_text r.machine.kept.screens)
    (GrowsByPrefix-then c.in_ok-line.ensures.ok
    (fault-same (ap fence_text c.requires.fence) c.in_err-line-2.ensures.fault)))))

pub returns-in_err-screens : goal.returns-in_err-screens
returns-in_err-screens g c =
    let r = c.args.replayed.now in
    at_err _ c.from_residual-in_err-screens.result c.from_residual-in_err-screens.ensures.0
    (GrowsByPrefix-first (replay_end_text r.ending)
    (GrowsByPrefix-first (pages_text r.pages (region_keys r.machine.kept))
    (GrowsByPrefix-then (Grows-then c.in_ok-line.ensures.ok
    (grows-same (ap fence_text c.requires.fence) c.in_ok-line-2.ensures.ok))
    (fault-same (ap (λ set. screens_text set.screens) c.screens.ensures) c.in_err-screens.ensures.fault))))

pub returns-in_err-write_pages : goal.returns-in_err-write_pages
returns-in_err-write_pages g c =
    let r = c.args.replayed.now in
    at_err _ c.from_residual-in_err-write_pages.result c.from_residual-in_err-write_pages.ensures.0
    (GrowsByPrefix-first (replay_end_text r.ending)
    (GrowsByPrefix-then (Grows-then
    (Grows-then c.in_ok-line.ensures.ok (grows-same (ap fence_text c.requires.fence) c.in_ok-line-2.ensures.ok))
    (grows-same (ap (λ set. screens_text set.screens) c.screens.ensures) c.in_ok-screens.ensures.ok))
    (c.in_err-write_pages.ensures {u = tt})))

pub returns : goal.returns
returns g c =
    let r = c.args.replayed.now in
    Writes-behind g.K.Sink.held g.K.Sink.faults _ (replay_end_text r.ending) c.write_replay_end.result
    (Grows-then
    (Grows-then (Grows-then c.in_ok-line.ensures.ok
    (grows-same (ap fence_text c.requires.fence) c.in_ok-line-2.ensures.ok))
    (grows-same (ap (λ set. screens_text set.screens) c.screens.ensures) c.in_ok-screens.ensures.ok))
    (c.in_ok-write_pages.ensures {u = tt}))
    c.write_replay_end.ensures
