use Rattle.std.proofs.Common.{◌+◌, sym, subst, flat_map}
use Rattle.std.specs.List.{range_with_len}
use Rattle.svga.proofs.RangeLaws.{range_fault, range_next}
use Rattle.svga.proofs.ReplayLaws.{grows-same, mapped_no, mapped_yes}
use Rattle.svga.specs.Mapped.{mapped_page}
use Rattle.svga_io.proofs.Chains.{Grows-nil}
use Rattle.svga_io.specs.Growing.{Grows}
use Rattle.svga_text.proofs.PassingLaws.{at_err, fault-same}
use Rattle.svga.proofs.replay.write_guest_pages.Goals as goal
use Rattle.svga.proofs.replay.write_guest_pages.Goals.{then-mapped-p+in_ok-write_page, else-mapped-p}

pub returns-in_err-write_page : goal.returns-in_err-write_page
returns-in_err-write_page g c = at_err _ c.from_residual.result c.from_residual.ensures.0
    (range_fault (mapped_page c.args.pages.now c.args.mapped.now) c.loop-p.p c.args.count c.loop-p-test.true
    c.loop-p.invariant
    (fault-same (mapped_yes c.args.pages.now c.args.mapped.now c.loop-p.p c.if-mapped-p.true)
    (c.in_err-write_page.ensures {u = tt})))

pub loop-p-preserved : goal.loop-p-preserved
loop-p-preserved g c =
    let m = c.args.pages.now in
    let mapped = c.args.mapped.now in
    let p = c.loop-p.p in
    let all = flat_map (mapped_page m mapped) (range_with_len 0 (p + 1)) in
    elim c.if-mapped-p.branch [
      | then-mapped-p+in_ok-write_page w ↦ subst
          (λ sink. Grows g.K.Sink.held g.K.Sink.faults c.args.sink.now sink all) (sym w.sink-is)
          (range_next (mapped_page m mapped) p c.loop-p.invariant
          (grows-same (mapped_yes m mapped p w.if-mapped-p.true) (w.in_ok-write_page.ensures {u = tt})))
      | else-mapped-p w ↦ subst (λ sink. Grows g.K.Sink.held g.K.Sink.faults c.args.sink.now sink all) (sym w.sink-is)
          (range_next (mapped_page m mapped) p c.loop-p.invariant
          (grows-same (mapped_no m mapped p w.if-mapped-p.false) (Grows-nil c.loop-p.sink)))
    ]
