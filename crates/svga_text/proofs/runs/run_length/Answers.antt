use Rattle.std.proofs.Common.{◌∙◌, arith, sym}
use Rattle.svga_text.proofs.RunLaws.{any_default, run_first}
use Rattle.svga_text.proofs.runs.run_length.Goals as goal

pub returns-else-eq-clause-first : goal.returns-else-eq-clause-first
returns-else-eq-clause-first g c = λ d. run_first g.T.PartialEq.eq g.met.T.PartialEq.laws c.args.items.now
    c.loop-count.count d c.loop-count.invariant.0 c.loop-count.invariant.1
    (λ k some less. c.loop-count.invariant.2 k d some less)
    (λ less. sym (c.if-eq.ensures {u = tt} ∙ (λ i. g.T.PartialEq.eq
    ((c.index-items-count.is ∙ any_default c.args.items.now c.loop-count.count c.index-items-count.result d less) i)
    ((c.index-items-0.is ∙ any_default c.args.items.now 0 c.index-items-0.result d c.requires) i))))

pub returns-after-loop-count-clause-first : goal.returns-after-loop-count-clause-first
returns-after-loop-count-clause-first g c = λ d. run_first g.T.PartialEq.eq g.met.T.PartialEq.laws c.args.items.now
    c.loop-count.count d c.loop-count.invariant.0 c.loop-count.invariant.1
    (λ k some less. c.loop-count.invariant.2 k d some less) (λ less. absurd (omega arith))
