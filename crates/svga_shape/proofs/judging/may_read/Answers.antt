-- A region that is there is read unless a byte that is needed breaks a rule.
use Rattle.std.proofs.Common.{true, false}
use Rattle.svga_model.specs.PointedNumbers.{pointed_by}
use Rattle.svga_shape.proofs.JudgeReading.{reading}
use Rattle.svga_shape.proofs.judging.may_read.Goals as goal

pub returns-then-numbers_break : goal.returns-then-numbers_break
returns-then-numbers_break c = reading c.args.regions.now.frame c.args.regions.now.regions
    (pointed_by c.args.words c.args.pointer) c.args.pages c.length.result c.length.ensures
    (c.if-is_none.ensures {u = tt}) true false (c.if-numbers_break.ensures {u = tt})
    (λ e. absurd (cc))

pub returns-then-numbers_break-2 : goal.returns-then-numbers_break-2
returns-then-numbers_break-2 c = reading c.args.regions.now.frame c.args.regions.now.regions
    (pointed_by c.args.words c.args.pointer) c.args.pages c.length.result c.length.ensures
    (c.if-is_none.ensures {u = tt}) false true (c.if-numbers_break.ensures {u = tt})
    (λ _. c.if-numbers_break-2.ensures {u = tt})

pub returns : goal.returns
returns c = reading c.args.regions.now.frame c.args.regions.now.regions
    (pointed_by c.args.words c.args.pointer) c.args.pages c.length.result c.length.ensures
    (c.if-is_none.ensures {u = tt}) false false (c.if-numbers_break.ensures {u = tt})
    (λ _. c.if-numbers_break-2.ensures {u = tt})
