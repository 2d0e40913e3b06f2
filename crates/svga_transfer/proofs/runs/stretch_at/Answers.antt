use Rattle.std.proofs.Common.{rules, FitsSigned, w32, arith}
use Rattle.svga_transfer.proofs.StretchLaws.{no_column, same_place, same_steps, stretch}
use Rattle.svga_transfer.proofs.runs.stretch_at.Goals as goal

pub place-requires : goal.place-requires
place-requires c = omega (arith, c.steps-left.ensures.within, c.requires.short.width)

pub returns-then-left-right-clause-some : goal.returns-then-left-right-clause-some
returns-then-left-right-clause-some c =
    let column : FitsSigned w32 c.args.site.x = search rules in
    stretch _ _ _ _ _ (same_steps _ _ _ _ column c.ranges.x c.steps-left.ensures)
    (same_steps _ _ _ _ column c.ranges.end c.steps-right.ensures) _ _ _ _ c.if-left-right.true
    (same_steps _ _ _ _ (search rules) c.ranges.y c.steps.ensures) c.requires.row.0 c.requires.row.1
    (same_place _ _ _ column (search rules) c.place.ensures.value)

pub returns-else-left-right-clause-none : goal.returns-else-left-right-clause-none
returns-else-left-right-clause-none c =
    let column : FitsSigned w32 c.args.site.x = search rules in
    no_column c.args.site _ _ _ _ (same_steps _ _ _ _ column c.ranges.x c.steps-left.ensures)
    (same_steps _ _ _ _ column c.ranges.end c.steps-right.ensures) c.if-left-right.false
