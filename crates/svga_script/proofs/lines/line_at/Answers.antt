use Rattle.std.proofs.Common.{rules}
use Rattle.svga_script.proofs.LineLaws.{line_at_place, no_line}
use Rattle.svga_script.proofs.lines.line_at.Goals as goal

pub returns-then-at-bytes-clause-left : goal.returns-then-at-bytes-clause-left
returns-then-at-bytes-clause-left c = no_line c.args.bytes.now c.args.at (search rules)

pub returns-clause-left : goal.returns-clause-left
returns-clause-left c = let e = c.line_end-end.ensures in line_at_place c.args.bytes.now c.args.at c.line_end-end.result (search rules) e.low e.high e.bytes e.feed
