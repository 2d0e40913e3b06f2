use Rattle.std.proofs.Common.{rules}
use Rattle.svga_screen.proofs.ClipLaws.{clip-both_sides, clip-no_columns, clip-no_rows, same_part}
use Rattle.svga_screen.proofs.clipping.clip.Goals as goal

pub returns-then-wide-eq0 : goal.returns-then-wide-eq0
returns-then-wide-eq0 c = clip-no_columns c.args.rect c.args.x c.args.y c.args.width c.args.height c.side-left.result.0 c.side-left.result.1 c.side-top.result.0 c.side-top.result.1
    (same_part c.args.rect.left c.args.rect.right c.args.x c.args.width c.side-left.result.0 c.side-left.result.1 (search rules) (search rules) (search rules) c.side-left.ensures.same)
    (same_part c.args.rect.top c.args.rect.bottom c.args.y c.args.height c.side-top.result.0 c.side-top.result.1 (search rules) (search rules) (search rules) c.side-top.ensures.same)
    c.if-wide-eq0.true

pub returns-then-high-eq0 : goal.returns-then-high-eq0
returns-then-high-eq0 c = clip-no_rows c.args.rect c.args.x c.args.y c.args.width c.args.height c.side-left.result.0 c.side-left.result.1 c.side-top.result.0 c.side-top.result.1
    (same_part c.args.rect.left c.args.rect.right c.args.x c.args.width c.side-left.result.0 c.side-left.result.1 (search rules) (search rules) (search rules) c.side-left.ensures.same)
    (same_part c.args.rect.top c.args.rect.bottom c.args.y c.args.height c.side-top.result.0 c.side-top.result.1 (search rules) (search rules) (search rules) c.side-top.ensures.same)
    c.if-high-eq0.true

pub returns : goal.returns
returns c = clip-both_sides c.args.rect c.args.x c.args.y c.args.width c.args.height c.side-left.result.0 c.side-left.result.1 c.side-top.result.0 c.side-top.result.1
    (same_part c.args.rect.left c.args.rect.right c.args.x c.args.width c.side-left.result.0 c.side-left.result.1 (search rules) (search rules) (search rules) c.side-left.ensures.same)
    (same_part c.args.rect.top c.args.rect.bottom c.args.y c.args.height c.side-top.result.0 c.side-top.result.1 (search rules) (search rules) (search rules) c.side-top.ensures.same)
    c.side-left.ensures.within c.side-top.ensures.within c.if-wide-eq0.false c.if-high-eq0.false
