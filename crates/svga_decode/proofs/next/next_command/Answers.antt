use Rattle.std.proofs.Common.{arith}
use Rattle.svga_decode.proofs.NextLaws.{refused_next, torn_next, whole_next}
use Rattle.svga_decode.proofs.next.next_command.Goals as goal

pub returns-in-Some : goal.returns-in-Some
returns-in-Some g c =
    let refused = c.in-Some.ensures {u = tt} in
    refused_next (g.W.Words.words c.args.words.now) c.args.first c.in-Some.word c.in-Some.cause c.count.ensures.numbers refused.word.0 (omega (arith, refused.word.1, c.count.ensures.count, c.min.ensures)) refused.before refused.cause

pub returns-then-length-left : goal.returns-then-length-left
returns-then-length-left g c =
    whole_next (g.W.Words.words c.args.words.now) c.args.first c.length_at-length.result c.count.ensures.numbers
    (λ i l. (c.in-None.ensures {u = tt}).none i (omega (arith, c.count.ensures.count, c.min.ensures))) c.length_at-length.ensures (omega (arith, c.count.ensures.count))

pub returns-else-length-left : goal.returns-else-length-left
returns-else-length-left g c =
    torn_next (g.W.Words.words c.args.words.now) c.args.first c.count.ensures.numbers
    (λ i l. (c.in-None.ensures {u = tt}).none i (omega (arith, c.count.ensures.count, c.min.ensures))) (omega (arith, c.count.ensures.count, c.length_at-length.ensures))
