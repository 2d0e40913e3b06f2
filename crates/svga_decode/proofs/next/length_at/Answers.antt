use Rattle.std.proofs.Common.{◌≡◌, ◌-◌, arith, ap, drop, length, length-drop, min, ◌∙◌}
use Rattle.svga_decode.proofs.NextLaws.{whole_length-head}
use Rattle.svga_decode.proofs.next.length_at.Goals as goal
use Rattle.svga_model.specs.Lengths.{whole_length}

pub returns-in-Some : goal.returns-in-Some
returns-in-Some g c =
    let rest = drop c.args.first (g.W.Words.words c.args.words.now) in
    c.length_of.ensures ∙ ap whole_length (c.in-Some.ensures {u = tt}).lent
    ∙ whole_length-head rest c.min.result (omega (arith, c.min.ensures, c.requires.left, length-drop c.args.first (g.W.Words.words c.args.words.now)))
