use Rattle.std.proofs.Common.{◌-◌, arith, sym, ◌∙◌}
use Rattle.svga_decode.proofs.NextLaws.{first_accepted_more}
use Rattle.svga_decode.proofs.next.first_refused.Goals as goal
use Rattle.svga_model.specs.RefusedWords.{refusal}

pub loop-i-init : goal.loop-i-init
loop-i-init g c = λ k l. absurd (omega arith)

pub loop-i-preserved : goal.loop-i-preserved
loop-i-preserved g c = first_accepted_more c.args.first c.loop-i.i (g.W.Words.words c.args.words.now) (omega arith) (omega arith) c.loop-i.invariant
    ((λ t. refusal (c.loop-i.i - c.args.first) (sym c.word-id.ensures t) (sym c.word.ensures t)) ∙ sym c.word_refusal.ensures ∙ c.in_default.is)

pub returns-in-Some-clause-before : goal.returns-in-Some-clause-before
returns-in-Some-clause-before g c = c.loop-i.invariant

pub returns-clause-none : goal.returns-clause-none
returns-clause-none g c = λ k l. c.loop-i.invariant k (omega arith)
