use Rattle.svga_decode.proofs.FeedLaws.{same_answer}
use Rattle.svga_decode.proofs.laws.one_answer.Goals as goal
use Rattle.svga_decode.specs.declared.answer.Fed.TheVariants.{More, Whole}

pub returns-clause-one_answer : goal.returns-clause-one_answer
returns-clause-one_answer c = same_answer

pub returns-clause-before_last : goal.returns-clause-before_last
returns-clause-before_last c = λ command ws rest next fed s answer. same_answer ws fed More answer (command, next, rest, s)

pub returns-clause-at_last : goal.returns-clause-at_last
returns-clause-at_last c = λ command ws fed s answer. same_answer ws fed Whole answer (command, s)
