use Rattle.svga_model.proofs.GrammarBadWords.{bad_word_refused, front_at_bad_word, front_up_to_bad_word, one_bad_word, table_bad_word}
use Rattle.svga_model.proofs.grammar.refused_word.Goals as goal

pub returns-clause-refused : goal.returns-clause-refused
returns-clause-refused c = λ ws cs k words within viable front. (
  bad_word_refused ws cs k words front,
  λ refused. table_bad_word ws cs k refused.0 within viable front refused.1,
)

pub returns-clause-front : goal.returns-clause-front
returns-clause-front c = λ ws cs k bad. (front_at_bad_word ws cs k bad, front_up_to_bad_word ws cs k bad)

pub returns-clause-one_bad_word : goal.returns-clause-one_bad_word
returns-clause-one_bad_word c = one_bad_word
