use Rattle.svga_model.proofs.GrammarBadWords.{viable_front}
use Rattle.svga_model.proofs.GrammarEndings.{good_viable}
use Rattle.svga_model.proofs.grammar.viable_words.Goals as goal

pub returns-clause-beginning : goal.returns-clause-beginning
returns-clause-beginning c = viable_front

pub returns-clause-no_bad_word : goal.returns-clause-no_bad_word
returns-clause-no_bad_word c = good_viable
