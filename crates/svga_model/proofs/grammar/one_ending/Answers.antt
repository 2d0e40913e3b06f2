use Rattle.svga_model.proofs.GrammarEndings.{one_ending, some_ending}
use Rattle.svga_model.proofs.GrammarFronts.{one_front}
use Rattle.svga_model.proofs.grammar.one_ending.Goals as goal

pub returns-clause-some_ending : goal.returns-clause-some_ending
returns-clause-some_ending c = some_ending

pub returns-clause-one_front : goal.returns-clause-one_front
returns-clause-one_front c = one_front

pub returns-clause-one_ending : goal.returns-clause-one_ending
returns-clause-one_ending c = one_ending
