use Rattle.svga_driver.proofs.ChainLaws.{forgets}
use Rattle.svga_driver.proofs.walking.forget.Goals as goal

pub returns-clause-admissible : goal.returns-clause-admissible
returns-clause-admissible c = λ s same. forgets c.args.shape.now c.args.id c.requires.region s
