use Rattle.std.proofs.Common.{◌∙◌}
use Rattle.svga_model.proofs.ActLaws.{fault_is}
use Rattle.svga_model.proofs.ShapeLaws.{bytes_add, judged_whole, none_adds, told_stays}
use Rattle.svga_model.specs.Acts.{Do}
use Rattle.svga_model.proofs.faults.judged_without_bytes.Goals as goal

pub returns-clause-refused : goal.returns-clause-refused
returns-clause-refused c = λ s command f e. fault_is s (Do command) ∙ told_stays _ _ f (bytes_add s command) e

pub returns-clause-admitted : goal.returns-clause-admitted
returns-clause-admitted c = λ s command e. none_adds _ _ _ (bytes_add s command) (fault_is s (Do command)) e

pub returns-clause-whole : goal.returns-clause-whole
returns-clause-whole c = λ s command named. fault_is s (Do command) ∙ judged_whole s command named
