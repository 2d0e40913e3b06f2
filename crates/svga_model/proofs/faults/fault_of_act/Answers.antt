use Rattle.svga_model.proofs.StandingLaws.{least_none, least_some, none_least}
use Rattle.svga_model.proofs.ActLaws.{fault_is}
use Rattle.svga_model.proofs.faults.fault_of_act.Goals as goal
use Rattle.std.proofs.Common.{◌∙◌, sym}
use Rattle.svga_model.specs.Faults.{act_tests}

pub returns-clause-some : goal.returns-clause-some
returns-clause-some c = λ s act f e. least_some (act_tests s act) f (sym (fault_is s act) ∙ e)

pub returns-clause-none : goal.returns-clause-none
returns-clause-none c = λ s act. (
  λ e. least_none (act_tests s act) (sym (fault_is s act) ∙ e),
  λ none. fault_is s act ∙ none_least (act_tests s act) none,
)
